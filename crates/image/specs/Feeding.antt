-- A script read byte by byte with its registers, as the code does. That this is the script by its records is `Reading.read-image`.
use Rattle.std.specs.Prelude.{ℕ, ◌&&◌, List, [], ◌∷◌, set, replicate, eqb}
use Rattle.memory.specs.Word.{when◌then◌else◌}
use Rattle.script.specs.declared.Script.{Script}
use Rattle.script.specs.declared.Step.{Step}
use Rattle.script.specs.declared.Step.TheVariants.{More, Draw, Refused}
use Rattle.script.specs.Records.{address, value}
use Rattle.script.specs.Feeding.{Stepped, stepped, step_of, beginning}

-- where a record of a register has just ended, its value is that register's; else all are as before
abbrev pub registers_at : Script → List ℕ → List ℕ
registers_at s rs = when eqb s.kind 1 && eqb s.left 0 then set rs (address s.body) (value s.body) else rs

abbrev pub noted : Step → List ℕ → List ℕ
noted (More s) rs = registers_at s rs
noted (Draw σ) rs = rs
noted (Refused n) rs = rs

-- what bytes lead to, and what registers and memory then hold
pub record Fed : Type 0 where
  pub stepped : Stepped
  pub registers : List ℕ

abbrev pub fed : Step → (registers memory : List ℕ) → Fed
fed o rs m = record { stepped = stepped o m; registers = rs }

abbrev pub noting : List ℕ → Stepped → Fed
noting rs t = record { stepped = t; registers = noted t.outcome rs }

unfoldable pub byte_of : Script → ℕ → (registers memory : List ℕ) → Fed
byte_of s b rs m = noting rs (step_of s b m)

-- go on with the bytes that follow, unless a draw or a refusal stops the script
abbrev go_on : Step → (registers memory : List ℕ) → (Script → List ℕ → List ℕ → Fed) → Fed
go_on (More s) rs m next = next s rs m
go_on (Draw σ) rs m next = fed (Draw σ) rs m
go_on (Refused n) rs m next = fed (Refused n) rs m

abbrev pub onward : Fed → (Script → List ℕ → List ℕ → Fed) → Fed
onward t next = go_on t.stepped.outcome t.registers t.stepped.memory next

unfoldable pub feeding : List ℕ → Script → (registers memory : List ℕ) → Fed
feeding [] s rs m = fed (More s) rs m
feeding (b ∷ bs) s rs m = onward (byte_of s b rs m) (feeding bs)

-- a script that is read in parts
unfoldable pub in_parts : List (List ℕ) → Script → (registers memory : List ℕ) → Fed
in_parts [] s rs m = fed (More s) rs m
in_parts (part ∷ parts) s rs m = onward (feeding part s rs m) (in_parts parts)

-- a whole script, on registers and memory that are 0
abbrev pub read_parts : List (List ℕ) → Fed
read_parts parts = in_parts parts beginning (replicate 25 0) (replicate 16384 0)
