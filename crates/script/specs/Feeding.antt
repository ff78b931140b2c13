-- A script read byte by byte, as the code does: what a byte leads to from where the script stands. That this is the script by its records
-- is `ByRecords.read-script`.
use Rattle.std.specs.Prelude.{ℕ, ◌+◌, ◌-◌, ◌*◌, ◌%◌, ◌^◌, List, [], ◌∷◌, ◌++◌, replicate, ◌==◌, nat_le}
use Rattle.memory.specs.Word.{when◌then◌else◌}
use Rattle.settings.specs.declared.Settings.{Settings}
use Rattle.script.specs.declared.Script.{Script}
use Rattle.script.specs.declared.Step.{Step}
use Rattle.script.specs.declared.Step.TheVariants.{More, Draw, Refused}
use Rattle.script.specs.Records.{body_length, accepted, settings_after, memory_after}
use Rattle.script.specs.Script.{Outcome, drawn, refused_at, unset}

-- where a script begins, with no record in hand
unfoldable pub beginning : Script
beginning = record { settings = unset; read = 0; start = 0; kind = 0; left = 0; body = 0 }

-- one byte more is read; bytes are counted with 64 bits
abbrev pub counted : ℕ → ℕ
counted n = (n + 1) % 2 ^ 64

-- the byte of kind
unfoldable pub begun : Script → ℕ → Step
begun s kind =
    when kind == 0 then Draw s.settings
    else when nat_le kind 3
    then More (record { settings = s.settings; read = counted s.read; start = s.read; kind = kind; left = body_length kind; body = 0 })
    else Refused s.read

-- a byte of the body: no body has more than five
unfoldable pub taken : Script → ℕ → Script
taken s b = record {
  settings = s.settings;
  read = counted s.read;
  start = s.start;
  kind = s.kind;
  left = s.left - 1;
  body = (s.body * 256 + b) % 2 ^ 40;
}

-- what a byte leads to, and what memory then holds
pub record Stepped : Type 0 where
  pub outcome : Step
  pub memory : List ℕ

abbrev pub stepped : Step → List ℕ → Stepped
stepped o m = record { outcome = o; memory = m }

abbrev pub with_settings : Settings → Script → Script
with_settings σ s = record { settings = σ; read = s.read; start = s.start; kind = s.kind; left = s.left; body = s.body }

-- a record whose body is there
unfoldable pub ended : Script → List ℕ → Stepped
ended s m =
    when accepted s.kind s.body
    then stepped (More (with_settings (settings_after s.kind s.body s.settings) s)) (memory_after s.kind s.body m)
    else stepped (Refused s.start) m

unfoldable pub step_of : Script → ℕ → List ℕ → Stepped
step_of s b m =
    when s.left == 0 then stepped (begun s b) m
    else when s.left == 1 then ended (taken s b) m
    else stepped (More (taken s b)) m

-- go on with the bytes that follow, unless a draw or a refusal stops the script
abbrev go_on : Step → List ℕ → (Script → List ℕ → Stepped) → Stepped
go_on (More s) m next = next s m
go_on (Draw σ) m next = stepped (Draw σ) m
go_on (Refused n) m next = stepped (Refused n) m

abbrev pub onward : Stepped → (Script → List ℕ → Stepped) → Stepped
onward t next = go_on t.outcome t.memory next

unfoldable pub feeding : List ℕ → Script → List ℕ → Stepped
feeding [] s m = stepped (More s) m
feeding (b ∷ bs) s m = onward (step_of s b m) (feeding bs)

-- the offset told where the input ends
abbrev pub at_end : Script → ℕ
at_end s = s.read

-- what a script comes to whose input ends here
abbrev outcome_by : Step → List ℕ → Outcome
outcome_by (More s) m = refused_at (at_end s)
outcome_by (Draw σ) m = drawn σ m
outcome_by (Refused n) m = refused_at n

abbrev pub outcome : Stepped → Outcome
outcome t = outcome_by t.outcome t.memory

-- a script that is read in parts, and the bytes that these are together
unfoldable pub in_parts : List (List ℕ) → Script → List ℕ → Stepped
in_parts [] s m = stepped (More s) m
in_parts (part ∷ parts) s m = onward (feeding part s m) (in_parts parts)

unfoldable pub joined : List (List ℕ) → List ℕ
joined [] = []
joined (part ∷ parts) = part ++ joined parts

-- a whole script, on memory that is 0
abbrev pub read_parts : List (List ℕ) → Stepped
read_parts parts = in_parts parts beginning (replicate 16384 0)
