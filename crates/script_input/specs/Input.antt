-- A script read from standard input. Nothing says what the input is, so what a reader gives is told of some bytes, those that it read.
use Rattle.std.specs.Prelude.{ℕ, ◌≡◌, List, replicate}
use Rattle.script.specs.declared.Script.{Script}
use Rattle.script.specs.declared.Step.{Step}
use Rattle.script.specs.declared.Step.TheVariants.{More, Refused}
use Rattle.script.specs.Feeding.{at_end}
use Rattle.image.specs.Feeding.{fed, feeding}

-- from a script, registers and memory: the bytes led to this step and left these registers and this memory. Or they led to a script that
-- wants more, and the input ended: "with N its length"
pub data Input (s : Script) (rs m : List ℕ) : Step → (registers memory : List ℕ) → Type 0 where
  led : {r : Step} {registers memory : List ℕ} (bytes : List ℕ) → fed r registers memory ≡ feeding bytes s rs m → Input s rs m r registers memory
  ended : {t : Script} {registers memory : List ℕ} (bytes : List ℕ) → fed (More t) registers memory ≡ feeding bytes s rs m
      → Input s rs m (Refused (at_end t)) registers memory

-- for settings and memory alone: registers that were 0 hold whatever the script set
pub record Drawing (s : Script) (m : List ℕ) (r : Step) (memory : List ℕ) : Type 0 where
  pub registers : List ℕ
  pub input : Input s (replicate 25 0) m r registers memory
