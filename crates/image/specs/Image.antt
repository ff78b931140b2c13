-- The image of a script: all that its records can say, switches, registers and memory.
use Rattle.std.specs.Prelude.{ℕ, ◌+◌, ◌*◌, Bool, true, false, List, [], ◌∷◌}
use Rattle.settings.specs.declared.Settings.{Settings}
use Rattle.settings.specs.Good.{interlace_number}
use Rattle.script.specs.Records.{switched, registered}
use Rattle.script.specs.Script.{unset, script}
use Rattle.script.specs.Script as Script
use Rattle.image.specs.Registers.{registers_of}

pub record Image : Type 0 where
  pub switches : ℕ
  pub registers : List ℕ
  pub memory : List ℕ

-- 01: "3: switches (1): bit 0 linear, 1 DH, 3..2 interlace 0 none 1 RFI 2 IV, 4 cursor". Settings hold all of them
abbrev pub as_bit : Bool → ℕ
as_bit false = 0
as_bit true = 1

unfoldable pub switches_of : Settings → ℕ
switches_of σ = as_bit σ.linear + 2 * as_bit σ.hidden + 4 * interlace_number σ.interlace + 16 * as_bit σ.cursor

abbrev pub image_of : Settings → (registers memory : List ℕ) → Image
image_of σ rs m = record { switches = switches_of σ; registers = rs; memory = m }

-- what a script comes to: its image, or the N of `refused script at N`
pub data Outcome : Type 0 where
  drawn : Image → Outcome
  refused_at : ℕ → Outcome

abbrev pub with_registers : List ℕ → Script.Outcome → Outcome
with_registers rs (Script.drawn σ m) = drawn (image_of σ rs m)
with_registers rs (Script.refused_at n) = refused_at n

-- the image of a script's bytes
unfoldable pub image : List ℕ → Outcome
image bytes = with_registers (registers_of bytes) (script bytes)

-- the settings of an image: each register, from number r on, in the fields that it holds
unfoldable pub registered_from : ℕ → List ℕ → Settings → Settings
registered_from r [] σ = σ
registered_from r (v ∷ vs) σ = registered_from (r + 1) vs (registered r v σ)

unfoldable pub settings_of : Image → Settings
settings_of i = registered_from 0 i.registers (switched i.switches unset)
