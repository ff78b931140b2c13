-- The images that a script can have: "interlace 3" is refused, registers and words have 16 bits, memory is "16,384 words". That every script that
-- draws has such a one is `Ranged.image-ranged`.
use Rattle.std.specs.Prelude.{ℕ, ◌<◌, ◌≡◌, List, length, get_or}
use Rattle.script.specs.Records.{interlace_bits}
use Rattle.image.specs.Image.{Image}

-- a list of so many 16-bit words
pub record Sixteen (n : ℕ) (ws : List ℕ) : Type 0 where
  pub size : length ws ≡ n
  pub words : (i : ℕ) → get_or ws i 0 < 65536

pub record Ranged (i : Image) : Type 0 where
  pub switches : i.switches < 32
  pub interlace : interlace_bits i.switches < 3
  pub registers : Sixteen 25 i.registers
  pub memory : Sixteen 16384 i.memory
