-- A test as a number, as code has it, is 1 for yes and 0 for no.
use Rattle.std.proofs.Common.{◌≡◌, refl, ℕ, Bool, true, false}
use mir.Val.{bool_byte}
use Rattle.memory.specs.Word.{when◌then◌else◌}

pub yes-number : (b : Bool) → bool_byte b ≡ (when b then 1 else 0)
yes-number true = refl
yes-number false = refl
