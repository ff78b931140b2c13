-- Document 01, of the settings sheet: "how many of the 256 codes invoke an attribute".
use Rattle.std.specs.Prelude.{ℕ, zero, suc, ◌+◌, ◌<◌, ◌≡◌, Bool}
use Rattle.memory.specs.Word.{when◌then◌else◌}
use Rattle.settings.specs.Timing.{invoking_codes}
use Rattle.codes.specs.Attribute.{invokes}

-- how many of the numbers below n pass a test
unfoldable pub how_many : (ℕ → Bool) → ℕ → ℕ
how_many test zero = 0
how_many test (suc n) = (when test n then 1 else 0) + how_many test n

-- the sheet's number is that of the codes that invoke, for every attribute flag
abbrev pub CodesThatInvoke : Type 0
CodesThatInvoke = (flag : ℕ) → flag < 65536 → how_many (invokes flag) 256 ≡ invoking_codes flag
