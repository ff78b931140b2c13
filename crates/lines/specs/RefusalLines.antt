-- Lines of refusals, computed by the definitions.
use Rattle.std.specs.Prelude.{◌≡◌, refl, ℕ}
use Rattle.memory.specs.declared.Refusal.{Refusal}
use Rattle.lines.specs.Lines.{text, digits, fewest, refusal_line, script_line}

pub refusal : ℕ → Refusal
refusal n = record { number = n; row = 4; address = 0x1abc; from = 0x20 }

pub refusal-lines :
    (refusal_line (refusal 13) ≡ text "refused 13 row 4 at 001ABC\n")
    × (refusal_line (refusal 7) ≡ text "refused 7 row 4 at 001ABC from 000020\n")
    × (script_line 0 ≡ text "refused script at 0\n")
unfolding digits fewest refusal_line script_line refusal
refusal-lines = (refl, refl, refl)
