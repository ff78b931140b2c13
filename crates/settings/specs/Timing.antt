-- Document 01, "Timing in half lines", and document 02, §5: the vertical counts of a field, the lines for rows, the horizontal clocks, the
-- invoking codes.
use Rattle.std.specs.Prelude.{ℕ, zero, suc, ◌+◌, ◌-◌, ◌*◌, ◌/◌}
use Rattle.std.specs.Int.Count.{ones}
use Rattle.memory.specs.Word.{high}
use Rattle.settings.specs.declared.Interlace.{Interlace}
use Rattle.settings.specs.declared.Interlace.TheVariants.{Progressive, RepeatField, Video}
use Rattle.settings.specs.declared.Edition.{Edition}
use Rattle.settings.specs.declared.Edition.TheVariants.{Am8052, Z8052}
use Rattle.settings.specs.declared.Field.{Field}
use Rattle.settings.specs.declared.Field.TheVariants.{Even, Odd}
use Rattle.settings.specs.declared.Settings.{Settings}
use Rattle.settings.specs.declared.Timing.{Timing}
use Rattle.settings.specs.declared.Clocks.{Clocks}

-- half lines to each count of the table: its column "none" has twice the column "RFI, IV"
abbrev pub half_lines : Interlace → ℕ
half_lines Progressive = 2
half_lines RepeatField = 1
half_lines Video = 1

abbrev pub parity : Field → ℕ
parity Even = 0
parity Odd = 1

-- What is added to VSD in the back porch, and to VAL from sync fall to blank rise: 1 in the table. 02, of the Z8052: "VSD/2 lines in the
-- even field and (VSD+1)/2 in the odd one, and sync fall to blank rise as VAL/2 and (VAL+1)/2", "mode none as in the first"
abbrev pub added : Edition → Interlace → Field → ℕ
added Am8052 mode field = 1
added Z8052 Progressive field = 1
added Z8052 RepeatField field = parity field
added Z8052 Video field = parity field

-- The table's rows: sync, back porch, active, front porch, field; and sync fall to blank rise, back porch and active. "The front porch takes
-- the rest of the field, whose length stays": of the VTOT+1 counts after sync, those after the rise of blank
unfoldable pub timing : Settings → Field → Timing
timing σ field = record {
  sync = half_lines σ.interlace * (σ.vsw + 1);
  back = half_lines σ.interlace * (σ.vsd + added σ.edition σ.interlace field);
  rise = half_lines σ.interlace * (σ.val + added σ.edition σ.interlace field);
  active = half_lines σ.interlace * (σ.val - σ.vsd);
  front = half_lines σ.interlace * (σ.vtot + 1 - (σ.val + added σ.edition σ.interlace field));
  field = half_lines σ.interlace * (σ.vsw + σ.vtot + 2);
}

-- "Lines for rows: VAL-VSD in none and IV, half that in RFI."
abbrev pub lines_in : Interlace → ℕ → ℕ
lines_in Progressive n = n
lines_in RepeatField n = n / 2
lines_in Video n = n

unfoldable pub lines_for_rows : Settings → ℕ
lines_for_rows σ = lines_in σ.interlace (σ.val - σ.vsd)

-- "Horizontal clocks: sync HSYNC+1, period HTC+1, sync rise to blank rise HTD+1, sync rise to blank fall HSD+1."
unfoldable pub clocks : Settings → Clocks
clocks σ = record { sync = σ.hsync + 1; period = σ.htc + 1; rise = σ.htd + 1; fall = σ.hsd + 1 }

-- "how many of the 256 codes invoke an attribute: 256 halved once for each one in the mask"
unfoldable pub halved : ℕ → ℕ → ℕ
halved zero n = n
halved (suc k) n = halved k (n / 2)

unfoldable pub invoking_codes : ℕ → ℕ
invoking_codes flag = halved (ones (high flag)) 256
