-- Document 02, §5: "in half lines per field, the first field after enable even".
use Rattle.std.specs.Prelude.{ℕ, zero, suc, ◌+◌, ◌%◌}
use Rattle.memory.specs.Word.{when◌then◌else◌}
use Rattle.settings.specs.declared.Interlace.{Interlace}
use Rattle.settings.specs.declared.Interlace.TheVariants.{Progressive, RepeatField, Video}
use Rattle.settings.specs.declared.Field.{Field}
use Rattle.settings.specs.declared.Field.TheVariants.{Even, Odd}
use Rattle.settings.specs.declared.Settings.{Settings}
use Rattle.settings.specs.declared.Timing.{Timing}
use Rattle.settings.specs.declared.Sheet.{Sheet}
use Rattle.settings.specs.Good.{even}
use Rattle.settings.specs.Timing.{timing}

-- field n after enable, n from 0
abbrev pub field_at : ℕ → Field
field_at n = when even n then Even else Odd

-- a field's parts, from the sheet
abbrev pub parts_of : Sheet → Field → Timing
parts_of sheet Even = sheet.even
parts_of sheet Odd = sheet.odd

-- the half lines from enable to the end of the first n fields
unfoldable pub after_fields : Settings → ℕ → ℕ
after_fields σ zero = 0
after_fields σ (suc n) = after_fields σ n + (timing σ (field_at n)).field

-- "one interlaced field ends on a half line, two on a whole one": the half lines by which the end of the first n fields is past a whole line
abbrev pub past : Interlace → ℕ → ℕ
past Progressive n = 0
past RepeatField n = n % 2
past Video n = n % 2
