-- Document 01: "The settings sheet gives these, or refusal 2".
use Rattle.std.specs.Prelude.{Result, Ok, Err}
use Rattle.memory.specs.Word.{when◌then◌else◌}
use Rattle.memory.specs.Reading.{fault, refusal}
use Rattle.memory.specs.declared.Refusal.{Refusal}
use Rattle.settings.specs.declared.Field.TheVariants.{Even, Odd}
use Rattle.settings.specs.declared.Settings.{Settings}
use Rattle.settings.specs.declared.Sheet.{Sheet}
use Rattle.settings.specs.Good.{good}
use Rattle.settings.specs.Timing.{timing, lines_for_rows, clocks, invoking_codes}

unfoldable pub sheet_of : Settings → Sheet
sheet_of σ = record {
  even = timing σ Even;
  odd = timing σ Odd;
  lines = lines_for_rows σ;
  clocks = clocks σ;
  invoking = invoking_codes σ.flag;
}

-- a sheet's refusal has row 0 and address 0
unfoldable pub sheet_call : Settings → Result Sheet Refusal
sheet_call σ = when good σ then Ok (sheet_of σ) else Err (refusal 0 (fault 2))
