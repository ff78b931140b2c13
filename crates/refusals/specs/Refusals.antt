-- Document 01, "What a refused call says", and 02: the numbers that each call can answer with. "5 withdrawn, its number unused".
use Rattle.std.specs.Prelude.{ℕ, Bool, true, false, ◌&&◌, ◌||◌, List, [], ◌∷◌, ◌++◌, eqb, Result, Ok, Err, Option, Some, None}
use Rattle.memory.specs.declared.Refusal.{Refusal}
use Rattle.settings.specs.declared.Sheet.{Sheet}
use Rattle.bus.specs.declared.Figures.{Figures}
use Rattle.joining.specs.declared.Part.{Part}
use Rattle.joining.specs.declared.Part.TheVariants.{Keep, Set, Refuse}
use Rattle.start.specs.declared.Started.{Started}
use Rattle.scroll.specs.declared.FrameShift.{FrameShift}
use Rattle.row.specs.declared.DrawnRow.{DrawnRow}
use Rattle.effect.specs.declared.EffectAnswer.{EffectAnswer}
use Rattle.beside.specs.declared.BesideRow.{BesideRow}
use Rattle.mending.specs.declared.MendAnswer.{MendAnswer}
use Rattle.mending.specs.declared.MendAnswer.TheVariants as Mend
use Rattle.converter.specs.declared.Conversion.{Conversion}

-- "The settings sheet gives these, or refusal 2"
abbrev pub sheet_numbers : List ℕ
sheet_numbers = 2 ∷ []

-- "Start: 2, 6, 7 for the main block, then 7 and 8 for the first window." 02: "14, enable and window set, in starts too, after a main
-- block's", and "17, segmented in a start, row, effect or shift call, just after 2"
abbrev pub start_numbers : List ℕ
start_numbers = 2 ∷ 17 ∷ 6 ∷ 7 ∷ 14 ∷ 8 ∷ []

-- 02, of a shift call: "3 (after 2)", and "a start's and a row's as met": the main blocks' 6, 7 and 14, and 7 for the row block
abbrev pub shift_numbers : List ℕ
shift_numbers = 2 ∷ 17 ∷ 3 ∷ 6 ∷ 7 ∷ 14 ∷ []

-- A row once its settings and its state are checked: "a due window (7, 8); the whole row block, then its redefinition (7), 9, 10; window
-- row block (7), 9, 11; 12; then cells as met (7, 13)".
abbrev pub drawing_numbers : List ℕ
drawing_numbers = 7 ∷ 8 ∷ 9 ∷ 10 ∷ 11 ∷ 12 ∷ 13 ∷ []

-- An effect "takes a row's checks but 1": 2 to 4, and the drawing's.
abbrev pub effect_numbers : List ℕ
effect_numbers = 2 ∷ 17 ∷ 3 ∷ 4 ∷ drawing_numbers

abbrev pub row_numbers : List ℕ
row_numbers = 1 ∷ effect_numbers

-- with a list, 02: "25, another number of list places, just after 1"
abbrev pub start_listed_numbers : List ℕ
start_listed_numbers = 25 ∷ start_numbers

abbrev pub row_listed_numbers : List ℕ
row_listed_numbers = 1 ∷ 25 ∷ effect_numbers

-- 02, of the row beside the cut, which has a list: it comes "under the same rules", a row's "up", and "down .. row 0 of a start there", which
-- adds 6 and 14. It never meets 4: up it is "given one line", and a start's state has lines.
abbrev pub beside_numbers : List ℕ
beside_numbers = 1 ∷ 25 ∷ 2 ∷ 17 ∷ 3 ∷ 6 ∷ 14 ∷ drawing_numbers

-- 02, of mending: "2, 6, 14, 17 and 7 on a main block, met at any start, are given as they are"; every other refusal blames a pointer
abbrev pub mend_numbers : List ℕ
mend_numbers = 2 ∷ 17 ∷ 6 ∷ 7 ∷ 14 ∷ []

-- 02, of the converter: "22, another number of marks, first; 26, linear settings, after 2; 18 .. 19 .. and the drawing's own, as the walk
-- meets them". It never meets 3: a start's and its rows' states are in range, which is proved of linear ones (`blame`), and here 3 is kept.
abbrev pub convert_numbers : List ℕ
convert_numbers = 22 ∷ 2 ∷ 26 ∷ 18 ∷ 19 ∷ 6 ∷ 14 ∷ 3 ∷ drawing_numbers

-- 02, of a writer call: "15, write to an odd address or outside the desk's span or memory, nothing written; 16, spans that share an
-- address, before 15"
abbrev pub writer_numbers : List ℕ
writer_numbers = 16 ∷ 15 ∷ []

-- 02, of a bus report: "20, burst count 0; 21, a total that would not fit, totals unchanged"
abbrev pub bus_numbers : List ℕ
bus_numbers = 20 ∷ 21 ∷ []

-- 02, of the calls on a row's text, of which the writer has a row and settings: "1 and 2; 24, text not of this form ..; then 23, buffer too
-- short, untouched"
abbrev pub write_mail_numbers : List ℕ
write_mail_numbers = 1 ∷ 2 ∷ 23 ∷ []

abbrev pub read_mail_numbers : List ℕ
read_mail_numbers = 24 ∷ 23 ∷ []

-- the number that an answer has, where it is a refusal; an effect's parts have one each
abbrev pub of_sheet : Result Sheet Refusal → List ℕ
of_sheet (Ok s) = []
of_sheet (Err r) = r.number ∷ []

abbrev pub of_start : Result Started Refusal → List ℕ
of_start (Ok s) = []
of_start (Err r) = r.number ∷ []

abbrev pub of_shift : Result FrameShift Refusal → List ℕ
of_shift (Ok s) = []
of_shift (Err r) = r.number ∷ []

abbrev pub of_row : Result DrawnRow Refusal → List ℕ
of_row (Ok d) = []
of_row (Err r) = r.number ∷ []

abbrev pub of_write : Result (Unit {0}) Refusal → List ℕ
of_write (Ok tt) = []
of_write (Err r) = r.number ∷ []

abbrev pub of_bus : Result Figures Refusal → List ℕ
of_bus (Ok f) = []
of_bus (Err r) = r.number ∷ []

abbrev pub of_written : Result ℕ Refusal → List ℕ
of_written (Ok n) = []
of_written (Err r) = r.number ∷ []

abbrev pub of_read : Result ℕ Refusal → List ℕ
of_read (Ok n) = []
of_read (Err r) = r.number ∷ []

abbrev pub of_part : Part → List ℕ
of_part Keep = []
of_part (Set w) = []
of_part (Refuse r) = r.number ∷ []

abbrev pub of_effect : EffectAnswer → List ℕ
of_effect e = of_part e.effect.clear ++ of_part e.effect.set

abbrev pub of_beside : Result (Option BesideRow) Refusal → List ℕ
of_beside (Ok None) = []
of_beside (Ok (Some d)) = []
of_beside (Err r) = r.number ∷ []

abbrev pub of_mend : MendAnswer → List ℕ
of_mend Mend.Whole = []
of_mend (Mend.Changed c σ) = []
of_mend (Mend.Refused r) = r.number ∷ []

abbrev pub of_convert : Result Conversion Refusal → List ℕ
of_convert (Ok c) = []
of_convert (Err r) = r.number ∷ []

-- whether a list has a number, and whether it has all of another's
abbrev pub has : ℕ → List ℕ → Bool
has n [] = false
has n (x ∷ xs) = eqb n x || has n xs

abbrev pub within : List ℕ → List ℕ → Bool
within [] ns = true
within (x ∷ xs) ns = has x ns && within xs ns
