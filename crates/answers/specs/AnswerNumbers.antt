-- Answers as numbers at their places.
use Rattle.std.specs.Prelude.{ℕ, List, [], ◌∷◌, set}
use Rattle.memory.specs.declared.Refusal.{Refusal}
use Rattle.blocks.specs.declared.RowFormat.{RowFormat}
use Rattle.settings.specs.declared.Sheet.{Sheet}
use Rattle.row.specs.declared.DrawnRow.{DrawnRow}

-- An answer begins with the row and the address of a refusal, and where the pointer of a refusal 7 begins; these addresses are 0 in an
-- accepted call. What an accepted call gives follows.
unfoldable pub sheet_numbers : Sheet → List ℕ
sheet_numbers t =
    0 ∷ 0 ∷ 0 ∷ t.even.sync ∷ t.even.back ∷ t.even.rise ∷ t.even.active ∷ t.even.front ∷ t.even.field
    ∷ t.odd.sync ∷ t.odd.back ∷ t.odd.rise ∷ t.odd.active ∷ t.odd.front ∷ t.odd.field ∷ t.lines
    ∷ t.clocks.sync ∷ t.clocks.period ∷ t.clocks.rise ∷ t.clocks.fall ∷ t.invoking ∷ []

-- the words of a start; the latch that an effect makes
abbrev pub one_number : ℕ → List ℕ
one_number n = 0 ∷ 0 ∷ 0 ∷ n ∷ []

-- a row of this number, with these lines, this format and this word count
abbrev pub row_told : ℕ → ℕ → RowFormat → ℕ → List ℕ
row_told number lines f words = number ∷ 0 ∷ 0 ∷ lines ∷ f.attributes ∷ f.curs ∷ f.cure ∷ words ∷ []

unfoldable pub row_numbers : DrawnRow → List ℕ
row_numbers d = row_told d.number d.lines d.format d.words

-- an answer with a refusal in it
abbrev pub with_refusal : Refusal → List ℕ → List ℕ
with_refusal r answer = set (set (set answer 0 r.row) 1 r.address) 2 r.from
