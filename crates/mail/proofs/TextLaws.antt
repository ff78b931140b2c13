-- A cell's character and marks, and the text of a row's cells one after the other.
use mathlib.Core.Path.{◌≡◌, ◌∙◌}
use mathlib.Core.Bool.{true}
use mathlib.Core.List.{List, [], ◌∷◌, ◌++◌, map, append_assoc}
use Prim.Native.Nat.{ℕ, ◌+◌, ◌/◌, ◌%◌, ◌<◌, ◌≤◌}
use native.Mathlib.Omega.{arith}
use native.Mathlib.Nat.{div-one}
use native.Mathlib.Numerals.{add-one}
use lib.ListN.{length, length-map, get_or, drop, drop_of_length-le, get_or-map}
use lib.Seq.{drop-cons}
use lib.Dec.{eqb}
use borrow.Author.Tests.{leb-true}
use Rattle.memory.specs.Word.{when◌then◌else◌}
use Rattle.memory.proofs.ReadBounds.{if-cases, both}
use Rattle.codes.specs.Attribute.{code_of, attribute_of}
use Rattle.mail.specs.Mail.{is_character, character_for, marks_for, marked, character_of, marks_of, text_cell, sequence, change, row_end, cells_text}

-- a character is one of 20h to 7Eh
pub character-range : (c : ℕ) → is_character c ≡ true → (0x20 ≤ c) × (c ≤ 0x7e)
character-range c e = let h = both _ _ e in (leb-true _ _ h.0, leb-true _ _ h.1)

character-small : (code : ℕ) → character_for code ≤ 0x7e
character-small code = if-cases (λ (n : ℕ). n ≤ 0x7e) (is_character code) (λ e. (character-range code e).1) (λ _. omega arith)

-- the parts of a cell, from its two parts
pub parts : (c n : ℕ) → c ≤ 0x7e → (character_of (marked c n) ≡ c) × (marks_of (marked c n) ≡ n)
parts c n h = (omega arith, omega arith)

pub text-character : (cell : ℕ) → character_of (text_cell cell) ≡ character_for (code_of cell)
unfolding text_cell
text-character cell = (parts (character_for (code_of cell)) (marks_for (attribute_of cell)) (character-small (code_of cell))).0

pub text-marks : (cell : ℕ) → marks_of (text_cell cell) ≡ marks_for (attribute_of cell)
unfolding text_cell
text-marks cell = (parts (character_for (code_of cell)) (marks_for (attribute_of cell)) (character-small (code_of cell))).1

abbrev mark : ℕ → ℕ → List ℕ
mark bit digit = when eqb bit 1 then 0x3b ∷ digit ∷ [] else []

-- a sequence after other bytes, piece by piece
pub pieces : (out : List ℕ) (marks : ℕ)
    → out ++ (0x1b ∷ 0x5b ∷ 0x30 ∷ []) ++ mark (marks % 2) 0x31 ++ mark (marks / 2 % 2) 0x34 ++ mark (marks / 4 % 2) 0x35 ++ mark (marks / 8 % 2) 0x37 ++ (0x6d ∷ [])
    ≡ out ++ sequence marks
unfolding sequence
pieces out marks =
    rw (div-one marks)
    (regroup out (0x1b ∷ 0x5b ∷ 0x30 ∷ []) (mark (marks % 2) 0x31) (mark (marks / 2 % 2) 0x34) (mark (marks / 4 % 2) 0x35) (mark (marks / 8 % 2) 0x37) (0x6d ∷ []))
  where
    regroup : (o a b c d e f : List ℕ) → o ++ a ++ b ++ c ++ d ++ e ++ f ≡ o ++ (a ++ b ++ c ++ d ++ e ++ f)
    regroup o a b c d e f = simp append_assoc

-- the cells from i on: one more, and the end
cells-next : (before : ℕ) (l : List ℕ) (i d : ℕ) → i < length l
    → cells_text before (drop i l) ≡ change before (marks_of (get_or l i d)) ++ character_of (get_or l i d) ∷ cells_text (marks_of (get_or l i d)) (drop (i + 1) l)
unfolding cells_text
cells-next before l i d h = rw (add-one, drop-cons l i d h)

pub cells-end : (before : ℕ) (l : List ℕ) (i : ℕ) → length l ≤ i → cells_text before (drop i l) ≡ row_end
unfolding cells_text
cells-end before l i h = rw (drop_of_length-le l h)

-- a text that goes on with the cells of a row buffer, after one more of them
pub goes_on : (whole out next cells : List ℕ) (before i : ℕ) → i < length cells
    → whole ≡ out ++ cells_text before (drop i (map text_cell cells))
    → next ≡ out ++ change before (marks_of (text_cell (get_or cells i 0))) ++ (character_of (text_cell (get_or cells i 0)) ∷ [])
    → whole ≡ next ++ cells_text (marks_of (text_cell (get_or cells i 0))) (drop (i + 1) (map text_cell cells))
goes_on whole out next cells before i h e n =
    e ∙ rw (cells-next before (map text_cell cells) i (text_cell 0) (simp length-map h), get_or-map text_cell cells i 0, n) (simp append_assoc)
