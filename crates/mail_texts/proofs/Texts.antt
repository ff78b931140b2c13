-- Rows of cells and the texts that the writer writes are the same thing: for any cells of a row there are settings and a row buffer.
use mathlib.Core.Path.{◌≡◌, refl, sym, ap, ◌∙◌}
use mathlib.Core.List.{List, [], ◌∷◌, ◌++◌, map}
use Prim.Native.Nat.{ℕ, zero, suc, ◌+◌, ◌-◌, ◌*◌, ◌/◌, ◌%◌, ◌^◌, ◌<◌, ◌≤◌}
use native.Mathlib.Omega.{arith}
use lib.ListN.{length, take, replicate, length-append, length-map, length-replicate}
use lib.Seq.{take_at}
use lib.Dec.{lit<}
use Rattle.codes.specs.Attribute.{code_of, attribute_of}
use Rattle.settings.specs.Good.{shown_columns}
use Rattle.mail.specs.Mail.{marks_for, character_of, marks_of, text_cell, row_text, shown_cells}
use Rattle.mail.specs.Texts.{Each, IsCell, RowCells, WrittenText}
use Rattle.mail.proofs.Below.{below}
use Rattle.mail.proofs.TextLaws.{character-range}
use Rattle.mail.proofs.CellLaws.{showing, showing-good, showing-columns, shown-are-cells}

-- a cell of a row buffer with a text's character and marks
attribute : ℕ → ℕ
attribute m = m % 2 * 64 + m / 2 % 2 * 2 + m / 4 % 2 + m / 8 % 2 * 32

attribute-small : (m : ℕ) → attribute m < 128
unfolding attribute
attribute-small m = omega arith

attribute-marks : (m : ℕ) → m < 16 → marks_for (attribute m) ≡ m
unfolding attribute
attribute-marks m h =
    below (λ n. marks_for (attribute n) ≡ n) 16
    (refl, (refl, (refl, (refl, (refl, (refl, (refl, (refl, (refl, (refl, (refl, (refl, (refl, (refl, (refl, (refl, tt)))))))))))))))) m h

buffer-cell : ℕ → ℕ
buffer-cell c = character_of c + attribute (marks_of c) * 256

both-parts : (c a : ℕ) → c ≤ 0x7e → a < 128 → (code_of (c + a * 256) ≡ c) × (attribute_of (c + a * 256) ≡ a)
both-parts c a h k =
    let q : (c + a * 256) / 256 ≡ a = omega arith in
    (omega arith, rw q (omega arith))

buffer-text : (c : ℕ) → IsCell c → text_cell (buffer-cell c) ≡ c
unfolding buffer-cell text_cell
buffer-text c h =
    let p = both-parts (character_of c) (attribute (marks_of c)) (character-range (character_of c) h.character).1 (attribute-small (marks_of c)) in
    rw (p.0, p.1, h.character, attribute-marks (marks_of c) h.marks) (omega arith)

all-text : (cs : List ℕ) → Each IsCell cs → map text_cell (map buffer-cell cs) ≡ cs
all-text [] h = refl
all-text (c ∷ cs) h = rw (buffer-text c h.0, all-text cs h.1)

-- its cells are numbers of 32 bits
abbrev Sized : ℕ → Type 0
Sized c = c < 2 ^ 32

buffer-sized : (cs rest : List ℕ) → Each Sized rest → Each Sized (map buffer-cell cs ++ rest)
unfolding buffer-cell
buffer-sized [] rest h = h
buffer-sized (c ∷ cs) rest h = (omega (arith, attribute-small (marks_of c)), buffer-sized cs rest h)

zeros-sized : (n : ℕ) → Each Sized (replicate n 0)
zeros-sized zero = tt
zeros-sized (suc n) = (lit< tt, zeros-sized n)

abbrev buffer : List ℕ → List ℕ
buffer cs = map buffer-cell cs ++ replicate (132 - length cs) 0

pub row_written : (cs : List ℕ) → RowCells cs → WrittenText (row_text cs)
row_written cs h =
    let n : length (map buffer-cell cs) ≡ length cs = length-map cs buffer-cell in
    let shown : take (shown_columns (showing (length cs))) (buffer cs) ≡ map buffer-cell cs =
    ap (λ (k : ℕ). take k (buffer cs)) (showing-columns (length cs)) ∙ take_at (map buffer-cell cs) (replicate (132 - length cs) 0) (length cs) n in
    record {
      settings = showing (length cs);
      cells = buffer cs;
      accepted = showing-good (length cs) h.some h.most;
      whole = length-append (map buffer-cell cs) (replicate (132 - length cs) 0) ∙ rw (n, length-replicate {A = ℕ} (132 - length cs) 0) (omega (arith, h.most));
      sized = buffer-sized cs (replicate (132 - length cs) 0) (zeros-sized (132 - length cs));
      written = sym (ap (λ (l : List ℕ). row_text (map text_cell l)) shown ∙ ap row_text (all-text cs h.each));
    }

pub written_row : (t : List ℕ) → WrittenText t → (cs : List ℕ) × RowCells cs × (t ≡ row_text cs)
written_row t w = (shown_cells w.settings w.cells, shown-are-cells w.settings w.cells w.accepted w.whole, w.written)
