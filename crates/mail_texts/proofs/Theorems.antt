-- Document 02, §12, on the reader: a written text is read back; it accepts exactly the written texts; and 24's offset is the length of the
-- longest beginning of the text that some written text also has.
use mathlib.Core.Path.{◌≡◌, refl, ap, ◌∙◌}
use mathlib.Core.Bool.{true}
use mathlib.Core.List.{List, [], ◌∷◌, ◌++◌}
use Prim.Native.Nat.{ℕ, ◌+◌, ◌<◌, ◌≤◌}
use native.Mathlib.Omega.{arith}
use lib.ListN.{length, drop}
use lib.Dec.{eqb, lit<, lit≤}
use borrow.Author.Tests.{eqb-true, eqb-false}
use Rattle.memory.proofs.ReadBounds.{if-cases}
use Rattle.settings.specs.declared.Settings.{Settings}
use Rattle.settings.specs.Good.{good}
use Rattle.mail.specs.Mail.{row_start, cells_text, row_text, shown_cells, mail_text}
use Rattle.mail.specs.Texts.{RowCells, WrittenText}
use Rattle.mail.proofs.CellLaws.{shown-are-cells}
use Rattle.mail_reader.specs.Reader.{common, Outcome, row, stops, joined, cells_read, read_row}
use Rattle.mail_reader.proofs.CommonLaws.{common-left, common-right}
use Rattle.mail_texts.specs.Shared.{LongestShared, Reads}
use Rattle.mail_texts.proofs.SharedLaws.{common-append, common-after, shares-all, shared-begins, begins-shared}
use Rattle.mail_texts.proofs.Rows.{Fits, CellsRead, cells-read}
use Rattle.mail_texts.proofs.Back.{cells-back}
use Rattle.mail_texts.proofs.Texts.{row_written, written_row}

-- cells of a row, told as cells after no others
to-fits : {cs : List ℕ} → RowCells cs → Fits 132 0 cs
to-fits h = record { each = h.each; most = h.most; some = omega (arith, h.some) }

from-fits : {cs : List ℕ} → Fits 132 0 cs → RowCells cs
from-fits h = record { each = h.each; most = h.most; some = omega (arith, h.some) }

-- what the reader gives of a whole text, told over rows of cells
record Whole (t : List ℕ) (i : ℕ) : Type 0 where
  most : (cs : List ℕ) → RowCells cs → common (row_text cs) t ≤ i
  cells : List ℕ
  fit : RowCells cells
  reached : common (row_text cells) t ≡ i

abbrev WholeRead : List ℕ → Outcome → Type 0
WholeRead t (row cells) = RowCells cells × (t ≡ row_text cells)
WholeRead t (stops i) = Whole t i

question : RowCells (0x3f ∷ [])
question = record { some = lit≤ tt; most = lit≤ tt; each = (record { character = refl; marks = lit< tt }, tt) }

module _ (t : List ℕ) where
  after-start : t ≡ row_start ++ drop 4 t → (o : Outcome) → CellsRead 132 0 0 (drop 4 t) o → WholeRead t (joined [] 4 o)
  after-start q (row cs) h = (from-fits h.0, q ∙ ap (λ (r : List ℕ). row_start ++ r) h.1)
  after-start q (stops i) h = record {
    most = λ cs f. omega (arith, shared cs, h.most cs (to-fits f));
    cells = h.cells;
    fit = from-fits h.fit;
    reached = shared h.cells ∙ ap (λ (k : ℕ). 4 + k) h.reached;
  }
    where
      shared : (cs : List ℕ) → common (row_text cs) t ≡ 4 + common (cells_text 0 cs) (drop 4 t)
      shared cs = ap (common (row_text cs)) q ∙ common-append row_start (cells_text 0 cs) (drop 4 t)

  other-start : (common row_start t ≡ 4 → ⊥) → WholeRead t (stops (common row_start t))
  other-start f =
      let l : common row_start t < 4 = omega (arith, common-left row_start t) in
      record {
        most = λ cs h. omega (arith, common-after row_start (cells_text 0 cs) t l);
        cells = 0x3f ∷ [];
        fit = question;
        reached = common-after row_start (cells_text 0 (0x3f ∷ [])) t l;
      }

  whole-read : WholeRead t (read_row t)
  unfolding read_row
  whole-read =
      if-cases (WholeRead t) (eqb (common row_start t) 4)
      (λ e. after-start (shares-all row_start t (omega (arith, eqb-true (common row_start t) 4 e))) (cells_read 132 0 0 (drop 4 t)) (cells-read 132 0 0 (drop 4 t) (lit≤ tt)))
      (λ e. other-start (eqb-false (common row_start t) 4 e))

-- a row of cells is read back
row_back : (cs : List ℕ) → RowCells cs → read_row (row_text cs) ≡ row cs
unfolding read_row common
row_back cs h = ap (joined [] 4) (cells-back 132 0 0 cs (to-fits h))

-- "Read back, it gives each cell's character, or `?`, and four marks"
pub read_back : (σ : Settings) (cells : List ℕ) → good σ ≡ true → length cells ≡ 132 → read_row (mail_text σ cells) ≡ row (shown_cells σ cells)
read_back σ cells g h = row_back (shown_cells σ cells) (shown-are-cells σ cells g h)

-- of any text: an accepted one is written, and a refused one is not; 24's offset is the longest beginning that a written text also has
pub reads : (t : List ℕ) → Reads t (read_row t)
reads t = by (read_row t) refl (whole-read t)
  where
    offset : (i : ℕ) → Whole t i → LongestShared t i
    offset i h = record {
      within = rw (← h.reached) (common-right (row_text h.cells) t);
      text = row_text h.cells;
      is_written = row_written h.cells h.fit;
      shared = rw h.reached at (shared-begins (row_text h.cells) t);
      longest = λ m l w x b. let r = written_row w x in omega (arith, begins-shared m t w l b, ap (λ (u : List ℕ). common u t) r.2, h.most r.0 r.1);
    }

    refused : (i : ℕ) → read_row t ≡ stops i → WrittenText t → ⊥
    refused i e x =
        let r = written_row t x in
        let q : read_row t ≡ row r.0 = ap read_row r.2 ∙ row_back r.0 r.1 in
        let z : ◌≡◌ {A = ℕ} 0 1 = cc in
        omega arith

    by : (o : Outcome) → read_row t ≡ o → WholeRead t o → Reads t o
    by (row cs) e h = (h.0, h.1, rw h.1 (row_written cs h.0))
    by (stops i) e h = (offset i h, refused i e)
