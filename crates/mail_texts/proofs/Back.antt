-- A row's text is read back: each cell is found, since what stands before it tells its marks, and at the row's end there is none.
use mathlib.Core.Path.{◌≡◌, refl, sym, ◌∙◌}
use mathlib.Core.List.{List, [], ◌∷◌, ◌++◌}
use Prim.Native.Nat.{ℕ, zero, suc, ◌≤◌}
use native.Mathlib.Omega.{arith}
use lib.ListN.{drop}
use borrow.Author.Tests.{ne_eqb}
use Rattle.mail.specs.Mail.{character_of, marks_of, change, row_end, cells_text}
use Rattle.mail.specs.Texts.{IsCell}
use Rattle.std.proofs.Common.{Result, Ok, Err}
use Rattle.mail_reader.specs.declared.CellRead.{CellRead}
use Rattle.mail_reader.specs.Reader.{common, next_cell, row, ended, turn, cells_read}
use Rattle.mail_texts.proofs.Unique.{same-cell, no_end}
use Rattle.mail_texts.proofs.NextLaws.{Says, says}
use Rattle.mail_texts.proofs.Rows.{Fits}

end_read : (count i : ℕ) → 1 ≤ count → ended count i row_end ≡ row []
unfolding common
end_read count i h = rw (ne_eqb count 0 (λ e. omega arith))

at-end : (left count before : ℕ) → 1 ≤ count → cells_read left count before row_end ≡ row []
unfolding cells_read
at-end zero count before h = end_read count 0 h
at-end (suc left) count before h = by (next_cell 16 before row_end) (says before row_end 16)
  where
    by : (x : Result CellRead ℕ) → Says before row_end 16 x → turn (cells_read left (suc count)) count row_end x ≡ row []
    by (Ok r) f = absurd (no_end before f.marks f.character (drop r.bytes row_end) [] f.below f.is_one (sym f.text))
    by (Err i) s = end_read count i h

-- the cell that was found is the one that was written
module _ (left count before c : ℕ) (cs : List ℕ) (k : IsCell c) where
  abbrev whole : List ℕ
  whole = change before (marks_of c) ++ character_of c ∷ cells_text (marks_of c) cs

  pub cell-back : (cells_read left (suc count) (marks_of c) (cells_text (marks_of c) cs) ≡ row cs) → (x : Result CellRead ℕ) → Says before whole 16 x
      → turn (cells_read left (suc count)) count whole x ≡ row (c ∷ cs)
  cell-back next (Err i) s = absurd (s.never (marks_of c) k.marks (character_of c) k.character (cells_text (marks_of c) cs) refl)
  cell-back next (Ok r) f =
      let s = same-cell before f.marks (marks_of c) f.character (character_of c) (drop r.bytes whole) (cells_text (marks_of c) cs) f.below k.marks f.is_one k.character (sym f.text) in
      let e : r.cell ≡ c = f.packed ∙ rw (s.marks, s.character) (omega arith) in
      rw (e, s.rest, next)

pub cells-back : (left count before : ℕ) (cs : List ℕ) → Fits left count cs → cells_read left count before (cells_text before cs) ≡ row cs
unfolding cells_text cells_read
cells-back left count before [] h = at-end left count before (omega (arith, h.some))
cells-back zero count before (c ∷ cs) h = absurd (omega (arith, h.most))
cells-back (suc left) count before (c ∷ cs) h =
    let rest : Fits left (suc count) cs = record { each = h.each.1; most = omega (arith, h.most); some = omega arith } in
    cell-back left count before c cs h.each.0 (cells-back left (suc count) (marks_of c) cs rest)
    (next_cell 16 before (cells_text before (c ∷ cs))) (says before (cells_text before (c ∷ cs)) 16)
