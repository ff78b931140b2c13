-- What the reader gives of the cells after the start of a row: it is right for the last cell, and each cell before keeps it so.
use mathlib.Core.Path.{◌≡◌, refl, sym, ap, ◌∙◌}
use mathlib.Core.Bool.{true, ◌&&◌}
use mathlib.Core.List.{List, [], ◌∷◌, ◌++◌, append_assoc}
use Prim.Native.Nat.{ℕ, zero, suc, ◌+◌, ◌<◌, ◌≤◌, max}
use native.Mathlib.Omega.{arith}
use native.Mathlib.Decide.{ℕ_discrete, dec_le}
use lib.ListN.{length, drop, length-append, drop_of_length-le}
use lib.Dec.{eqb}
use borrow.Author.Tests.{eqb-true, eqb-false}
use Rattle.memory.specs.Word.{when◌then◌else◌}
use Rattle.memory.proofs.ReadBounds.{if-cases, both}
use Rattle.mail.specs.Mail.{marked, character_of, marks_of, change, row_end, cells_text}
use Rattle.mail.specs.Texts.{Each, IsCell}
use Rattle.mail.proofs.TextLaws.{character-range, parts}
use Rattle.std.proofs.Common.{Result, Ok, Err}
use Rattle.mail_reader.specs.declared.CellRead.{CellRead}
use Rattle.mail_reader.specs.Reader.{common, next_cell, Outcome, row, stops, joined, ended, turn, cells_read}
use Rattle.mail_texts.proofs.Unique.{same-cell, no_end}
use Rattle.mail_texts.proofs.SharedLaws.{common-append, begins-with, shares-all, common-grows}
use Rattle.mail_texts.proofs.NextLaws.{Found, Stopped, Says, says}

-- cells that can follow `count` others, at most `left`, in a row of at least one
pub record Fits (left count : ℕ) (cells : List ℕ) : Type 0 where
  pub each : Each IsCell cells
  pub most : length cells ≤ left
  pub some : 1 ≤ count + length cells

-- the cells of a text, or the most that it shares with the text of any such cells
pub record Reaches (left count before : ℕ) (t : List ℕ) (i : ℕ) : Type 0 where
  pub most : (cells : List ℕ) → Fits left count cells → common (cells_text before cells) t ≤ i
  pub cells : List ℕ
  pub fit : Fits left count cells
  pub reached : common (cells_text before cells) t ≡ i

abbrev pub CellsRead : ℕ → ℕ → ℕ → List ℕ → Outcome → Type 0
CellsRead left count before t (row cells) = Fits left count cells × (t ≡ cells_text before cells)
CellsRead left count before t (stops i) = Reaches left count before t i

-- the row's end, where no text that goes on with a cell shares more than i bytes
module _ (left count before i : ℕ) (t : List ℕ) (possible : 1 ≤ left + count)
    (most : (c : ℕ) (cs : List ℕ) → Fits left count (c ∷ cs) → common (cells_text before (c ∷ cs)) t ≤ i)
    (none : left ≡ 0 → i ≡ 0)
    (reached : 1 ≤ left → (cs : List ℕ) × Fits left count cs × (common (cells_text before cs) t ≡ i)) where
  no_cells : 1 ≤ count → Fits left count []
  no_cells h = record { each = tt; most = omega arith; some = omega arith }

  first_cell : count ≡ 0 → CellsRead left count before t (stops i)
  first_cell e =
      let r = reached (omega arith) in
      record {
        most = λ cs f. upper cs f;
        cells = r.0;
        fit = r.1;
        reached = r.2;
      }
    where
      upper : (cs : List ℕ) → Fits left count cs → common (cells_text before cs) t ≤ i
      upper [] f = absurd (omega (arith, f.some))
      upper (c ∷ cs) f = most c cs f

  whole-end : 1 ≤ count → eqb (common row_end t) 5 && eqb (length t) 5 ≡ true → CellsRead left count before t (row [])
  unfolding cells_text
  whole-end h e =
      let b = both _ _ e in
      let l : common row_end t ≡ 5 = eqb-true _ _ b.0 in
      let n : length t ≡ 5 = eqb-true _ _ b.1 in
      let q : t ≡ row_end ++ drop 5 t = shares-all row_end t (omega arith) in
      (no_cells h, q ∙ rw (drop_of_length-le t {i = 5} (omega arith)))

  no-end-yet : 1 ≤ count → CellsRead left count before t (stops (max i (common row_end t)))
  unfolding cells_text
  no-end-yet h = by (dec_le i (common row_end t)) (ℕ_discrete left 0)
    where
      upper : (cs : List ℕ) → Fits left count cs → common (cells_text before cs) t ≤ max i (common row_end t)
      upper [] f = omega arith
      upper (c ∷ cs) f = omega (arith, most c cs f)

      by : Dec (i ≤ common row_end t) → Dec (left ≡ 0) → Reaches left count before t (max i (common row_end t))
      by (yes l) d = record { most = upper; cells = []; fit = no_cells h; reached = omega arith }
      by (no f) (yes e) = absurd (omega (arith, none e))
      by (no f) (no g) = let r = reached (omega arith) in record { most = upper; cells = r.0; fit = r.1; reached = omega (arith, r.2) }

  ends : CellsRead left count before t (ended count i t)
  ends = if-cases (CellsRead left count before t) (eqb count 0) (λ e. first_cell (eqb-true count 0 e)) (λ e. other (eqb-false count 0 e))
    where
      other : (count ≡ 0 → ⊥)
          → CellsRead left count before t (when eqb (common row_end t) 5 && eqb (length t) 5 then row [] else stops (max i (common row_end t)))
      other f =
          if-cases (CellsRead left count before t) (eqb (common row_end t) 5 && eqb (length t) 5) (λ e. whole-end (omega arith) e)
          (λ _. no-end-yet (omega arith))

-- a text that begins with a cell
module _ (left count before : ℕ) (t : List ℕ) (c n : ℕ) (f : Found before t 16 c n) where
  small : f.character ≤ 0x7e
  small = (character-range f.character f.is_one).1

  its-character : character_of c ≡ f.character
  its-character = ap character_of f.packed ∙ (parts f.character f.marks small).0

  its-marks : marks_of c ≡ f.marks
  its-marks = ap marks_of f.packed ∙ (parts f.character f.marks small).1

  is-cell : IsCell c
  is-cell = record { character = rw its-character f.is_one; marks = rw its-marks f.below }

  abbrev front : List ℕ
  front = change before (marks_of c) ++ (character_of c ∷ [])

  front_long : length front ≡ n
  front_long = length-append (change before (marks_of c)) (character_of c ∷ []) ∙ rw its-marks (sym f.long)

  begins : t ≡ front ++ drop n t
  begins = f.text ∙ rw (its-marks, its-character, append_assoc)

  a-text : (cs : List ℕ) → cells_text before (c ∷ cs) ≡ front ++ cells_text (marks_of c) cs
  unfolding cells_text
  a-text cs = sym (append_assoc (change before (marks_of c)) (character_of c ∷ []) (cells_text (marks_of c) cs))

  shared : (cs : List ℕ) → common (cells_text before (c ∷ cs)) t ≡ n + common (cells_text (marks_of c) cs) (drop n t)
  shared cs =
      rw (a-text cs) (ap (common (front ++ cells_text (marks_of c) cs)) begins)
      ∙ common-append front (cells_text (marks_of c) cs) (drop n t)
      ∙ ap (λ (k : ℕ). k + common (cells_text (marks_of c) cs) (drop n t)) front_long

  one_more : {cs : List ℕ} → Fits left (suc count) cs → Fits (suc left) count (c ∷ cs)
  one_more h = record { each = (is-cell, h.each); most = omega (arith, h.most); some = omega arith }

  -- any other row shares less than the cell
  apart : (w : List ℕ) → n ≤ common w t → w ≡ front ++ drop n w
  apart w h =
      let l : length front ≤ common w (front ++ drop n t) = rw (front_long, ← begins) h in
      begins-with front w (drop n t) l ∙ ap (λ (k : ℕ). front ++ drop k w) front_long

  not-an-end : n ≤ common row_end t → ⊥
  not-an-end h =
      no_end before (marks_of c) (character_of c) (drop n row_end) [] is-cell.marks is-cell.character
      (sym (append_assoc (change before (marks_of c)) (character_of c ∷ []) (drop n row_end)) ∙ sym (apart row_end h))

  others : (j : ℕ) → Reaches left (suc count) (marks_of c) (drop n t) j → (cs : List ℕ) → Fits (suc left) count cs
      → common (cells_text before cs) t ≤ n + j
  unfolding cells_text
  others j r [] h = by (dec_le n (common row_end t))
    where
      by : Dec (n ≤ common row_end t) → common row_end t ≤ n + j
      by (yes l) = absurd (not-an-end l)
      by (no g) = omega arith
  others j r (d ∷ ds) h = by (dec_le n (common (cells_text before (d ∷ ds)) t))
    where
      by : Dec (n ≤ common (cells_text before (d ∷ ds)) t) → common (cells_text before (d ∷ ds)) t ≤ n + j
      by (no g) = omega arith
      by (yes l) =
          let s = same-cell before (marks_of d) (marks_of c) (character_of d) (character_of c) (cells_text (marks_of d) ds) (drop n (cells_text before (d ∷ ds)))
          h.each.0.marks is-cell.marks h.each.0.character is-cell.character
          (apart (cells_text before (d ∷ ds)) l ∙ append_assoc (change before (marks_of c)) (character_of c ∷ []) (drop n (cells_text before (d ∷ ds)))) in
          let same : cells_text before (d ∷ ds) ≡ cells_text before (c ∷ ds) = rw (s.marks, s.character) in
          let k : Fits left (suc count) ds = record { each = h.each.1; most = omega (arith, h.most); some = omega arith } in
          omega (arith, ap (λ (w : List ℕ). common w t) same, shared ds, r.most ds k)

  pub then-cell : (o : Outcome) → CellsRead left (suc count) (marks_of c) (drop n t) o → CellsRead (suc left) count before t (joined (c ∷ []) n o)
  then-cell (row cs) h = (one_more h.0, begins ∙ ap (λ (r : List ℕ). front ++ r) h.1 ∙ sym (a-text cs))
  then-cell (stops j) h = record {
    most = others j h;
    cells = c ∷ h.cells;
    fit = one_more h.fit;
    reached = shared h.cells ∙ ap (λ (k : ℕ). n + k) h.reached;
  }

-- a text that begins with no cell
module _ (left count before i : ℕ) (t : List ℕ) (s : Stopped before t 16 i) where
  most-shared : (c : ℕ) (cs : List ℕ) → Fits (suc left) count (c ∷ cs) → common (cells_text before (c ∷ cs)) t ≤ i
  unfolding cells_text
  most-shared c cs h = s.least (marks_of c) h.each.0.marks (character_of c) h.each.0.character (cells_text (marks_of c) cs)

  -- a question mark with some marks
  with-marks : (m : ℕ) → m < 16 → i ≤ common (change before m) t → (cs : List ℕ) × Fits (suc left) count cs × (common (cells_text before cs) t ≡ i)
  unfolding cells_text
  with-marks m h l =
      let c = marked 0x3f m in
      let p = parts 0x3f m (omega arith) in
      let q : IsCell c = record { character = rw p.0; marks = rw p.1 h } in
      let fit : Fits (suc left) count (c ∷ []) = record { each = (q, tt); most = omega arith; some = omega arith } in
      let g = common-grows (change before (marks_of c)) (character_of c ∷ row_end) t in
      let k : i ≤ common (change before (marks_of c)) t = rw p.1 l in
      (c ∷ [], fit, omega (arith, most-shared c [] fit))

  pub some-shared : (cs : List ℕ) × Fits (suc left) count cs × (common (cells_text before cs) t ≡ i)
  some-shared = by (ℕ_discrete i 0)
    where
      by : Dec (i ≡ 0) → (cs : List ℕ) × Fits (suc left) count cs × (common (cells_text before cs) t ≡ i)
      by (yes e) = with-marks 0 (omega arith) (omega arith)
      by (no f) = let r = s.reached (omega arith) in with-marks r.0 r.1 r.2

pub cells-read : (left count before : ℕ) (t : List ℕ) → 1 ≤ left + count → CellsRead left count before t (cells_read left count before t)
unfolding cells_read
cells-read zero count before t h = ends 0 count before 0 t h (λ c cs f. absurd (omega (arith, f.most))) (λ e. refl) (λ l. absurd (omega arith))
cells-read (suc left) count before t h = by (next_cell 16 before t) (says before t 16) (λ m u. cells-read left (suc count) m u (omega arith))
  where
    by : (x : Result CellRead ℕ) → Says before t 16 x → ((m : ℕ) (u : List ℕ) → CellsRead left (suc count) m u (cells_read left (suc count) m u))
        → CellsRead (suc left) count before t (turn (cells_read left (suc count)) count t x)
    by (Ok r) f next = then-cell left count before t r.cell r.bytes f (cells_read left (suc count) (marks_of r.cell) (drop r.bytes t)) (next (marks_of r.cell) (drop r.bytes t))
    by (Err i) s next =
        ends (suc left) count before i t h (most-shared left count before i t s) (λ e. absurd (omega arith)) (λ _. some-shared left count before i t s)
