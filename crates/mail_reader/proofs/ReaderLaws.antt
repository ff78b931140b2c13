-- What the reader's functions do, as the definitions have it.
use Rattle.std.proofs.Common.{Result, Ok, Err, MatchResult, IsErrAnd}
use mathlib.Core.Path.{◌≡◌, refl, sym, ap, ◌∙◌}
use mathlib.Core.Bool.{Bool, true, false, ◌&&◌}
use mathlib.Core.List.{List, [], ◌∷◌, ◌++◌, append_assoc}
use Prim.Native.Nat.{ℕ, zero, suc, ◌+◌, ◌-◌, ◌<◌, ◌≤◌, max}
use native.Mathlib.Omega.{arith}
use native.Mathlib.Numerals.{add-one}
use lib.ListN.{length, get_or, take, drop, set, length-drop, get_or-eq_default}
use lib.Seq.{length-take-le, take_all, drop-drop}
use lib.Dec.{eqb}
use borrow.Author.Tests.{eq-eqb, ne_eqb, le-leb, lt-leb}
use Rattle.memory.specs.Reading.{fault, refusal}
use Rattle.memory.proofs.ListLaws.{take_next}
use Rattle.mail.specs.Mail.{is_character, marked, marks_of, change, row_start}
use Rattle.mail_reader.specs.declared.CellRead.{CellRead}
use Rattle.mail_reader.specs.Reader.{cell_read, common, tried, better, next_cell, Outcome, row, stops, joined, ended, turn, cells_read, read_row}
use Rattle.mail_reader.specs.Read.{read_back, not_of_this_form, read_mail}
use Rattle.mail_reader.specs.Answers.{NextWithin}
use Rattle.mail_reader.proofs.CommonLaws.{common-left, common-right}

-- a cell with some marks: found, or not
right-false : (a b : Bool) → b ≡ false → a && b ≡ false
right-false true b e = e
right-false false b e = refl

module _ (before marks : ℕ) (t : List ℕ) (short : length (change before marks) ≤ 12) where
  abbrev fixed : List ℕ
  fixed = change before marks

  stopped : eqb (common fixed t) (length fixed) && is_character (get_or t (length fixed) 0) ≡ false
      → (Err (common fixed t) ≡ tried before marks t) × NextWithin t (Err (common fixed t))
  unfolding tried
  stopped e = (rw e, (omega (arith, common-left fixed t), common-right fixed t))

  pub differs : common fixed t < length fixed → (Err (common fixed t) ≡ tried before marks t) × NextWithin t (Err (common fixed t))
  differs h = stopped (ap (λ (b : Bool). b && is_character (get_or t (length fixed) 0)) (ne_eqb (common fixed t) (length fixed) (λ e. omega arith)))

  pub no-character : is_character (get_or t (length fixed) 0) ≡ false
      → (Err (common fixed t) ≡ tried before marks t) × NextWithin t (Err (common fixed t))
  no-character e = stopped (right-false (eqb (common fixed t) (length fixed)) _ e)

  pub text-ends : length t ≤ length fixed → (Err (common fixed t) ≡ tried before marks t) × NextWithin t (Err (common fixed t))
  text-ends h = no-character (rw (get_or-eq_default t 0 h))

  pub a-cell : length fixed ≤ common fixed t → length fixed < length t → is_character (get_or t (length fixed) 0) ≡ true
      → (Ok (cell_read (marked (get_or t (length fixed) 0) marks) (length fixed + 1)) ≡ tried before marks t)
      × NextWithin t (Ok (cell_read (marked (get_or t (length fixed) 0) marks) (length fixed + 1)))
  unfolding tried
  a-cell h l e =
      let q : common fixed t ≡ length fixed = omega (arith, common-left fixed t) in
      (rw (eq-eqb (common fixed t) (length fixed) q, e), (omega arith, omega arith))

-- .. where the change of marks stands at the start of an array
module _ (before marks : ℕ) (t array : List ℕ) (n : ℕ) (p : (n ≤ 12) × (n ≤ length array) × (take n array ≡ change before marks)) where
  size : length (change before marks) ≡ n
  size = ap length (sym p.2) ∙ length-take-le n array p.1

  short : length (change before marks) ≤ 12
  short = omega (arith, size)

  pub try-differs : common (take n array) t < n
      → (Err (common (take n array) t) ≡ tried before marks t) × NextWithin t (Err (common (take n array) t))
  try-differs h = rw p.2 (differs before marks t short (rw (p.2, ← size) at h))

  pub try-text-ends : length t ≤ n → (Err (common (take n array) t) ≡ tried before marks t) × NextWithin t (Err (common (take n array) t))
  try-text-ends h = rw p.2 (text-ends before marks t short (rw (← size) at h))

  pub try-no-character : is_character (get_or t n 0) ≡ false
      → (Err (common (take n array) t) ≡ tried before marks t) × NextWithin t (Err (common (take n array) t))
  try-no-character h = rw p.2 (no-character before marks t short (rw (← size) at h))

  pub try-cell : n ≤ common (take n array) t → n < length t → is_character (get_or t n 0) ≡ true
      → (Ok (cell_read (marked (get_or t n 0) marks) (n + 1)) ≡ tried before marks t) × NextWithin t (Ok (cell_read (marked (get_or t n 0) marks) (n + 1)))
  try-cell h l e =
      let k : length (change before marks) ≤ common (change before marks) t = rw (size, ← p.2) h in
      let m : length (change before marks) < length t = omega (arith, size) in
      rw (← size) (a-cell before marks t short k m (rw size e))

-- trials one after the other
pub first-trial : (x : Result CellRead ℕ) → x ≡ better (Err 0) x
first-trial (Ok f) = refl
first-trial (Err i) = ap Err (omega arith)

last-trial : (i : ℕ) → better (Err i) (Err 0) ≡ Err i
last-trial i = ap Err (omega arith)

more-trials : (i j : ℕ) (x : Result CellRead ℕ) → better (Err i) (better (Err j) x) ≡ better (Err (max i j)) x
more-trials i j (Ok f) = refl
more-trials i j (Err k) = ap Err (omega arith)

next-turn : (m before : ℕ) (t : List ℕ) → 0 < m → next_cell m before t ≡ better (tried before (m - 1) t) (next_cell (m - 1) before t)
unfolding next_cell
next-turn m before t h =
    let e : m ≡ suc (m - 1) = omega arith in
    ap (λ (k : ℕ). next_cell k before t) e

no-marks : (m before : ℕ) (t : List ℕ) → m ≤ 0 → next_cell m before t ≡ Err 0
unfolding next_cell
no-marks zero before t h = refl
no-marks (suc m) before t h = absurd (omega arith)

-- a turn of the trials: the whole is what the best so far and the marks below m come to
module _ (whole : Result CellRead ℕ) (m before reach : ℕ) (t : List ℕ) (inv : whole ≡ better (Err reach) (next_cell m before t)) where
  pub trial-found : (f : CellRead) → 0 < m → Ok f ≡ tried before (m - 1) t → Ok f ≡ whole
  trial-found f h e = sym (inv ∙ rw (next-turn m before t h, ← e))

  pub trial-stopped : (i : ℕ) → 0 < m → Err i ≡ tried before (m - 1) t → whole ≡ better (Err (max reach i)) (next_cell (m - 1) before t)
  trial-stopped i h e = inv ∙ rw (next-turn m before t h, ← e) (more-trials reach i (next_cell (m - 1) before t))

  pub trials-end : m ≤ 0 → Err reach ≡ whole
  trials-end h = sym (inv ∙ rw (no-marks m before t h) (last-trial reach))

-- what is lent of a text from a place on
pub rest-whole : (t : List ℕ) (i : ℕ) → take (length t - i) (drop i t) ≡ drop i t
rest-whole t i = take_all (length t - i) (drop i t) (rw length-drop (omega arith))

-- one cell after others
joined-joined : (cs ds : List ℕ) (m n : ℕ) (o : Outcome) → joined cs m (joined ds n o) ≡ joined (cs ++ ds) (m + n) o
joined-joined cs ds m n (row es) = ap row (sym (append_assoc cs ds es))
joined-joined cs ds m n (stops i) = ap stops (omega arith)

-- a turn of the loop over the cells: what came so far, and what the cells from there on come to
module _ (whole : Outcome) (cells text : List ℕ) (at before count : ℕ)
    (inv : whole ≡ joined (take count cells) at (cells_read (132 - count) count before (drop at text))) where
  cells-turn : count < 132
      → whole ≡ joined (take count cells) at (turn (cells_read (132 - (count + 1)) (suc count)) count (drop at text) (next_cell 16 before (drop at text)))
  unfolding cells_read
  cells-turn h =
      let e : 132 - count ≡ suc (132 - (count + 1)) = omega arith in
      inv ∙ ap (λ (k : ℕ). joined (take count cells) at (cells_read k count before (drop at text))) e

  pub row-goes-on : count < 132 → count < length cells → (f : CellRead) → Ok f ≡ next_cell 16 before (drop at text)
      → whole ≡ joined (take (count + 1) (set cells count f.cell)) (at + f.bytes) (cells_read (132 - (count + 1)) (count + 1) (marks_of f.cell) (drop (at + f.bytes) text))
  row-goes-on h l f e =
      cells-turn h
      ∙ rw (← e, joined-joined (take count cells) (f.cell ∷ []) at f.bytes, take_next cells count f.cell l, drop-drop f.bytes at text, add-one count)

  pub row-stops : count < 132 → (i : ℕ) → Err i ≡ next_cell 16 before (drop at text)
      → whole ≡ joined (take count cells) at (ended count i (drop at text))
  row-stops h i e = cells-turn h ∙ rw (← e)

  pub row-full : count ≡ 132 → whole ≡ joined (take 132 cells) at (ended 132 0 (drop at text))
  unfolding cells_read
  row-full e = inv ∙ ap (λ (k : ℕ). joined (take k cells) at (cells_read (132 - k) k before (drop at text))) e

-- a result before its refusal is told in another way
pub before-ok : {A E F : Type 0} (tell : E → F) (r : Result A E) {s : Result A F} {x : A} → MatchResult r (λ a. s ≡ Ok a) (λ d. IsErrAnd s (λ y. y ≡ tell d))
    → s ≡ Ok x → r ≡ Ok x
before-ok tell (Ok a) {s} {x} m e = let k : a ≡ x = cc in ap Ok k
before-ok tell (Err d) m e = absurd (rw e at m)

pub before-err : {A E F : Type 0} (tell : E → F) (r : Result A E) {s : Result A F} {y : F} → MatchResult r (λ a. s ≡ Ok a) (λ d. IsErrAnd s (λ y. y ≡ tell d))
    → s ≡ Err y → (d : E) × (r ≡ Err d) × (y ≡ tell d)
before-err tell (Ok a) m e = let z : ◌≡◌ {A = ℕ} 0 1 = cc in absurd (omega arith)
before-err tell (Err d) m e = (d, refl, rw e at m)

-- a whole text: its start, and the call by its cases
pub other-start : (t : List ℕ) → common row_start t < 4 → (stops (common row_start t) ≡ read_row t) × (common row_start t ≤ 1800)
unfolding read_row
other-start t h = (rw (ne_eqb (common row_start t) 4 (λ e. omega arith)), omega arith)

pub right-start : (t : List ℕ) → 4 ≤ common row_start t → joined [] 4 (cells_read 132 0 0 (drop 4 t)) ≡ read_row t
unfolding read_row
right-start t h =
    let e : common row_start t ≡ 4 = omega (arith, common-left row_start t) in
    rw (eq-eqb (common row_start t) 4 e)

module _ (t buffer : List ℕ) where
  pub not-a-row : (i : ℕ) → stops i ≡ read_row t → read_back (Err (refusal 0 (not_of_this_form i))) buffer ≡ read_mail t buffer
  unfolding read_mail
  not-a-row i e = rw (← e)

  module _ (cells : List ℕ) (n : ℕ) (h : n ≤ length cells) (e : row (take n cells) ≡ read_row t) where
    pub too_short : length buffer < n → read_back (Err (refusal 0 (fault 23))) buffer ≡ read_mail t buffer
    unfolding read_mail
    too_short l = rw (← e, length-take-le n cells h, lt-leb n (length buffer) l)

    pub all_read : n ≤ length buffer → read_back (Ok n) (take n cells ++ drop n buffer) ≡ read_mail t buffer
    unfolding read_mail
    all_read l = rw (← e, length-take-le n cells h, le-leb n (length buffer) l)
