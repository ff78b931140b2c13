-- At the end of a frame a word has the mark of a first word exactly where the first word of a pointer was read.
use mathlib.Core.Path.{◌≡◌, refl, ap, sym, ◌∙◌}
use mathlib.Core.Bool.{Bool, true, false, ◌||◌}
use mathlib.Core.List.{List, [], ◌∷◌, ◌++◌}
use Prim.Native.Nat.{ℕ, ◌+◌, ◌/◌, ◌<◌}
use native.Mathlib.Omega.{arith}
use lib.ListN.{length, get_or, replicate, length-replicate, length-set}
use lib.Seq.{get_or-set_other}
use lib.Dec.{ltb, eqb}
use borrow.Author.Tests.{ltb-true, eqb-true, eqb-false}
use Rattle.memory.specs.Word.{when◌then◌else◌}
use Rattle.memory.specs.Reading.{Role, First, Second, Other, Ask, Reading, done, refuse, ask, ◌>>=◌, given, refused, absent, run_from, run}
use Rattle.memory.proofs.Laws.{bind-given}
use Rattle.memory.proofs.ReadBounds.{Words}
use Rattle.settings.specs.declared.Settings.{Settings}
use Rattle.state.specs.declared.State.{State}
use Rattle.start.specs.Top.{top_block}
use Rattle.start.specs.Start.{window_start, main_start}
use Rattle.told.proofs.Tells.{apart}
use Rattle.converter.specs.Walk.{mark, marked}
use Rattle.converter.specs.Below.{state_after, row_below, if_first, first_words, rows_pointers, frame_pointers}
use Rattle.converter.specs.Conversions.{is_read}
use Rattle.converter.proofs.Rows.{segmented}
use Rattle.converter.proofs.Walks.{Walks, ends, goes, Kept, marked-there, walks-on}
use Rattle.converter.proofs.Theorem.{Rows, none, over, row, rows_on}
use Rattle.converter.proofs.Frames.{Parts}
use Rattle.converter.proofs.Unread.{either, read-both, no-mark, walks-given}

-- ---- words among those of a list ----
one_of : {X : Type 0} (a b : Bool) → a || b ≡ true → (a ≡ true → X) → (b ≡ true → X) → X
one_of true b e f g = f refl
one_of false b e f g = g e

read-either : {X : Type 0} (i : ℕ) (xs ys : List ℕ) → is_read i (xs ++ ys) ≡ true → (is_read i xs ≡ true → X) → (is_read i ys ≡ true → X) → X
unfolding is_read
read-either i [] ys e f g = g e
read-either i (x ∷ xs) ys e f g =
    one_of (eqb (x / 2) i) (is_read i (xs ++ ys)) e (λ h. f (rw h)) (λ h. read-either i xs ys h (λ k. f (or-true (eqb (x / 2) i) k)) g)
  where
    or-true : (a : Bool) {b : Bool} → b ≡ true → a || b ≡ true
    or-true true h = refl
    or-true false h = h

first-or : {X : Type 0} (r : Role) (i a : ℕ) (rest : List ℕ) → is_read i (if_first r a rest) ≡ true → (r ≡ First → a / 2 ≡ i → X) → (is_read i rest ≡ true → X) → X
unfolding is_read
first-or First i a rest e f g = one_of (eqb (a / 2) i) (is_read i rest) e (λ h. f refl (eqb-true (a / 2) i h)) g
first-or Second i a rest e f g = g e
first-or Other i a rest e f g = g e

first-nor : (r : Role) (i a : ℕ) (rest : List ℕ) → is_read i (if_first r a rest) ≡ false → (is_read i rest ≡ false) × (a / 2 ≡ i → eqb (mark r) 1 ≡ false)
unfolding is_read
first-nor First i a rest e = let h = either (eqb (a / 2) i) (is_read i rest) e in (h.1, λ s. absurd (eqb-false (a / 2) i h.0 s))
first-nor Second i a rest e = (e, λ _. refl)
first-nor Other i a rest e = (e, λ _. refl)

if-first : (r : Role) (a : ℕ) (xs ys : List ℕ) → if_first r a (xs ++ ys) ≡ if_first r a xs ++ ys
if-first First a xs ys = refl
if-first Second a xs ys = refl
if-first Other a xs ys = refl

firsts-then : {A B : Type 0} (n : ℕ) (m : List ℕ) (p : Reading A) (k : A → Reading B) {i : ℕ} {a : A} → run_from n m p ≡ given i a
    → first_words m (p >>= k) ≡ first_words m p ++ first_words m (k a)
unfolding run_from first_words ◌>>=◌
firsts-then n m (done x) k {a} e = let same : x ≡ a = cc in ap (λ y. first_words m (k y)) same
firsts-then n m (refuse x) k e = let q : ◌≡◌ {A = ℕ} 0 1 = cc in absurd (omega arith)
firsts-then {A} n m (ask q f) k {i} {a} e = by_place (ltb (q.address / 2) (length m)) e (firsts-then (n + 1) m (f (get_or m (q.address / 2) 0)) k)
  where
    next : Reading A
    next = f (get_or m (q.address / 2) 0)

    by_place : (t : Bool) → (when t then run_from (n + 1) m next else refused (absent q)) ≡ given i a
        → (run_from (n + 1) m next ≡ given i a → first_words m (next >>= k) ≡ first_words m next ++ first_words m (k a))
        → if_first q.role q.address (when t then first_words m (next >>= k) else []) ≡ if_first q.role q.address (when t then first_words m next else []) ++ first_words m (k a)
    by_place true h rest = ap (if_first q.role q.address) (rest h) ∙ if-first q.role q.address (first_words m next) (first_words m (k a))
    by_place false h rest = let z : ◌≡◌ {A = ℕ} 0 1 = cc in absurd (omega arith)

-- ---- an accepted walk ----
marked-first : (marks after : List ℕ) (q : Ask) (i : ℕ) → q.address / 2 < length marks → Kept (marked marks q) after → q.role ≡ First → q.address / 2 ≡ i
    → get_or after i 0 ≡ 1
marked-first marks after q i l k r e =
    let own = marked-there marks q l ∙ ap mark r in
    ap (λ (j : ℕ). get_or after j 0) (sym e) ∙ k.keeps (q.address / 2) (ap (λ (n : ℕ). eqb n 0) own) ∙ own

marked_other : (marks : List ℕ) (q : Ask) (i : ℕ) → q.address / 2 < length marks → (q.address / 2 ≡ i → eqb (mark q.role) 1 ≡ false)
    → eqb (get_or marks i 0) 1 ≡ false → eqb (get_or (marked marks q) i 0) 1 ≡ false
marked_other marks q i l f e = by_place (eqb (q.address / 2) i) refl
  where
    by_place : (t : Bool) → eqb (q.address / 2) i ≡ t → eqb (get_or (marked marks q) i 0) 1 ≡ false
    by_place true h =
        let s = eqb-true (q.address / 2) i h in
        ap (λ (j : ℕ). eqb (get_or (marked marks q) j 0) 1) (sym s) ∙ ap (λ (n : ℕ). eqb n 1) (marked-there marks q l) ∙ f s
    by_place false h =
        ap (λ (n : ℕ). eqb n 1) (get_or-set_other marks (q.address / 2) i (mark q.role) 0 λ s. eqb-false (q.address / 2) i h (sym s)) ∙ e

module _ {held : ℕ} {m : List ℕ} where
  walks-first : {A : Type 0} {after : List ℕ} {a : A} {marks : List ℕ} {p : Reading A} (i : ℕ) → length marks ≡ length m → Walks held m after a marks p
      → is_read i (first_words m p) ≡ true → get_or after i 0 ≡ 1
  unfolding first_words is_read
  walks-first i l (ends _ _) h = apart (sym h)
  walks-first {after} {marks} i l (goes {q} o t s w) h =
      let there : q.address / 2 < length marks = rw (← l) at (ltb-true (q.address / 2) (length m) t) in
      let size = length-set marks (q.address / 2) (mark q.role) ∙ l in
      first-or q.role i q.address _ (rw t at h) (marked-first marks after q i there (walks-on size w).kept) (walks-first i size w)

  walks-other : {A : Type 0} {after : List ℕ} {a : A} {marks : List ℕ} {p : Reading A} (i : ℕ) → length marks ≡ length m → Walks held m after a marks p
      → is_read i (first_words m p) ≡ false → eqb (get_or marks i 0) 1 ≡ false → eqb (get_or after i 0) 1 ≡ false
  unfolding first_words
  walks-other i l (ends s _) h e = ap (λ (ms : List ℕ). eqb (get_or ms i 0) 1) (sym s) ∙ e
  walks-other {marks} i l (goes {q} o t s w) h e =
      let there : q.address / 2 < length marks = rw (← l) at (ltb-true (q.address / 2) (length m) t) in
      let size = length-set marks (q.address / 2) (mark q.role) ∙ l in
      let k = first-nor q.role i q.address _ (rw t at h) in
      walks-other i size w k.0 (marked_other marks q i there k.1 e)

-- ---- a frame ----
module _ (latch : ℕ) (σ : Settings) (m : List ℕ) (b : Words m) (fin : List ℕ) (i : ℕ) where
  rows-first : {n : ℕ} {marks : List ℕ} {s : State} → length marks ≡ length m → Rows σ m b fin n marks s
      → is_read i (rows_pointers n (segmented σ) m s) ≡ true → get_or fin i 0 ≡ 1
  unfolding rows_pointers is_read
  rows-first l (none e) h = apart (sym h)
  rows-first l (over f e) h = apart (sym (rw f at h))
  rows-first {s} l (row {n} {r} e w rest) h =
      let g = walks-given 0 w in
      let size = (walks-on l w).size in
      read-either i (first_words m (row_below (segmented σ) s)) (rows_pointers n (segmented σ) m (state_after r)) (rw (e, g.1) at h)
      (λ k. let one = walks-first i l w k in (rows_on σ m b fin size rest).kept.keeps i (ap (λ (n : ℕ). eqb n 0) one) ∙ one)
      (rows-first size rest)

  rows_other : {n : ℕ} {marks : List ℕ} {s : State} → length marks ≡ length m → Rows σ m b fin n marks s
      → is_read i (rows_pointers n (segmented σ) m s) ≡ false → eqb (get_or marks i 0) 1 ≡ false → eqb (get_or fin i 0) 1 ≡ false
  unfolding rows_pointers
  rows_other l (none e) h k = ap (λ (ms : List ℕ). eqb (get_or ms i 0) 1) (sym e) ∙ k
  rows_other l (over f e) h k = ap (λ (ms : List ℕ). eqb (get_or ms i 0) 1) (sym e) ∙ k
  rows_other {s} l (row {n} {r} e w rest) h k =
      let g = walks-given 0 w in
      let j = read-both i (first_words m (row_below (segmented σ) s)) (rows_pointers n (segmented σ) m (state_after r)) (rw (e, g.1) at h) in
      rows_other (walks-on l w).size rest j.1 (walks-other i l w j.0 k)

  module _ (x : Parts latch σ m b fin) where
    none_yet : length {A = ℕ} (replicate (length m) 0) ≡ length m
    none_yet = length-replicate (length m) 0

    size₁ : length x.marks₁ ≡ length m
    size₁ = (walks-on none_yet x.top).size

    size₂ : length x.marks₂ ≡ length m
    size₂ = (walks-on size₁ x.window).size

    -- its first words: the main block's, the window's, the rows'
    split : frame_pointers latch (segmented σ) m
        ≡ (first_words m (top_block false σ.top) ++ first_words m (window_start latch (segmented σ) x.block)) ++ rows_pointers x.state.fields.left (segmented σ) m x.state
    unfolding frame_pointers
    split =
        let t = walks-given 0 x.top in
        let w = walks-given t.0 x.window in
        let g : run m (main_start latch (segmented σ)) ≡ given w.0 x.state =
        bind-given 0 m (top_block false σ.top) (window_start latch (segmented σ)) t.1 ∙ w.1 in
        rw (g, firsts-then 0 m (top_block false σ.top) (window_start latch (segmented σ)) t.1)

    pub frame-first : is_read i (frame_pointers latch (segmented σ) m) ≡ true → get_or fin i 0 ≡ 1
    frame-first h =
        let kept = (rows_on σ m b fin size₂ x.rest).kept in
        read-either i _ (rows_pointers x.state.fields.left (segmented σ) m x.state) (rw split at h)
        (λ k. read-either i (first_words m (top_block false σ.top)) (first_words m (window_start latch (segmented σ) x.block)) k
        (λ j.
        let one = walks-first i none_yet x.top j in
        let two = (walks-on size₁ x.window).kept.keeps i (ap (λ (n : ℕ). eqb n 0) one) ∙ one in
        kept.keeps i (ap (λ (n : ℕ). eqb n 0) two) ∙ two)
        (λ j. let two = walks-first i size₁ x.window j in kept.keeps i (ap (λ (n : ℕ). eqb n 0) two) ∙ two))
        (rows-first size₂ x.rest)

    pub frame-other : is_read i (frame_pointers latch (segmented σ) m) ≡ false → eqb (get_or fin i 0) 1 ≡ false
    frame-other h =
        let k = read-both i _ (rows_pointers x.state.fields.left (segmented σ) m x.state) (rw split at h) in
        let j = read-both i (first_words m (top_block false σ.top)) (first_words m (window_start latch (segmented σ) x.block)) k.0 in
        rows_other size₂ x.rest k.1
        (walks-other i size₁ x.window j.1 (walks-other i none_yet x.top j.0 (ap (λ (n : ℕ). eqb n 1) (no-mark (length m) i))))
