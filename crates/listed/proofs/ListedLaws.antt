-- What a start or a row leaves in its list, from what the walk over its addresses wrote.
use Rattle.std.proofs.Common.{Result, Ok}
use mathlib.Core.Path.{◌≡◌, refl, ap, ap₂, sym, ◌∙◌}
use mathlib.Core.List.{List, [], ◌∷◌, ◌++◌}
use mathlib.Core.Bool.{Bool, true, false}
use Prim.Native.Nat.{ℕ, suc, ◌+◌, ◌-◌, ◌/◌, ◌<◌, ◌≤◌}
use native.Mathlib.Omega.{arith}
use native.Mathlib.Nat.{zero-add}
use lib.ListN.{length, get_or, set, drop, length-append}
use lib.Seq.{set_comm, sets, sets-eq}
use lib.Dec.{ltb}
use borrow.Author.Tests.{eq-eqb}
use Rattle.memory.specs.Word.{when◌then◌else◌}
use Rattle.memory.specs.Reading.{Reading, done, refuse, ask, absent, ◌>>=◌, Outcome, given, refused, run_from, run, asked}
use Rattle.memory.proofs.Laws.{after, run-after}
use Rattle.memory.proofs.ReadBounds.{Words}
use Rattle.memory.specs.declared.Refusal.{Refusal}
use Rattle.settings.specs.declared.Settings.{Settings}
use Rattle.state.specs.declared.Fields.{Fields}
use Rattle.state.specs.declared.State.{State}
use Rattle.start.specs.Top.{registered}
use Rattle.start.specs.Start.{start_from, started, start_call}
use Rattle.row.specs.declared.DrawnRow.{DrawnRow}
use Rattle.codes.specs.Codes.{Drawing, blank}
use Rattle.start.specs.declared.Started.{Started}
use Rattle.cells.specs.Cells.{row_cells}
use Rattle.plan.specs.Plan.{Plan, plan}
use Rattle.row.specs.Row.{code_settings, Row, drawn_by, row, with_cursor, Called, called, answered, row_call}
use Rattle.addresses.specs.Addresses.{pointed, start_addresses, block_addresses}
use Rattle.addresses.proofs.PlaceLaws.{sets-append, pointed-short}
use Rattle.addresses.proofs.Trace.{trace-of}
use Rattle.addresses.proofs.AskedBlocks.{plan-asked}
use Rattle.addresses.proofs.Asked.{asked-start, row_room}
use Rattle.listed.specs.Listed.{written, unless_refused, start_with, start_listed, row_with, called_with, row_listed}
use Rattle.listed.specs.Answers.{start_placed, placed}

-- addresses from the first place on
pub sets-written : (xs l : List ℕ) → length xs ≤ length l → sets l 0 xs ≡ written xs l
unfolding written
sets-written xs l h =
    let room : 0 + length xs ≤ length l = omega arith in
    sets-eq xs l 0 room ∙ ap (λ (k : ℕ). xs ++ drop k l) (zero-add (length xs))

-- ---- a start ----
start-short : (σ : Settings) → length (start_addresses σ) ≤ 13
unfolding start_addresses
start-short σ =
    let l = σ.linear in
    let x = pointed l 7 (registered l σ.top) in
    let y = pointed l 6 (registered l σ.tow) in
    omega (arith, length-append x y, pointed-short l 7 (registered l σ.top), pointed-short l 6 (registered l σ.tow))

module _ (latch : ℕ) (σ : Settings) (m l : List ℕ) (len : length l ≡ 12000) where
  after-start : (o : Outcome State) → run m (start_from latch σ) ≡ o → (r : Result Started Refusal) → r ≡ started o
      → start_placed r (start_addresses σ) l ≡ unless_refused o (asked m (start_from latch σ)) l
  after-start (given n s) h r e =
      ap (λ (x : Result Started Refusal). start_placed x (start_addresses σ) l) e ∙ sets-written (start_addresses σ) l (omega (arith, start-short σ))
      ∙ ap (λ (xs : List ℕ). written xs l) (sym (asked-start latch σ m h))
  after-start (refused x) h r e = ap (λ (x : Result Started Refusal). start_placed x (start_addresses σ) l) e

  pub start-law : (r : Result Started Refusal) (k : List ℕ) → r ≡ start_call latch σ m → k ≡ start_placed r (start_addresses σ) l → start_with r k ≡ start_listed latch σ m l
  unfolding start_listed start_call
  start-law r k e f =
      rw (eq-eqb (length l) 12000 len) (ap₂ start_with e (f ∙ after-start (run m (start_from latch σ)) refl r e))

-- ---- a row ----

-- what an accepted row was drawn from
pub record From (σ : Settings) (f : Fields) (o : Outcome Row) (buffer : List ℕ) : Type 0 where
  pub words : ℕ
  pub row : Row
  pub is : o ≡ given words row
  pub cells : buffer ≡ with_cursor σ f row.drawing.cells

pub accepted-from : (σ : Settings) (f : Fields) (before : List ℕ) (o : Outcome Row) {d : DrawnRow} {buffer : List ℕ}
    → called (Ok d) buffer ≡ answered σ f before o → From σ f o buffer
accepted-from σ f before (given n r) e = record { words = n; row = r; is = refl; cells = ap (λ (c : Called). c.buffer) e }
accepted-from σ f before (refused x) e =
    let h = ap (λ (c : Called). c.answer) e in
    let q : ◌≡◌ {A = ℕ} 0 1 = cc in absurd (omega arith)

after-row : (σ : Settings) (f : Fields) (before xs l : List ℕ) (o : Outcome Row) {r : Result DrawnRow Refusal} {buffer : List ℕ}
    → called r buffer ≡ answered σ f before o → length xs ≤ length l → placed r 0 xs l ≡ unless_refused o xs l
after-row σ f before xs l (given n r) e h = ap (λ (c : Called). placed c.answer 0 xs l) e ∙ sets-written xs l h
after-row σ f before xs l (refused x) e h = ap (λ (c : Called). placed c.answer 0 xs l) e

pub row-law : (σ : Settings) (m : List ℕ) → Words m → (s : State) → s.fields.fill.code < 256 → (before l : List ℕ) → length before ≡ 132 → length l ≡ 12000
    → (r : Result DrawnRow Refusal) (buffer k : List ℕ) → called r buffer ≡ answered σ s.fields before (run m (row σ s)) → k ≡ placed r 0 (asked m (row σ s)) l
    → row_with r buffer k ≡ row_listed σ m s before l
unfolding row_listed row_call
row-law σ m b s byte before l lb ll r buffer k e f =
    rw (eq-eqb (length before) 132 lb, eq-eqb (length l) 12000 ll)
    (ap₂ called_with e (f ∙ after-row σ s.fields before (asked m (row σ s)) l (run m (row σ s)) e (omega (arith, row_room σ m b s byte))))

-- a row that was refused was not sure
pub not-certain : (certain : Bool) (x y : List ℕ) → (certain ≡ true → false ≡ true) → (when certain then x else y) ≡ y
not-certain true x y h = let e = h refl in let z : ◌≡◌ {A = ℕ} 0 1 = cc in absurd (omega arith)
not-certain false x y h = refl

-- ---- the row of a start ----

-- the words read are as many as the addresses asked for
pub words-asked : {A : Type 0} (n : ℕ) (m : List ℕ) (p : Reading A) {k : ℕ} {a : A} → run_from n m p ≡ given k a → k ≡ n + length (asked m p)
unfolding run_from asked
words-asked n m (done b) {k} e = let same : n ≡ k = cc in omega (arith, same)
words-asked n m (refuse x) e = let q : ◌≡◌ {A = ℕ} 0 1 = cc in absurd (omega arith)
words-asked n m (ask q f) {k} {a} e = turn (ltb (q.address / 2) (length m)) n (words-asked (n + 1) m (f (get_or m (q.address / 2) 0))) e
  where
    turn : (b : Bool) (n : ℕ) → (run_from (n + 1) m (f (get_or m (q.address / 2) 0)) ≡ given k a → k ≡ n + 1 + length (asked m (f (get_or m (q.address / 2) 0))))
        → (when b then run_from (n + 1) m (f (get_or m (q.address / 2) 0)) else refused (absent q)) ≡ given k a
        → k ≡ n + suc (length (when b then asked m (f (get_or m (q.address / 2) 0)) else []))
    turn true n h e = omega (arith, h e)
    turn false n h e = let z : ◌≡◌ {A = ℕ} 0 1 = cc in absurd (omega arith)

-- a reading counted from fewer words
pub run-before : {A : Type 0} (at n : ℕ) (m : List ℕ) (p : Reading A) {k : ℕ} {a : A} → run_from (at + n) m p ≡ given k a
    → (at ≤ k) × (given (k - at) a ≡ run_from n m p)
run-before {A} at n m p {k} {a} e = by (run m p) refl
  where
    by : (o : Outcome A) → run m p ≡ o → (at ≤ k) × (given (k - at) a ≡ run_from n m p)
    by (given i b) h =
        let same : given (at + n + i) b ≡ given k a = sym (run-after (at + n) m p ∙ ap (after (at + n)) h) ∙ e in
        let result : b ≡ a = cc in
        let count : at + n + i ≡ k = cc in
        let fewer : n + i ≡ k - at = omega arith in
        (omega arith, sym (run-after n m p ∙ ap (after n) h ∙ ap₂ given fewer result))
    by (refused x) h =
        let same : refused x ≡ given k a = sym (run-after (at + n) m p ∙ ap (after (at + n)) h) ∙ e in
        let z : ◌≡◌ {A = ℕ} 0 1 = cc in
        absurd (omega arith)

-- two readings one after the other
pub asked-bind : {A B : Type 0} (n : ℕ) (m : List ℕ) (p : Reading A) (k : A → Reading B) {i : ℕ} {a : A} → run_from n m p ≡ given i a
    → asked m (p >>= k) ≡ asked m p ++ asked m (k a)
unfolding run_from asked ◌>>=◌
asked-bind n m (done b) k {a = a} e = let same : b ≡ a = cc in rw same
asked-bind n m (refuse x) k e = let q : ◌≡◌ {A = ℕ} 0 1 = cc in absurd (omega arith)
asked-bind n m (ask q f) k {i} {a} e = ap (◌∷◌ q.address) (turn (ltb (q.address / 2) (length m)) (asked-bind (n + 1) m (f (get_or m (q.address / 2) 0)) k) e)
  where
    turn : (b : Bool) → (run_from (n + 1) m (f (get_or m (q.address / 2) 0)) ≡ given i a
        → asked m (f (get_or m (q.address / 2) 0) >>= k) ≡ asked m (f (get_or m (q.address / 2) 0)) ++ asked m (k a))
        → (when b then run_from (n + 1) m (f (get_or m (q.address / 2) 0)) else refused (absent q)) ≡ given i a
        → (when b then asked m (f (get_or m (q.address / 2) 0) >>= k) else []) ≡ (when b then asked m (f (get_or m (q.address / 2) 0)) else []) ++ asked m (k a)
    turn true h e = h e
    turn false h e = let z : ◌≡◌ {A = ℕ} 0 1 = cc in absurd (omega arith)

-- a result made of what a reading gives asks for nothing
asked-made : {A B : Type 0} (m : List ℕ) (p : Reading A) (f : A → B) → asked m (p >>= λ a. done (f a)) ≡ asked m p
unfolding asked ◌>>=◌
asked-made m (done a) f = refl
asked-made m (refuse x) f = refl
asked-made m (ask q g) f =
    ap (λ (xs : List ℕ). q.address ∷ (when ltb (q.address / 2) (length m) then xs else [])) (asked-made m (g (get_or m (q.address / 2) 0)) f)

-- addresses at later places, then at the places before them
set_before : (l : List ℕ) (i x j : ℕ) (ys : List ℕ) → i < j → set (sets l j ys) i x ≡ sets (set l i x) j ys
set_before l i x j [] h = refl
set_before l i x j (y ∷ ys) h =
    set_before (set l j y) i x (suc j) ys (omega arith) ∙ ap (λ (k : List ℕ). sets k (suc j) ys) (set_comm l j i y x λ e. omega (arith, e))

pub sets-before : (l : List ℕ) (i : ℕ) (xs : List ℕ) (j : ℕ) (ys : List ℕ) → i + length xs ≤ j → sets (sets l j ys) i xs ≡ sets (sets l i xs) j ys
sets-before l i [] j ys h = refl
sets-before l i (x ∷ xs) j ys h =
    ap (λ (k : List ℕ). sets k (suc i) xs) (set_before l i x j ys (omega arith)) ∙ sets-before (set l i x) (suc i) xs j ys (omega arith)

-- a planned row asks for the words of its blocks, and then for those of its cells
module _ (σ : Settings) (m : List ℕ) (s : State) where
  abbrev cells_of : Plan → Reading Drawing
  cells_of p = row_cells (code_settings σ) s.fields.fill p.overlay p.segments (blank s.latch)

  blocks-asked : {n : ℕ} {p : Plan} → given n p ≡ run m (plan σ s.fields) → asked m (plan σ s.fields) ≡ block_addresses σ.linear m s.fields p.overlay
  blocks-asked e = plan-asked m σ s.fields (trace-of 0 m (plan σ s.fields) (sym e))

  row-asked : {n : ℕ} {p : Plan} → given n p ≡ run m (plan σ s.fields)
      → asked m (row σ s) ≡ block_addresses σ.linear m s.fields p.overlay ++ asked m (cells_of p)
  unfolding row
  row-asked {p = p} e =
      asked-bind 0 m (plan σ s.fields) _ (sym e) ∙ ap₂ (◌++◌) (blocks-asked e) (asked-made m (cells_of p) (drawn_by p))

  -- .. so a list has those of the row that has its blocks' and, already, its cells'; or that has all at once
  pub row-placed : {n : ℕ} {p : Plan} → given n p ≡ run m (plan σ s.fields) → (certain : Bool) (at : ℕ) (l whole k : List ℕ) → asked m (row σ s) ≡ whole
      → k ≡ sets (when certain then sets l (at + n) (asked m (cells_of p)) else l) at (when certain then block_addresses σ.linear m s.fields p.overlay else whole)
      → k ≡ sets l at (asked m (row σ s))
  row-placed {n} {p} e true at l whole k is f =
      let blocks = block_addresses σ.linear m s.fields p.overlay in
      let cells = asked m (cells_of p) in
      let count : n ≡ length blocks = words-asked 0 m (plan σ s.fields) (sym e) ∙ zero-add _ ∙ ap length (blocks-asked e) in
      f
      ∙ sets-before l at blocks (at + n) cells (omega (arith, count))
      ∙ ap (λ (i : ℕ). sets (sets l at blocks) (at + i) cells) count
      ∙ sym (sets-append l at blocks cells)
      ∙ ap (sets l at) (sym (row-asked e))
  row-placed e false at l whole k is f = f ∙ ap (sets l at) (sym is)
