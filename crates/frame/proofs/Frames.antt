-- Of every frame: its next step with any right row buffer, and then the frame from there, is the frame; it ends, with no line left or
-- a refusal, within 4,095 rows; its words are the start's and the rows' together, and its state's row number counts its rows.
use Rattle.std.proofs.Common.{Result, Ok, Err}
use mathlib.Core.Path.{◌≡◌, refl, ap, ◌∙◌}
use mathlib.Core.List.{List}
use mathlib.Core.Option.{Option, none, some}
use Prim.Native.Nat.{ℕ, zero, suc, ◌+◌, ◌<◌, ◌≤◌, zero-le}
use native.Mathlib.Omega.{arith}
use native.Mathlib.Nat.{le_refl}
use lib.ListN.{length, length-replicate}
use Rattle.memory.specs.declared.Refusal.{Refusal}
use Rattle.memory.specs.Reading.{given, run}
use Rattle.memory.proofs.ReadBounds.{Words, reads-given}
use Rattle.settings.specs.declared.Settings.{Settings}
use Rattle.state.specs.declared.State.{State}
use Rattle.row.specs.declared.DrawnRow.{DrawnRow}
use Rattle.start.specs.Start.{start_from}
use Rattle.start.proofs.StartBound.{start-reads}
use Rattle.frame.specs.declared.Progress.{Progress}
use Rattle.frame.specs.declared.StepAnswer.{StepAnswer}
use Rattle.frame.specs.declared.StepAnswer.TheVariants.{Drawn, Ended, Refused}
use Rattle.frame.specs.Step.{begin, step}
use Rattle.frame.specs.Frame.{Frame, stopped, with_row, by_answer, by_step, blank, within, rest, from_begin, frame, row_words}
use Rattle.frame.proofs.StepLaws.{Advanced, Advances, advances, no_line, any-buffer}

-- it has ended: no line is left, or it is refused
pub data Ends : Frame → Type 0 where
  complete : {f : Frame} {s : State} → f.refusal ≡ none → f.state ≡ some s → s.fields.left ≡ 0 → Ends f
  refusing : {f : Frame} {r : Refusal} → f.refusal ≡ some r → Ends f

module _ (σ : Settings) (m : List ℕ) (w : Words m) where
  -- two ways to go on that agree wherever fewer lines are left
  agree : (f g : Progress → Frame) (p : Progress) (x : StepAnswer) (cells : List ℕ) → Advances p x
      → ((q : Progress) → q.state.fields.left < p.state.fields.left → f q ≡ g q) → by_answer f p x cells ≡ by_answer g p x cells
  agree f g p (Drawn r q) cells h same = ap (with_row r cells) (same q h.fewer)
  agree f g p (Ended rows words) cells h same = refl
  agree f g p (Refused r) cells h same = refl

  -- numbers of rows that the lines left do not exceed give one frame: what the definition counts down never runs out
  enough : (n k : ℕ) (p : Progress) → p.state.fields.left ≤ n → p.state.fields.left ≤ k → within n σ m p ≡ within k σ m p
  unfolding within
  enough zero zero p h l = refl
  enough zero (suc k) p h l = rw (no_line σ m p blank (omega arith))
  enough (suc n) zero p h l = rw (no_line σ m p blank (omega arith))
  enough (suc n) (suc k) p h l =
      let s = step σ m p blank in
      agree (within n σ m) (within k σ m) p s.answer s.buffer (advances σ m w p blank) λ q less. enough n k q (omega arith) (omega arith)

  -- the frame is its next step, with any right buffer, and the frame from there
  pub next-step : (p : Progress) (b : List ℕ) → length b ≡ 132 → rest σ m p ≡ by_step (rest σ m) p (step σ m p b)
  unfolding rest within
  next-step p b l =
      let n = p.state.fields.left in
      let s = step σ m p blank in
      enough n (suc n) p (le_refl n) (omega arith)
      ∙ agree (within n σ m) (rest σ m) p s.answer s.buffer (advances σ m w p blank) (λ q less. enough n _ q (omega arith) (le_refl _))
      ∙ any-buffer σ m (rest σ m) p blank b (length-replicate {A = ℕ} 132 0) l

  -- what holds of a frame that stops, and of a row with the frame from there, holds of every frame
  module _ (P : Progress → Frame → Type 0)
      (ended : (p : Progress) → p.state.fields.left ≡ 0 → P p (stopped none p))
      (refuses : (p : Progress) (r : Refusal) → (p.state.fields.left ≡ 0 → ⊥) → P p (stopped (some r) p))
      (drawn : (p q : Progress) (r : DrawnRow) (cells : List ℕ) (f : Frame) → Advanced p r q → P q f → P p (with_row r cells f)) where
    by_answer_lem : (go_on : Progress → Frame) (p : Progress) (x : StepAnswer) (cells : List ℕ) → Advances p x
        → ((q : Progress) → q.state.fields.left < p.state.fields.left → P q (go_on q)) → P p (by_answer go_on p x cells)
    by_answer_lem go_on p (Drawn r q) cells h k = drawn p q r cells (go_on q) h (k q h.fewer)
    by_answer_lem go_on p (Ended rows words) cells h k = ended p h.0
    by_answer_lem go_on p (Refused r) cells h k = refuses p r h

    followed : (n : ℕ) (p : Progress) → p.state.fields.left ≤ n → P p (within n σ m p)
    unfolding within
    followed zero p h = ended p (omega arith)
    followed (suc n) p h =
        let s = step σ m p blank in
        by_answer_lem (within n σ m) p s.answer s.buffer (advances σ m w p blank) λ q less. followed n q (omega arith)

    pub induction : (p : Progress) → P p (rest σ m p)
    unfolding rest
    induction p = followed _ p (le_refl _)

  row_ends : (r : DrawnRow) (cells : List ℕ) (f : Frame) → Ends f → Ends (with_row r cells f)
  row_ends r cells f (complete a b c) = complete a b c
  row_ends r cells f (refusing a) = refusing a

  -- "the lines run out"
  pub rest-ends : (p : Progress) → Ends (rest σ m p)
  rest-ends =
      induction (λ p f. Ends f) (λ p h. complete refl refl h) (λ p r l. refusing refl) (λ p q r cells f h i. row_ends r cells f i)

  -- no more rows than lines are left, and no more than 4,095 from any frame in progress
  pub rest-rows : (p : Progress) → (length (rest σ m p).rows ≤ p.state.fields.left) × (length (rest σ m p).rows ≤ 4095)
  rest-rows =
      induction (λ p f. (length f.rows ≤ p.state.fields.left) × (length f.rows ≤ 4095)) (λ p h. (zero-le, zero-le))
      (λ p r l. (zero-le, zero-le)) (λ p q r cells f h i. (omega arith, omega arith))

  -- the words read so far, and those of the rows to come
  pub rest-words : (p : Progress) → (rest σ m p).words ≡ p.words + row_words (rest σ m p).rows
  unfolding row_words
  rest-words =
      induction (λ p f. f.words ≡ p.words + row_words f.rows) (λ p h. omega arith) (λ p r l. omega arith)
      (λ p q r cells f h i. omega (arith, ap (λ (q : Progress). q.words) h.next))

  stays : (p : Progress) (s : State) → ◌≡◌ {A = Option State} (some p.state) (some s) → s.fields.row ≡ p.state.fields.row + 0
  stays p s e = let k : p.state ≡ s = cc in omega (arith, ap (λ (s : State). s.fields.row) k)

  -- the row number of the frame in progress, and one more for each row to come
  pub rest-count : (p : Progress) (s : State) → (rest σ m p).state ≡ some s
      → s.fields.row ≡ p.state.fields.row + length (rest σ m p).rows
  rest-count =
      induction (λ p f. (s : State) → f.state ≡ some s → s.fields.row ≡ p.state.fields.row + length f.rows) (λ p h. stays p)
      (λ p r l. stays p) (λ p q r cells f h i s e. omega (arith, i s e, h.numbered))

  -- ---- from a start ----
  pub frame-ends : (latch : ℕ) → Ends (frame latch σ m)
  unfolding frame
  frame-ends latch = by-start (begin latch σ m)
    where
      by-start : (x : Result Progress Refusal) → Ends (from_begin σ m x)
      by-start (Ok p) = rest-ends p
      by-start (Err r) = refusing refl

  pub frame-rows : (latch : ℕ) → length (frame latch σ m).rows ≤ 4095
  unfolding frame
  frame-rows latch = by-start (begin latch σ m)
    where
      by-start : (x : Result Progress Refusal) → length (from_begin σ m x).rows ≤ 4095
      by-start (Ok p) = (rest-rows p).1
      by-start (Err r) = zero-le

  -- an accepted start, which reads n words
  module _ (latch : ℕ) {n : ℕ} {s : State} (e : run m (start_from latch σ) ≡ given n s) where
    pub frame-words : (frame latch σ m).words ≡ n + row_words (frame latch σ m).rows
    unfolding frame begin
    frame-words = rw e (rest-words (record { state = s; words = n }))

    pub frame-count : (t : State) → (frame latch σ m).state ≡ some t → t.fields.row ≡ length (frame latch σ m).rows
    unfolding frame begin
    frame-count = rw e λ t h. omega (arith, rest-count (record { state = s; words = n }) t h, (reads-given 0 m w (start-reads latch σ) e).1.row)
