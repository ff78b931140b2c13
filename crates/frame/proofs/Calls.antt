-- What a caller gets who begins a frame and then steps, with any right row buffers, until a step draws no row: the rows of the frame,
-- and in the last answer its counts of rows and words or its refusal.
use Rattle.std.proofs.Common.{Ok}
use mathlib.Core.Path.{◌≡◌, refl, sym, ap, ap₂, subst, ◌∙◌}
use mathlib.Core.List.{List, [], ◌∷◌}
use mathlib.Core.Option.{Option, none, some}
use Prim.Native.Nat.{ℕ, zero, suc, ◌+◌, ◌<◌, ◌≤◌}
use native.Mathlib.Omega.{arith}
use lib.ListN.{length}
use Rattle.memory.specs.declared.Refusal.{Refusal}
use Rattle.memory.specs.Reading.{Outcome, given, refused, run}
use Rattle.memory.proofs.ReadBounds.{Words, reads-given}
use Rattle.settings.specs.declared.Settings.{Settings}
use Rattle.state.specs.declared.State.{State}
use Rattle.row.specs.declared.DrawnRow.{DrawnRow}
use Rattle.start.specs.Start.{start_from, started}
use Rattle.start.proofs.StartBound.{start-reads}
use Rattle.frame.specs.declared.Progress.{Progress}
use Rattle.frame.specs.declared.StepAnswer.{StepAnswer}
use Rattle.frame.specs.declared.StepAnswer.TheVariants.{Drawn, Ended, Refused}
use Rattle.frame.specs.Step.{begun, begin, Stepped, stepped, step, words_bound, in_bound}
use Rattle.frame.specs.Frame.{FrameRow, frame_row, by_answer, by_step, rest, frame}
use Rattle.frame.proofs.StepLaws.{Advanced, Advances, advances}
use Rattle.frame.proofs.Frames.{next-step}

-- the last answer of a frame that drew `rows` rows
abbrev pub last_answer : Option Refusal → ℕ → ℕ → StepAnswer
last_answer none rows words = Ended rows words
last_answer (some r) rows words = Refused r

module _ (σ : Settings) (m : List ℕ) where
  -- steps from a frame in progress on, each with a right row buffer: the rows that they draw, and the last answer
  pub data Calls : Progress → List FrameRow → StepAnswer → Type 0 where
    drawn : {p q : Progress} {r : DrawnRow} {cells : List ℕ} {rows : List FrameRow} {last : StepAnswer} (b : List ℕ) → length b ≡ 132
        → stepped (Drawn r q) cells ≡ step σ m (in_bound p) b → Calls q rows last → Calls p (frame_row r cells ∷ rows) last
    ended : {p : Progress} {rows words : ℕ} {cells : List ℕ} (b : List ℕ) → length b ≡ 132
        → stepped (Ended rows words) cells ≡ step σ m (in_bound p) b → Calls p [] (Ended rows words)
    refuses : {p : Progress} {r : Refusal} {cells : List ℕ} (b : List ℕ) → length b ≡ 132
        → stepped (Refused r) cells ≡ step σ m (in_bound p) b → Calls p [] (Refused r)

  -- the steps from a frame in progress come to their end
  pub data Over (p : Progress) : Type 0 where
    over : {rows : List FrameRow} {last : StepAnswer} → Calls p rows last → Over p

-- a frame in progress with a count of words that a start and rows can make
abbrev pub Made : Progress → Type 0
Made p = p.words ≤ words_bound p.state.fields.row

pub in-bound : (p : Progress) → Made p → in_bound p ≡ p
in-bound p h = ap (λ (n : ℕ). record { state = p.state; words = n }) (omega arith)

module _ (σ : Settings) (m : List ℕ) (w : Words m) where
  -- whatever right buffers are lent
  module _ (lent : Progress → List ℕ) (right : (p : Progress) → length (lent p) ≡ 132) where
    by_answer_lem : (p : Progress) (x : StepAnswer) (cells : List ℕ) → stepped x cells ≡ step σ m (in_bound p) (lent p) → Advances (in_bound p) x
        → ((q : Progress) → q.state.fields.left < p.state.fields.left → Over σ m q) → Over σ m p
    by_answer_lem p (Drawn r q) cells e h go_on = then (go_on q h.fewer)
      where
        then : Over σ m q → Over σ m p
        then (over c) = over (drawn (lent p) (right p) e c)
    by_answer_lem p (Ended rows words) cells e h go_on = over (ended (lent p) (right p) e)
    by_answer_lem p (Refused r) cells e h go_on = over (refuses (lent p) (right p) e)

    in_turns : (n : ℕ) (p : Progress) → p.state.fields.left < n → Over σ m p
    in_turns zero p h = absurd (omega arith)
    in_turns (suc n) p h =
        let s = step σ m (in_bound p) (lent p) in
        by_answer_lem p s.answer s.buffer refl (advances σ m w (in_bound p) (lent p)) λ q less. in_turns n q (omega arith)

    pub calls-end : (p : Progress) → Over σ m p
    calls-end p = in_turns (p.state.fields.left + 1) p (omega arith)

  pub made-next : {p q : Progress} {r : DrawnRow} → Made p → Advanced p r q → Made q
  made-next {p} {q} {r} h k =
      let words = ap (λ (q : Progress). q.words) k.next in
      omega (arith, k.few, k.within, k.numbered, k.fewer)

  -- the frame by a step of its caller
  frame-by : (p : Progress) → Made p → (b : List ℕ) → length b ≡ 132 → {x : StepAnswer} {cells : List ℕ}
      → stepped x cells ≡ step σ m (in_bound p) b → (rest σ m p ≡ by_answer (rest σ m) p x cells) × Advances p x
  frame-by p h b l e =
      let i = in-bound p h in
      let k = rw i at e in
      (next-step σ m w p b l ∙ ap (by_step (rest σ m) p) (sym k), subst (Advances p) (ap (λ (s : Stepped). s.answer) (sym k)) (advances σ m w p b))

  pub calls-frame : {p : Progress} {rows : List FrameRow} {last : StepAnswer} → Made p → Calls σ m p rows last
      → (rows ≡ (rest σ m p).rows)
      × (last ≡ last_answer (rest σ m p).refusal (p.state.fields.row + length (rest σ m p).rows) (rest σ m p).words)
  calls-frame {p} h (drawn {q} {r} {cells} b l e c) =
      let k = frame-by p h b l e in
      let i = calls-frame (made-next h k.1) c in
      let f = rest σ m q in
      rw k.0 (
        ap (λ (rows : List FrameRow). frame_row r cells ∷ rows) i.0,
        i.1 ∙ ap (λ (n : ℕ). last_answer f.refusal n f.words) (omega (arith, k.1.numbered)),
      )
  calls-frame {p} h (ended b l e) = let k = frame-by p h b l e in rw k.0 (refl, ap₂ Ended (omega (arith, k.1.1)) k.1.2)
  calls-frame {p} h (refuses b l e) = let k = frame-by p h b l e in rw k.0 (refl, refl)

  module _ (latch : ℕ) {p : Progress} (e : begin latch σ m ≡ Ok p) where
    -- a start gives a frame in progress at row 0, with the words of its start
    pub started-made : (p.state.fields.row ≡ 0) × Made p
    unfolding begin
    started-made = by-start (run m (start_from latch σ)) refl e
      where
        by-start : (o : Outcome State) → run m (start_from latch σ) ≡ o → begun (started o) ≡ Ok p
            → (p.state.fields.row ≡ 0) × Made p
        by-start (given n s) h k =
            let b = reads-given 0 m w (start-reads latch σ) h in
            let i : record { state = s; words = n } ≡ p = cc in
            let words = ap (λ (p : Progress). p.words) i in
            let row = ap (λ (p : Progress). p.state.fields.row) i in
            (omega (arith, b.1.row), omega (arith, b.0))
        by-start (refused x) h k = let z : ◌≡◌ {A = ℕ} 0 1 = cc in absurd (omega arith)

    -- the rows, and the last answer, are the frame's
    pub caller-gets : {rows : List FrameRow} {last : StepAnswer} → Calls σ m p rows last
        → (rows ≡ (frame latch σ m).rows)
        × (last ≡ last_answer (frame latch σ m).refusal (length (frame latch σ m).rows) (frame latch σ m).words)
    unfolding frame
    caller-gets c =
        let k = calls-frame started-made.1 c in
        let f = rest σ m p in
        rw e (k.0, k.1 ∙ ap (λ (n : ℕ). last_answer f.refusal n f.words) (omega (arith, started-made.0)))
