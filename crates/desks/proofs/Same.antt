-- What a frame depends on: a frame and its lists are the same on memories that agree, call by call, on the words that it read.
use Rattle.std.proofs.Common.{Result, Ok, Err}
use mathlib.Core.Path.{◌≡◌, refl, sym, ap, ap₂, ◌∙◌}
use mathlib.Core.Bool.{Bool, true, false}
use mathlib.Core.List.{List, [], ◌∷◌}
use mathlib.Core.Option.{none, some}
use Prim.Native.Nat.{ℕ, zero, suc}
use lib.ListN.{length}
use lib.Dec.{eqb}
use borrow.Author.Tests.{eqb-true}
use Rattle.memory.specs.Word.{when◌then◌else◌}
use Rattle.memory.specs.Reading.{fault, refusal}
use Rattle.memory.proofs.Agree.{All, SameWord}
use Rattle.memory.specs.declared.Refusal.{Refusal}
use Rattle.settings.specs.declared.Settings.{Settings}
use Rattle.state.specs.declared.State.{State}
use Rattle.start.specs.Start.{start_from, started}
use Rattle.row.specs.Row.{row, row_call}
use Rattle.frame.specs.declared.Progress.{Progress}
use Rattle.frame.specs.declared.StepAnswer.{StepAnswer}
use Rattle.frame.specs.declared.StepAnswer.TheVariants.{Drawn, Ended, Refused}
use Rattle.frame.specs.Step.{begun, begin, Stepped, stepped, step}
use Rattle.frame.specs.Frame as Frame
use Rattle.frame.specs.Frame.{Frame, with_row, by_answer, by_step, blank, within, rest, from_begin, frame}
use Rattle.frame.proofs.StepLaws.{no_line, any-buffer}
use Rattle.desks.specs.Finds.{words_read, Finds, later, Buffers, within_lent, from_begin_lent, frame_lent, frame_over, lists_after, lists_within, from_begin_lists, lists}
use Rattle.desks.proofs.ReadLaws.{read-outcome, read-words}

-- ---- one call ----

module _ (m₁ m₂ : List ℕ) (len : length m₁ ≡ length m₂) where
  pub begin-same : (latch : ℕ) (σ : Settings) → All (SameWord m₁ m₂) (words_read m₁ (start_from latch σ)) → begin latch σ m₁ ≡ begin latch σ m₂
  unfolding begin
  begin-same latch σ h = ap (λ o. begun (started o)) (read-outcome m₁ m₂ len (start_from latch σ) h 0)

  pub row_same : (σ : Settings) (s : State) (b : List ℕ) → All (SameWord m₁ m₂) (words_read m₁ (row σ s)) → row_call σ m₁ s b ≡ row_call σ m₂ s b
  unfolding row_call
  row_same σ s b h = rw (read-outcome m₁ m₂ len (row σ s) h 0)

  pub step_same : (σ : Settings) (p : Progress) (b : List ℕ) → All (SameWord m₁ m₂) (words_read m₁ (row σ p.state))
      → step σ m₁ p b ≡ step σ m₂ p b
  unfolding step
  step_same σ p b h = rw (row_same σ p.state b h)

-- a row lent another number of cells is refused 1, whatever it would find
wrong-buffer : (σ : Settings) (m : List ℕ) (after : Progress → Frame) (p : Progress) (b : List ℕ) → eqb (length b) 132 ≡ false
    → by_step after p (step σ m p b)
    ≡ (when eqb p.state.fields.left 0 then Frame.stopped none p else Frame.stopped (some (refusal p.state.fields.row (fault 1))) p)
unfolding step row_call
wrong-buffer σ m after p b t = rw t (by (eqb p.state.fields.left 0))
  where
    by : (u : Bool)
        → by_step after p (when u then stepped (Ended p.state.fields.row p.words) b else stepped (Refused (refusal p.state.fields.row (fault 1))) b)
        ≡ (when u then Frame.stopped none p else Frame.stopped (some (refusal p.state.fields.row (fault 1))) p)
    by true = refl
    by false = refl

-- ---- a frame ----

-- two memories at each call that agree on the words of its list
pub data Agree : Finds → Finds → List (List ℕ) → Type 0 where
  over : {ms₁ ms₂ : Finds} → Agree ms₁ ms₂ []
  call : {ms₁ ms₂ : Finds} {l : List ℕ} {ls : List (List ℕ)} → All (SameWord (ms₁ 0) (ms₂ 0)) l → Agree (later ms₁) (later ms₂) ls
      → Agree ms₁ ms₂ (l ∷ ls)

-- both have the same length at each call
abbrev pub Lengths : Finds → Finds → Type 0
Lengths ms₁ ms₂ = (n : ℕ) → length (ms₁ n) ≡ length (ms₂ n)

-- the frames and the lists that they leave
pub record Equal {A B : Type 0} (f₁ f₂ : A) (l₁ l₂ : B) : Type 0 where
  pub frames : f₁ ≡ f₂
  pub addresses : l₁ ≡ l₂

-- a frame in progress, where what comes after its row is the same
module _ (σ : Settings) (ms₁ ms₂ : Finds) (f₁ f₂ : Progress → Frame) (g₁ g₂ : Progress → List (List ℕ))
    (same : (q : Progress) → Agree (later ms₁) (later ms₂) (g₁ q) → Equal (f₁ q) (f₂ q) (g₁ q) (g₂ q)) where
  by_answer_lem : (p : Progress) (x : StepAnswer) (cells : List ℕ) → Agree (later ms₁) (later ms₂) (lists_after g₁ x)
      → Equal (by_answer f₁ p x cells) (by_answer f₂ p x cells) (lists_after g₁ x) (lists_after g₂ x)
  by_answer_lem p (Drawn r q) cells h = let k = same q h in record { frames = ap (with_row r cells) k.frames; addresses = k.addresses }
  by_answer_lem p (Ended rows words) cells h = record { frames = refl; addresses = refl }
  by_answer_lem p (Refused r) cells h = record { frames = refl; addresses = refl }

  -- the row and what comes after it, on memories that agree on the row's words, with buffers of one length
  by_row : length (ms₁ 0) ≡ length (ms₂ 0) → (b₁ b₂ : List ℕ) → length b₁ ≡ length b₂ → (p : Progress)
      → Agree ms₁ ms₂ (words_read (ms₁ 0) (row σ p.state) ∷ lists_after g₁ (step σ (ms₁ 0) p blank).answer)
      → Equal (by_step f₁ p (step σ (ms₁ 0) p b₁)) (by_step f₂ p (step σ (ms₂ 0) p b₂))
      (words_read (ms₁ 0) (row σ p.state) ∷ lists_after g₁ (step σ (ms₁ 0) p blank).answer)
      (words_read (ms₂ 0) (row σ p.state) ∷ lists_after g₂ (step σ (ms₂ 0) p blank).answer)
  by_row len b₁ b₂ size p (call h k) =
      let s = step σ (ms₁ 0) p blank in
      let e = step_same (ms₁ 0) (ms₂ 0) len σ p blank h in
      let r = by_answer_lem p s.answer s.buffer k in
      record {
        frames = by-buffer (eqb (length b₁) 132) refl (r.frames ∙ ap (by_step f₂ p) e);
        addresses = ap₂ ◌∷◌ (read-words (ms₁ 0) (ms₂ 0) len (row σ p.state) h)
            (r.addresses ∙ ap (λ (s : Stepped). lists_after g₂ s.answer) e);
      }
    where
      by-buffer : (t : Bool) → eqb (length b₁) 132 ≡ t → by_step f₁ p (step σ (ms₁ 0) p blank) ≡ by_step f₂ p (step σ (ms₂ 0) p blank)
          → by_step f₁ p (step σ (ms₁ 0) p b₁) ≡ by_step f₂ p (step σ (ms₂ 0) p b₂)
      by-buffer true t e =
          let right = eqb-true (length b₁) 132 t in
          any-buffer σ (ms₁ 0) f₁ p b₁ blank right refl ∙ e ∙ any-buffer σ (ms₂ 0) f₂ p blank b₂ refl (sym size ∙ right)
      by-buffer false t e = wrong-buffer σ (ms₁ 0) f₁ p b₁ t ∙ sym (wrong-buffer σ (ms₂ 0) f₂ p b₂ (ap (λ (n : ℕ). eqb n 132) (sym size) ∙ t))

module _ (σ : Settings) where
  within_same : (n : ℕ) (ms₁ ms₂ : Finds) → Lengths ms₁ ms₂ → (bs₁ bs₂ : Buffers) → Lengths bs₁ bs₂ → (p : Progress)
      → Agree ms₁ ms₂ (lists_within n σ ms₁ p)
      → Equal (within_lent n σ ms₁ bs₁ p) (within_lent n σ ms₂ bs₂ p) (lists_within n σ ms₁ p) (lists_within n σ ms₂ p)
  unfolding within_lent lists_within
  within_same zero ms₁ ms₂ len bs₁ bs₂ size p = λ h. record { frames = refl; addresses = refl }
  within_same (suc n) ms₁ ms₂ len bs₁ bs₂ size p =
      by-line (eqb p.state.fields.left 0) refl
      (by_row σ ms₁ ms₂ _ _ _ _ (within_same n (later ms₁) (later ms₂) (λ i. len (suc i)) (later bs₁) (later bs₂) (λ i. size (suc i))) (len 0) (bs₁ 0) (bs₂ 0) (size 0) p)
    where
      by-line : (t : Bool) → eqb p.state.fields.left 0 ≡ t
          → (Agree ms₁ ms₂
          (words_read (ms₁ 0) (row σ p.state) ∷ lists_after (lists_within n σ (later ms₁)) (step σ (ms₁ 0) p blank).answer)
          → Equal (within_lent (suc n) σ ms₁ bs₁ p) (within_lent (suc n) σ ms₂ bs₂ p)
          (words_read (ms₁ 0) (row σ p.state) ∷ lists_after (lists_within n σ (later ms₁)) (step σ (ms₁ 0) p blank).answer)
          (words_read (ms₂ 0) (row σ p.state) ∷ lists_after (lists_within n σ (later ms₂)) (step σ (ms₂ 0) p blank).answer))
          → Agree ms₁ ms₂ (lists_within (suc n) σ ms₁ p)
          → Equal (within_lent (suc n) σ ms₁ bs₁ p) (within_lent (suc n) σ ms₂ bs₂ p) (lists_within (suc n) σ ms₁ p) (lists_within (suc n) σ ms₂ p)
      by-line true e k =
          rw (e, no_line σ (ms₁ 0) p (bs₁ 0) (eqb-true _ 0 e), no_line σ (ms₂ 0) p (bs₂ 0) (eqb-true _ 0 e)) λ h. record { frames = refl; addresses = refl }
      by-line false e k = rw e k

  -- the frame and its lists depend on the words that its calls read and on the lengths of its buffers, and on no other
  pub frame_same : (latch : ℕ) (ms₁ ms₂ : Finds) → Lengths ms₁ ms₂ → (bs₁ bs₂ : Buffers) → Lengths bs₁ bs₂ → Agree ms₁ ms₂ (lists latch σ ms₁)
      → Equal (frame_lent latch σ ms₁ bs₁) (frame_lent latch σ ms₂ bs₂) (lists latch σ ms₁) (lists latch σ ms₂)
  unfolding frame_lent lists
  frame_same latch ms₁ ms₂ len bs₁ bs₂ size (call h k) =
      let e = begin-same (ms₁ 0) (ms₂ 0) (len 0) latch σ h in
      let r = by-start (begin latch σ (ms₁ 0)) k in
      record {
        frames = r.frames ∙ ap (from_begin_lent σ (later ms₂) bs₂) e;
        addresses = ap₂ ◌∷◌ (read-words (ms₁ 0) (ms₂ 0) (len 0) (start_from latch σ) h) (r.addresses ∙ ap (from_begin_lists σ (later ms₂)) e);
      }
    where
      by-start : (x : Result Progress Refusal) → Agree (later ms₁) (later ms₂) (from_begin_lists σ (later ms₁) x)
          → Equal (from_begin_lent σ (later ms₁) bs₁ x) (from_begin_lent σ (later ms₂) bs₂ x) (from_begin_lists σ (later ms₁) x) (from_begin_lists σ (later ms₂) x)
      by-start (Ok p) k = within_same _ (later ms₁) (later ms₂) (λ i. len (suc i)) bs₁ bs₂ size p k
      by-start (Err r) k = record { frames = refl; addresses = refl }

  -- ---- on a memory that stays ----

  abbrev blanks : Buffers
  blanks n = blank

  within-stays : (n : ℕ) (m : List ℕ) (p : Progress) → within_lent n σ (λ _. m) blanks p ≡ within n σ m p
  unfolding within_lent within
  within-stays zero m p = refl
  within-stays (suc n) m p = by-answer-stays (within-stays n m) (step σ m p blank).answer
    where
      by-answer-stays : ((q : Progress) → within_lent n σ (λ _. m) blanks q ≡ within n σ m q) → (x : StepAnswer)
          → by_answer (within_lent n σ (λ _. m) blanks) p x (step σ m p blank).buffer ≡ by_answer (within n σ m) p x (step σ m p blank).buffer
      by-answer-stays h (Drawn r q) = ap (with_row r (step σ m p blank).buffer) (h q)
      by-answer-stays h (Ended rows words) = refl
      by-answer-stays h (Refused r) = refl

  pub frame-stays : (latch : ℕ) (m : List ℕ) → frame_over latch σ (λ _. m) ≡ frame latch σ m
  unfolding frame_lent frame rest
  frame-stays latch m = by-start (begin latch σ m)
    where
      by-start : (x : Result Progress Refusal) → from_begin_lent σ (λ _. m) blanks x ≡ from_begin σ m x
      by-start (Ok p) = within-stays _ m p
      by-start (Err r) = refl
