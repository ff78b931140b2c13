-- The windows of a frame. Rows rise along the chain: in every state of a frame the window in hand has a number at most its first row, so
-- that no frame from a start meets that clause of check 3, and the number fits eight bits. A cell of source 2 names the window that it
-- came from, on one of its rows, and two such cells with the same number came from one window block.
use Rattle.std.proofs.Common.{Option, Some, None, Result, Ok, Err}
use mathlib.Core.Path.{◌≡◌, refl, sym, ap, subst, ◌∙◌}
use mathlib.Core.List.{List, [], ◌∷◌}
use mathlib.Core.Logic.{◌⊎◌, inl, inr}
use Prim.Native.Nat.{ℕ, zero, suc, ◌<◌}
use native.Mathlib.Omega.{arith}
use lib.ListN.{length}
use lib.Dec.{eqb}
use Rattle.memory.specs.Reading.{Outcome, given, refused, run}
use Rattle.memory.proofs.Agree.{All, none, also}
use Rattle.memory.proofs.ReadBounds.{Words, reads-given, if-cases}
use Rattle.memory.proofs.Gives.{run-gives}
use Rattle.memory.specs.declared.Refusal.{Refusal}
use Rattle.settings.specs.declared.Settings.{Settings}
use Rattle.blocks.specs.declared.FillMode.{FillMode}
use Rattle.windows.specs.declared.Window.{Window}
use Rattle.windows.proofs.WindowBounds.{Placed, After, same, later, after-refl, after-trans}
use Rattle.state.specs.declared.State.{State}
use Rattle.layout.proofs.OverlayBounds.{OnRow}
use Rattle.codes.specs.Attribute.{source_of, window_number_of}
use Rattle.start.specs.Start.{start_from, started}
use Rattle.start.proofs.StartBound.{start-reads}
use Rattle.row.specs.declared.DrawnRow.{DrawnRow}
use Rattle.row.specs.Row.{Row, row, Called, answered, row_call}
use Rattle.row.proofs.RowBound.{row-drawn}
use Rattle.row.proofs.RowWindow.{Named, cursor-named, row_named}
use Rattle.frame.specs.declared.Progress.{Progress}
use Rattle.frame.specs.declared.StepAnswer.{StepAnswer}
use Rattle.frame.specs.declared.StepAnswer.TheVariants.{Drawn, Ended, Refused}
use Rattle.frame.specs.Step.{begun, begin, row_step, Stepped, step}
use Rattle.frame.specs.Frame.{FrameRow, Frame, by_answer, blank, within, rest, from_begin, frame}

-- the window in hand after a start, and after a row: the one that the row's cells of source 2 came from
abbrev pub in_hand_first : Result Progress Refusal → Option Window
in_hand_first (Ok p) = p.state.fields.window
in_hand_first (Err r) = None

abbrev pub in_hand : FrameRow → Option Window
in_hand r = r.answer.next.fields.window

-- rows one after the other, from a window in hand: each has the same window block, one with a larger number, or none; its number is at
-- most its first row; and each cell of the row names it, or has no number
pub data Chain : Option Window → List FrameRow → Type 0 where
  end : {w : Option Window} → Chain w []
  next : {w : Option Window} {r : FrameRow} {rs : List FrameRow} → After w (in_hand r) → Placed (in_hand r)
      → All (Named r.answer.number (in_hand r)) r.cells → Chain (in_hand r) rs → Chain w (r ∷ rs)

-- one step, from a fill code of eight bits
pub record SteppedOn (p : Progress) (r : DrawnRow) (q : Progress) (cells : List ℕ) : Type 0 where
  pub state : q.state ≡ r.next
  pub fill : r.next.fields.fill ≡ p.state.fields.fill
  pub after : After p.state.fields.window r.next.fields.window
  pub placed : Placed r.next.fields.window
  pub named : p.state.fields.fill.code < 256 → All (Named r.number r.next.fields.window) cells

abbrev Steps : Progress → StepAnswer → List ℕ → Type 0
Steps p (Drawn r q) cells = SteppedOn p r q cells
Steps p (Ended rows words) cells = Unit
Steps p (Refused r) cells = Unit

module _ (σ : Settings) (m : List ℕ) (w : Words m) where
  by-outcome : (p : Progress) (b : List ℕ) (o : Outcome Row) → run m (row σ p.state) ≡ o
      → Steps p (row_step p (answered σ p.state.fields b o).answer) (answered σ p.state.fields b o).buffer
  by-outcome p b (given n r) e =
      let k = (row-drawn σ m w p.state e).1 in
      record {
        state = refl;
        fill = k.fill;
        after = k.after;
        placed = k.placed;
        named = λ l. cursor-named σ p.state.fields p.state.fields.row r.next.window r.drawing.cells (run-gives 0 m w (row_named σ p.state l) e);
      }
  by-outcome p b (refused x) e = tt

  by_call : (p : Progress) (b : List ℕ) → Steps p (row_step p (row_call σ m p.state b).answer) (row_call σ m p.state b).buffer
  unfolding row_call
  by_call p b =
      if-cases (λ (c : Called). Steps p (row_step p c.answer) c.buffer) (eqb (length b) 132)
      (λ _. by-outcome p b (run m (row σ p.state)) refl) (λ _. tt)

  steps : (p : Progress) (b : List ℕ) → Steps p (step σ m p b).answer (step σ m p b).buffer
  unfolding step
  steps p b = if-cases (λ (s : Stepped). Steps p s.answer s.buffer) (eqb p.state.fields.left 0) (λ _. tt) (λ _. by_call p b)

  by_answer_lem : (go_on : Progress → Frame) (p : Progress) (x : StepAnswer) (cells : List ℕ) → Steps p x cells → p.state.fields.fill.code < 256
      → ((q : Progress) → q.state.fields.fill.code < 256 → Chain q.state.fields.window (go_on q).rows)
      → Chain p.state.fields.window (by_answer go_on p x cells).rows
  by_answer_lem go_on p (Drawn r q) cells h l k =
      let code : q.state.fields.fill.code < 256 =
      omega (arith, l, ap (λ (f : FillMode). f.code) h.fill, ap (λ (s : State). s.fields.fill.code) h.state) in
      next h.after h.placed (h.named l) (subst (λ (s : State). Chain s.fields.window (go_on q).rows) h.state (k q code))
  by_answer_lem go_on p (Ended rows words) cells h l k = end
  by_answer_lem go_on p (Refused r) cells h l k = end

  chain-within : (n : ℕ) (p : Progress) → p.state.fields.fill.code < 256 → Chain p.state.fields.window (within n σ m p).rows
  unfolding within
  chain-within zero p l = end
  chain-within (suc n) p l =
      let s = step σ m p blank in by_answer_lem (within n σ m) p s.answer s.buffer (steps p blank) l (chain-within n)

  module _ (latch : ℕ) where
    from_start : (o : Outcome State) → run m (start_from latch σ) ≡ o
        → Placed (in_hand_first (begun (started o))) × Chain (in_hand_first (begun (started o))) (from_begin σ m (begun (started o))).rows
    unfolding rest
    from_start (given n s) e = let k = (reads-given 0 m w (start-reads latch σ) e).1 in (k.placed, chain-within _ _ k.fill)
    from_start (refused x) e = (tt, end)

    -- the start's window, and those of the rows: "as rows rise"
    pub frame-chain : Placed (in_hand_first (begin latch σ m)) × Chain (in_hand_first (begin latch σ m)) (frame latch σ m).rows
    unfolding begin frame
    frame-chain = from_start (run m (start_from latch σ)) refl

-- ---- of the cells ----
infixl 20 ◌∈◌
pub data ◌∈◌ {A : Type 0} (x : A) : List A → Type 0 where
  here : {xs : List A} → x ∈ (x ∷ xs)
  there : {y : A} {xs : List A} → x ∈ xs → x ∈ (y ∷ xs)

all_in : {P : ℕ → Type 0} {cs : List ℕ} {c : ℕ} → All P cs → c ∈ cs → P c
all_in {P = P} {c = c} none i = elim i [ ]
all_in (also h hs) here = h
all_in (also h hs) (there i) = all_in hs i

named_in : {w : Option Window} {rs : List FrameRow} {r : FrameRow} → Chain w rs → r ∈ rs → All (Named r.answer.number (in_hand r)) r.cells
named_in {r = r} (end {w = w}) i = elim i [ ]
named_in (next a p n c) here = n
named_in (next a p n c) (there i) = named_in c i

pub placed-in : {w : Option Window} {rs : List FrameRow} {r : FrameRow} → Chain w rs → r ∈ rs → Placed (in_hand r)
placed-in {r = r} (end {w = w}) i = elim i [ ]
placed-in (next a p n c) here = p
placed-in (next a p n c) (there i) = placed-in c i

after-in : {w : Option Window} {rs : List FrameRow} {r : FrameRow} → Chain w rs → r ∈ rs → After w (in_hand r)
after-in {r = r} (end {w = w}) i = elim i [ ]
after-in (next a p n c) here = a
after-in (next a p n c) (there i) = after-trans a (after-in c i)

either : {w : Option Window} {rs : List FrameRow} {r s : FrameRow} → Chain w rs → r ∈ rs → s ∈ rs
    → After (in_hand r) (in_hand s) ⊎ After (in_hand s) (in_hand r)
either {r = r} {s = s} (end {w = w}) i _ = elim i [ ]
either (next {r} a p n c) here here = inl (after-refl (in_hand r))
either (next a p n c) here (there j) = inl (after-in c j)
either (next a p n c) (there i) here = inr (after-in c i)
either (next a p n c) (there i) (there j) = either c i j

one_block : {v w : Window} → After (Some v) (Some w) → v.block.number ≡ w.block.number → v.block ≡ w.block
one_block (same e) h = e
one_block (later l) h = absurd (omega (arith, l, h))

one-window : {v w : Window} → After (Some v) (Some w) ⊎ After (Some w) (Some v) → v.block.number ≡ w.block.number → v.block ≡ w.block
one-window (inl a) h = one_block a h
one-window (inr a) h = sym (one_block a (sym h))

module _ (σ : Settings) (m : List ℕ) (w : Words m) (latch : ℕ) {r : FrameRow} (i : r ∈ (frame latch σ m).rows) where
  -- no state of the frame has a number above its window's first row
  pub number-low : Placed (in_hand r)
  number-low = placed-in (frame-chain σ m w latch).1 i

  module _ {c : ℕ} (k : c ∈ r.cells) where
    -- "In cells of source 2 bits 31..24 hold the window's number"
    pub window-of : source_of c ≡ 2 → OnRow r.answer.number (in_hand r) (window_number_of c)
    window-of e = (all_in (named_in (frame-chain σ m w latch).1 i) k).0 e

    -- "elsewhere 0"
    pub no_number : (source_of c ≡ 2 → ⊥) → window_number_of c ≡ 0
    no_number e = (all_in (named_in (frame-chain σ m w latch).1 i) k).1 e

-- cells of two windows never have the same number
module _ (σ : Settings) (m : List ℕ) (w : Words m) (latch : ℕ) {r s : FrameRow} (i : r ∈ (frame latch σ m).rows) (j : s ∈ (frame latch σ m).rows) where
  pub told-apart : {c d : ℕ} (k : c ∈ r.cells) (l : d ∈ s.cells) (e : source_of c ≡ 2) (f : source_of d ≡ 2) → window_number_of c ≡ window_number_of d
      → (window-of σ m w latch i k e).window.block ≡ (window-of σ m w latch j l f).window.block
  told-apart k l e f h =
      let x = window-of σ m w latch i k e in
      let y = window-of σ m w latch j l f in
      one-window (rw (x.there, y.there) at (either (frame-chain σ m w latch).1 i j)) (sym x.named ∙ h ∙ y.named)
