-- The text of a frame in any form, from its start and by each answer of a step; a row that is drawn has good settings.
use Rattle.std.proofs.Common.{Ok, Err}
use mathlib.Core.Path.{◌≡◌, sym, ap, subst, ◌∙◌}
use mathlib.Core.List.{List, ◌++◌, append_assoc}
use Prim.Native.Nat.{ℕ, suc, ◌+◌}
use native.Mathlib.Omega.{arith}
use native.Mathlib.Nat.{zero-add}
use lib.ListN.{length}
use Rattle.memory.specs.declared.Refusal.{Refusal}
use Rattle.memory.proofs.ReadBounds.{Words}
use Rattle.settings.specs.declared.Settings.{Settings}
use Rattle.row.specs.declared.DrawnRow.{DrawnRow}
use Rattle.frame.specs.declared.Progress.{Progress}
use Rattle.frame.specs.declared.StepAnswer.{StepAnswer}
use Rattle.frame.specs.declared.StepAnswer.TheVariants as Step
use Rattle.frame.specs.Step.{Stepped, stepped, begin, step, in_bound}
use Rattle.frame.specs.Frame.{frame_row, by_answer, by_step, rest, frame}
use Rattle.frame.proofs.StepLaws.{Advanced, Advances, advances}
use Rattle.frame.proofs.Frames.{next-step}
use Rattle.frame.proofs.Calls.{in-bound, made-next, started-made}
use Rattle.lines.specs.Lines.{refusal_line}
use Rattle.text.specs.declared.Text.TheVariants.{Rows}
use Rattle.text.specs.Form.{Form, rows_text, frame_text, to_come}

module _ (f : Form) (σ : Settings) (m : List ℕ) (w : Words m) where
  -- what a row prints, then the text of the frame in progress after it
  drawn-text : (p q : Progress) (r : DrawnRow) (cells : List ℕ) → Advanced (in_bound p) r q
      → rest σ m (in_bound p) ≡ by_answer (rest σ m) (in_bound p) (Step.Drawn r q) cells
      → f.row σ (frame_row r cells) ++ to_come f m (Rows σ q) ≡ to_come f m (Rows σ p)
  unfolding to_come rows_text
  drawn-text p q r cells h e =
      let i : in_bound q ≡ q = in-bound q (made-next σ m w (omega arith) h) in
      let n : q.state.fields.row + length (rest σ m q).rows ≡ p.state.fields.row + suc (length (rest σ m q).rows) = omega (arith, h.numbered) in
      rw (e, i, n) (simp append_assoc)

  -- a step of the frame in progress p with a right row buffer b
  module _ (p : Progress) (b : List ℕ) (l : length b ≡ 132) where
    by-step : {x : StepAnswer} {cells : List ℕ} → stepped x cells ≡ step σ m (in_bound p) b
        → (rest σ m (in_bound p) ≡ by_answer (rest σ m) (in_bound p) x cells) × Advances (in_bound p) x
    by-step {x} {cells} e = (
      next-step σ m w (in_bound p) b l ∙ ap (by_step (rest σ m) (in_bound p)) (sym e),
      subst (Advances (in_bound p)) (ap (λ (s : Stepped). s.answer) (sym e)) (advances σ m w (in_bound p) b),
    )

    pub row-text : {q : Progress} {r : DrawnRow} {cells : List ℕ} → stepped (Step.Drawn r q) cells ≡ step σ m (in_bound p) b
        → f.row σ (frame_row r cells) ++ to_come f m (Rows σ q) ≡ to_come f m (Rows σ p)
    row-text e = let k = by-step e in drawn-text p _ _ _ k.1 k.0

    pub end-text : {rows words : ℕ} {cells : List ℕ} → stepped (Step.Ended rows words) cells ≡ step σ m (in_bound p) b
        → f.end rows words ≡ to_come f m (Rows σ p)
    unfolding to_come rows_text
    end-text {rows} {words} e =
        let k = by-step e in
        let n : p.state.fields.row + 0 ≡ rows = omega (arith, k.1.1) in
        rw (k.0, n, k.1.2)

    pub refusal-text : {r : Refusal} {cells : List ℕ} → stepped (Step.Refused r) cells ≡ step σ m (in_bound p) b
        → refusal_line r ≡ to_come f m (Rows σ p)
    unfolding to_come rows_text
    refusal-text e = rw (by-step e).0

  -- from a start
  module _ (latch : ℕ) where
    pub begun-text : {p : Progress} → begin latch σ m ≡ Ok p → to_come f m (Rows σ p) ≡ frame_text f σ (frame latch σ m)
    unfolding to_come frame_text frame
    begun-text {p} e =
        let k = started-made σ m w latch e in
        rw (e, in-bound p k.1, k.0, zero-add)

    pub refused-text : {r : Refusal} → begin latch σ m ≡ Err r → refusal_line r ≡ frame_text f σ (frame latch σ m)
    unfolding frame_text rows_text frame
    refused-text e = rw e
