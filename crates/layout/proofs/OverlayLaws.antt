-- What the checks on a row's segments and the window on a row come to: a law for each way through the definitions.
use Rattle.std.proofs.Common.{Some}
use mathlib.Core.Path.{◌≡◌, ◌∙◌}
use mathlib.Core.Bool.{Bool, true, false, not}
use mathlib.Core.List.{List}
use Prim.Native.Nat.{ℕ, ◌+◌, ◌-◌, ◌<◌, ◌≤◌}
use lib.Dec.{leb}
use borrow.Author.Tests.{le-leb, lt-leb, not-true, not-false}
use Rattle.memory.specs.declared.Fault.{Fault}
use Rattle.memory.specs.declared.Pointer.{Pointer}
use Rattle.memory.specs.Reading.{Reading, done, nobody, blaming, ◌>>◌, check_of, given, refused, run_from, run}
use Rattle.memory.proofs.Laws.{bind-given, bind-refused, check-of-passed, check-of-failed, run-done}
use Rattle.settings.specs.declared.Settings.{Settings}
use Rattle.blocks.specs.declared.Segment.{Segment}
use Rattle.windows.specs.declared.Window.{Window}
use Rattle.blocks.specs.RowBlock.{RowBlock, window_row_at}
use Rattle.layout.specs.declared.Measure.{Measure}
use Rattle.layout.specs.Layout.{total, all_fit, over}
use Rattle.layout.specs.Overlay.{with_rows, window_row}
use Rattle.layout.specs.Answers.{measured}

-- checks 9 and then k, 10 or 11, on a row's segments, with the pointers that they blame; what they come to, from the segments' measure
abbrev pub judged : {A : Type 0} → Bool → List Segment → Pointer → ℕ → Pointer → ℕ → A → Reading A
judged hidden gs p k q limit a = check_of 9 p (all_fit gs) >> (check_of k q (leb (total hidden gs) limit) >> done a)

module _ (w : ℕ) (m : List ℕ) (hidden : Bool) (gs : List Segment) (p : Pointer) (k : ℕ) (q : Pointer) (limit : ℕ) {A : Type 0} (a : A)
    (x : Measure) (e : x ≡ measured hidden gs) where
  pub segments-unfit : not x.fit ≡ true → run_from w m (judged hidden gs p k q limit a) ≡ refused (blaming 9 p)
  segments-unfit h = check-of-failed w m 9 p (all_fit gs) _ (not-true (all_fit gs) (rw e at h))

  module _ (h : not x.fit ≡ false) where
    pub segments-wide : limit < x.width → run_from w m (judged hidden gs p k q limit a) ≡ refused (blaming k q)
    segments-wide l =
        check-of-passed w m 9 p (all_fit gs) _ (not-false (all_fit gs) (rw e at h))
        ∙ check-of-failed w m k q (leb (total hidden gs) limit) _ (lt-leb (total hidden gs) limit (rw e at l))

    pub segments-pass : x.width ≤ limit → run_from w m (judged hidden gs p k q limit a) ≡ given w a
    segments-pass l =
        check-of-passed w m 9 p (all_fit gs) _ (not-false (all_fit gs) (rw e at h))
        ∙ check-of-passed w m k q (leb (total hidden gs) limit) _ (le-leb (total hidden gs) limit (rw e at l)) ∙ run-done w m a

-- the window row block, then the checks on its segments
module _ (m : List ℕ) (σ : Settings) (w : Window) where
  pub window-refused : {x : Fault} → run m (window_row_at σ.linear w.rows) ≡ refused x → run m (window_row σ w) ≡ refused x
  unfolding window_row
  window-refused e = bind-refused 0 m (window_row_at σ.linear w.rows) _ e

  pub window-checks : {n : ℕ} {b : RowBlock} → run m (window_row_at σ.linear w.rows) ≡ given n b
      → run m (window_row σ w) ≡ run_from n m (judged σ.hidden b.segments w.rows 11 nobody (w.block.right + 1 - w.block.left)
      (record { overlay = over w.block.number w.block.left (w.block.right + 1) b.segments; window = Some (with_rows b.link w) }))
  unfolding window_row
  window-checks e = bind-given 0 m (window_row_at σ.linear w.rows) _ e
