-- The laws by which a proof follows a fill run: one for each way through a definition.
use Rattle.std.proofs.Common.{Some, None, Result, Ok, Err}
use mathlib.Core.Path.{◌≡◌, ap₂, sym, ◌∙◌}
use mathlib.Core.List.{List, ◌++◌, append_assoc, append-nil}
use mathlib.Core.Bool.{true, false, ◌&&◌}
use Prim.Native.Nat.{ℕ, ◌+◌, ◌-◌, ◌<◌, ◌≤◌}
use native.Mathlib.Omega.{arith}
use native.Mathlib.Nat.{sub_self}
use lib.ListN.{length, take, set, replicate, replicate-append-replicate}
use borrow.Author.Tests.{lt-ltb, le-ltb}
use Rattle.memory.specs.declared.Fault.{Fault}
use Rattle.memory.specs.Reading.{◌>>=◌, fetch, missing, given, refused, run_from}
use Rattle.memory.proofs.Laws.{run-done, run-refuse, ask-word, ask-absent}
use Rattle.memory.proofs.ListLaws.{take_next}
use Rattle.blocks.specs.declared.FillMode.{FillMode}
use Rattle.codes.specs.declared.CodeSettings.{CodeSettings}
use Rattle.codes.specs.declared.Pen.{Pen}
use Rattle.codes.specs.declared.Reached.{Reached}
use Rattle.codes.specs.Attribute.{Fill, latches, cell}
use Rattle.codes.specs.Codes.{Drawing, drawing, moved_to, taking, put}
use Rattle.codes.specs.Answers.{so_far}
use Rattle.cells.specs.Cells.{filled, unlatched, fill_by_word, fill_to}
use Rattle.cells.specs.Answers.{DrawnTo}

-- ---- cells in an array ----

-- a run of equal cells is a fill
pub filled-run : (fill : FillMode) (end : ℕ) (p : Pen) (cs cs' : List ℕ) → p.column ≤ end
    → take end cs' ≡ take p.column cs ++ replicate (end - p.column) (cell Fill p.latch fill.code)
    → so_far (moved_to end p) cs' ≡ filled fill end (so_far p cs)
unfolding filled put
filled-run fill end p cs cs' l e =
    let k : end ≡ p.column + (end - p.column) = omega arith in
    ap₂ (λ (c : ℕ) (xs : List ℕ). drawing (moved_to c p) xs) k e

-- ---- answers ----
pub to-more : (end k l : ℕ) (r : Result Reached Fault) → DrawnTo end k r → k ≤ l → DrawnTo end l r
to-more end k l (Ok r) h i = (h.0, omega arith)
to-more end k l (Err x) h i = tt

-- ---- fill runs ----
module _ (n : ℕ) (m : List ℕ) (σ : CodeSettings) (fill : FillMode) (end : ℕ) (d : Drawing) where
  pub fill-word : (x : ℕ) → fetch m d.pen.list.next.address ≡ Some x → latches x ≡ true
      → run_from n m (fill_by_word σ fill end d) ≡ given (n + 1) (filled fill end (drawing (taking σ.linear x d.pen) d.cells))
  unfolding fill_by_word ◌>>=◌
  fill-word x e h = ask-word n m d.pen.list.next _ x e ∙ rw h (run-done _ _ _)

  pub fill-unlatched : (x : ℕ) → fetch m d.pen.list.next.address ≡ Some x → latches x ≡ false
      → run_from n m (fill_by_word σ fill end d) ≡ refused (unlatched d.pen.list.next)
  unfolding fill_by_word ◌>>=◌
  fill-unlatched x e h = ask-word n m d.pen.list.next _ x e ∙ rw h (run-refuse _ _ _)

  pub fill-absent : fetch m d.pen.list.next.address ≡ None → run_from n m (fill_by_word σ fill end d) ≡ refused (missing d.pen.list.next)
  unfolding fill_by_word ◌>>=◌
  fill-absent e = ask-absent n m d.pen.list.next _ e

  pub fill-by-word : d.pen.column < end → fill.flag && d.pen.list.present ≡ true
      → run_from n m (fill_to σ fill end d) ≡ run_from n m (fill_by_word σ fill end d)
  unfolding fill_to
  fill-by-word l h = rw (lt-ltb d.pen.column end l, h)

  pub fill-plain : d.pen.column < end → fill.flag && d.pen.list.present ≡ false
      → run_from n m (fill_to σ fill end d) ≡ given n (filled fill end d)
  unfolding fill_to
  fill-plain l h = rw (lt-ltb d.pen.column end l, h) (run-done _ _ _)

  pub fill_none : end ≤ d.pen.column → run_from n m (fill_to σ fill end d) ≡ given n d
  unfolding fill_to
  fill_none l = rw (le-ltb d.pen.column end l) (run-done _ _ _)
