-- The codes, up to the segment's width, then its fill run.
use Prim.Native.Nat.{◌+◌, ◌<◌}
use native.Mathlib.Omega.{arith}
use Rattle.memory.proofs.Laws.{exit}
use Rattle.layout.proofs.LayoutLaws.{width-byte}
use Rattle.cells.specs.Cells.{segment}
use Rattle.marking.proofs.PenLaws.{then-halted, then-went}
use borrow.Author.Rules.{rules}
use Rattle.marking.proofs.marked.Marked.walk_segment.Goals as goal

pub overflow_add-end : goal.overflow_add-end
overflow_add-end c =
    let a = c.args in
    let l : a.g.length < 256 = search rules in
    let v : a.g.visible < 256 = search rules in
    omega (arith, width-byte a.settings.codes.hidden a.g l v)

pub returns-in_err-after-clause-follows : goal.returns-in_err-after-clause-follows
unfolding segment
returns-in_err-after-clause-follows c = λ source cs.
    rw (exit _ c.from_residual.ensures.1)
    (then-halted _ _ _ _ (rw (c.in_err-after.was, c.with_list-begun.ensures, c.code_count-count.ensures.0, c.width.ensures) at (c.walk_codes.ensures.follows source cs)))

pub returns-clause-up_to : goal.returns-clause-up_to
returns-clause-up_to c =
    let a = c.args in
    let l : a.g.length < 256 = search rules in
    let v : a.g.visible < 256 = search rules in
    let w = width-byte a.settings.codes.hidden a.g l v in
    let reached = rw (c.in_ok-after.was, c.with_list-begun.ensures) at c.walk_codes.ensures.up_to in
    c.walk_fill.ensures.by_index (a.pen.column + 255) (omega (arith, c.width.ensures)) (omega (arith, c.width.ensures))

pub returns-clause-follows : goal.returns-clause-follows
unfolding segment
returns-clause-follows c = λ source cs.
    then-went _ _ _ _ (rw (c.in_ok-after.was, c.with_list-begun.ensures, c.code_count-count.ensures.0, c.width.ensures) at (c.walk_codes.ensures.follows source cs))
    (λ ds. rw (c.width.ensures, c.walk_codes.ensures.kept.mem) at (c.walk_fill.ensures.follows ds))
