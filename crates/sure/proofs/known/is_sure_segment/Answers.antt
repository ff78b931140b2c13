-- The codes must be there; then a null list asks for nothing more.
use mathlib.Core.Path.{sym, ◌∙◌}
use borrow.Author.Tests.{eq-eqb, ne_eqb}
use Rattle.sure.specs.Sure.{sure_segment}
use Rattle.sure.proofs.known.is_sure_segment.Goals as goal

pub returns-then-g-eq0 : goal.returns-then-g-eq0
unfolding sure_segment
returns-then-g-eq0 c =
    let e = sym c.is_run.ensures ∙ c.if-is_run.true in
    let run = rw c.code_count.ensures.0 at e in
    rw (run, eq-eqb _ 0 c.if-g-eq0.true)

pub returns-else-g-eq0 : goal.returns-else-g-eq0
unfolding sure_segment
returns-else-g-eq0 c =
    let e = sym c.is_run.ensures ∙ c.if-is_run.true in
    let run = rw c.code_count.ensures.0 at e in
    rw (run, ne_eqb _ 0 c.if-g-eq0.false) c.is_sure_list.ensures

pub returns-else-is_run : goal.returns-else-is_run
unfolding sure_segment
returns-else-is_run c =
    let run = rw c.code_count.ensures.0 at (sym c.is_run.ensures ∙ c.if-is_run.false) in
    rw run
