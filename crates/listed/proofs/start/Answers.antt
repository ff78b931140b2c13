-- Check 25, then the start; a refused one leaves the list.
use mathlib.Core.Path.{refl, sym, ◌∙◌}
use lib.ListN.{length}
use borrow.Author.Tests.{ne_eqb}
use Rattle.memory.proofs.Laws.{exit}
use Rattle.listed.specs.Listed.{start_listed}
use Rattle.listed.proofs.ListedLaws.{start-law}
use Rattle.listed.proofs.start.Goals as goal

pub returns-then-list-ne12000 : goal.returns-then-list-ne12000
unfolding start_listed
returns-then-list-ne12000 c = rw (c.refused.ensures, ne_eqb (length c.args.list.now) 12000 c.if-list-ne12000.true)

pub returns-in_err-started : goal.returns-in_err-started
returns-in_err-started c =
    let a = c.args in
    rw (exit _ c.from_residual.ensures.1) (start-law a.latch a.settings a.mem.now a.list.now c.if-list-ne12000.false _ a.list.now (sym c.in_err-started.was ∙ c.start.ensures) refl)

pub returns : goal.returns
returns c =
    let a = c.args in
    start-law a.latch a.settings a.mem.now a.list.now c.if-list-ne12000.false _ _ (sym c.in_ok-started.was ∙ c.start.ensures) c.put_start.ensures
