-- 23 numbers are a state, that of `state_at`, where `unjudged_fit` says yes.
use borrow.Author.Tests.{eq-eqb}
use Rattle.numbers.specs.Decode.{is_state, state_in}
use Rattle.numbers.proofs.decode.state_from.Goals as goal

pub returns-then-unjudged_fit : goal.returns-then-unjudged_fit
unfolding is_state state_in
returns-then-unjudged_fit c =
    rw (c.state_at.ensures, eq-eqb _ _ c.told-n, ← c.unjudged_fit.ensures, c.if-unjudged_fit.true)

pub returns-else-unjudged_fit : goal.returns-else-unjudged_fit
unfolding is_state state_in
returns-else-unjudged_fit c = rw (eq-eqb _ _ c.told-n, ← c.unjudged_fit.ensures, c.if-unjudged_fit.false)
