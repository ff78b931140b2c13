-- The test is the definition's; that it is the frame's own rule is `state-says`.
use mathlib.Core.Path.{◌≡◌, ◌∙◌}
use native.Mathlib.Omega.{arith}
use borrow.Author.Tests.{eq-eqb, ne_eqb}
use Rattle.frame.specs.HandedOn.{latch_after}
use Rattle.frame.proofs.HandedOn.{state-says}
use Rattle.frame.proofs.handed_on.Goals as goal

pub returns-then-state-gt0 : goal.returns-then-state-gt0
returns-then-state-gt0 c =
    let a = c.args in
    let h : a.latch ≡ latch_after a.latch a.state = rw (ne_eqb a.state.fields.left 0 (λ e. omega (arith, c.if-state-gt0.true))) in
    record { value = h; hands_on = λ σ m w e. h ∙ state-says a.latch σ m w a.state e }

pub returns : goal.returns
returns c =
    let a = c.args in
    let h : a.state.latch ≡ latch_after a.latch a.state = rw (eq-eqb a.state.fields.left 0 (omega (arith, c.if-state-gt0.false))) in
    record { value = h; hands_on = λ σ m w e. h ∙ state-says a.latch σ m w a.state e }
