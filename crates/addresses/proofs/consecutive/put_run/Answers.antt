-- Each turn writes one address more: what is left to write, from the next place on, makes the whole list.
use mathlib.Core.Path.{refl, sym, ◌∙◌}
use native.Mathlib.Omega.{arith}
use native.Mathlib.Nat.{sub-zero, add-zero}
use lib.ListN.{length-set}
use Rattle.memory.specs.Address.{ahead}
use Rattle.addresses.proofs.PlaceLaws.{turn_more, turn-done}
use Rattle.addresses.proofs.consecutive.put_run.Goals as goal

pub loop-i-init : goal.loop-i-init
unfolding ahead
loop-i-init c = (refl, rw (add-zero, sub-zero))

pub loop-i-preserved : goal.loop-i-preserved
loop-i-preserved c =
    let l = c.loop-i in
    (simp length-set l.invariant.0, l.invariant.1 ∙ turn_more _ _ l.i _ l.list _ (omega arith) ∙ rw c.words_ahead.ensures)

pub returns : goal.returns
returns c =
    let l = c.loop-i in
    sym (l.invariant.1 ∙ turn-done _ _ l.i _ l.list _ (omega arith))
