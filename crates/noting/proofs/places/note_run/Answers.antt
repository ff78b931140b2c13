-- Each turn writes one address more: what is left to write, from the next place on, makes the whole list. Past the list's end nothing is
-- left to write.
use mathlib.Core.Path.{sym, ◌∙◌}
use native.Mathlib.Omega.{arith}
use Rattle.noting.proofs.PlaceLaws.{left-begun, left-more, left_cut}
use Rattle.noting.proofs.places.note_run.Goals as goal

pub loop-i-init : goal.loop-i-init
loop-i-init c = left-begun _ _ _ _

pub loop-i-preserved : goal.loop-i-preserved
loop-i-preserved c =
    let l = c.loop-i in
    l.invariant ∙ left-more _ _ _ l.list l.i (omega arith) (omega arith) (omega arith)

pub returns : goal.returns
returns c =
    let l = c.loop-i in
    sym (l.invariant ∙ left_cut _ _ _ l.list l.i (omega arith))
