-- What is written so far and what is to come are the whole text. The loop ends, since each call that writes leaves fewer.
use Rattle.script_input.proofs.Printing.{SoFar}
use Rattle.script_input.proofs.print.Given as goal

abbrev pub invariant-loop-piece : goal.invariant-loop-piece
invariant-loop-piece g l =
    let to_come = g.P.Pieces.to_come l.of in
    SoFar (g.W.Write.contents l.initial.to) (g.W.Write.contents l.to) (to_come l.text) (to_come l.initial.text)

abbrev pub decreases-loop-piece : goal.decreases-loop-piece
decreases-loop-piece g l = g.P.Pieces.calls l.text
