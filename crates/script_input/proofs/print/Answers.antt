-- What a call writes follows what the calls before it wrote.
use Rattle.script_input.proofs.Printing.{written-on}
use Rattle.script_input.proofs.print.Goals as goal

pub loop-piece-preserved : goal.loop-piece-preserved
loop-piece-preserved g c =
    written-on _ _ _ _ c.loop-piece.invariant c.in_ok-write_all.ensures.bytes c.in-Some.ensures.bytes
