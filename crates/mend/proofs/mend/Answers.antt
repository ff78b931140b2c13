-- A change's line follows those of the changes before it.
use Rattle.script_input.proofs.Printing.{written-on}
use Rattle.mend.proofs.mend.Goals as goal

pub loop-count-preserved : goal.loop-count-preserved
loop-count-preserved g c =
    written-on _ _ _ _ c.loop-count.invariant c.in_ok-write_all.ensures.bytes c.in-Some.ensures.next.bytes
