use mathlib.Core.Path.{◌≡◌}
use mathlib.Core.Bool.{true}
use Rattle.blocks.specs.RowBlock.{segments_of}
use Rattle.blocks.specs.Answers.{segments_past}
use Rattle.sure.specs.Sure.{sure_all}
use Rattle.sure.proofs.known.are_sure.Given as goal

abbrev pub invariant-loop-i : goal.invariant-loop-i
invariant-loop-i l =
    sure_all l.flag l.mem (segments_of true l.count l.segments) ≡ sure_all l.flag l.mem (segments_past true l.count l.segments l.i)
