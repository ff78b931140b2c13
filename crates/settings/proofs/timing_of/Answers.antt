-- `added` is the definition's, and each count is `half_lines` of the definition's.
use Rattle.settings.specs.Timing.{timing}
use Rattle.settings.proofs.timing_of.Goals as goal

pub returns : goal.returns
unfolding timing
returns c =
    let a = c.added-more.ensures.0 in
    rw (c.half_lines.ensures, c.half_lines-2.ensures, c.half_lines-3.ensures, c.half_lines-4.ensures, c.half_lines-5.ensures, c.half_lines-6.ensures, a)
