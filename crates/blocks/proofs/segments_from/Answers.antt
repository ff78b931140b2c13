-- The words of the segments are read from where the block's own words end, five to a segment: all of them, or the refusal.
use mathlib.Core.List.{[]}
use lib.Seq.{length-take-le}
use native.Mathlib.Omega.{arith}
use Rattle.memory.proofs.Laws.{exit}
use Rattle.blocks.proofs.BlockLaws.{segments-whole, segments-refused}
use Rattle.blocks.proofs.segments_from.Goals as goal

pub returns : goal.returns
returns c =
    let r = c.read_many in
    segments-whole _ _ _ _ c.args.head.now _ _ c.further-first.ensures _ _ c.segment_count-number.ensures (length-take-le _ _ (omega arith)) _ _ _ r.ensures
    _ c.pointer_of.ensures c.in_ok-read_many.was r.auto.into

pub returns-in_err-read_many : goal.returns-in_err-read_many
returns-in_err-read_many c =
    let r = c.read_many in
    rw (exit _ c.from_residual.ensures.1) (segments-refused _ _ _ _ c.args.head.now c.args.redefinition _ c.further-first.ensures _ _ c.segment_count-number.ensures (length-take-le _ _ (omega arith)) _ _ [] r.ensures
    _ c.in_err-read_many.was)
