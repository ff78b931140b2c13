-- Each test is the definition's, its callees' by their contracts.
use Prim.Native.Nat.{◌+◌}
use mathlib.Core.Bool.{◌&&◌}
use lib.Dec.{leb}
use Rattle.state.specs.State.{in_range}
use Rattle.state.proofs.in_range.Goals as goal

pub returns : goal.returns
unfolding in_range
returns c =
    let f = c.args.f in
    λ i. leb (f.row + f.left) 4095 && c.format_in_range.ensures i && c.pointer_in_range.ensures i && c.window_in_range.ensures i
