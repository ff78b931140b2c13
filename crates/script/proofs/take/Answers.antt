-- A body of 40 bits: the four bytes before, and one more.
use Rattle.std.proofs.Common.{◌≡◌, ◌+◌, ◌*◌, ◌%◌, ◌^◌, arith}
use Rattle.script.specs.Feeding.{taken}
use Rattle.script.proofs.take.Goals as goal

pub returns : goal.returns
unfolding taken
returns c =
    let a = c.args in
    let e : (a.s.body * 256 + a.byte) % 2 ^ 40 ≡ a.s.body % 4294967296 * 256 + a.byte = omega arith in
    rw (c.count.ensures, c.saturating_sub.ensures, e)
