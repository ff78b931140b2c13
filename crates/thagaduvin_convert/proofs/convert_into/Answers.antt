-- The conversion's answer decides which line of `by_answer` it is; its count fits, as a frame reads no more words.
use mathlib.Core.Path.{ap, sym}
use Prim.Native.Nat.{◌<◌}
use native.Mathlib.Omega.{arith}
use Rattle.converter.specs.Converter.{Called}
use Rattle.thagaduvin_convert.proofs.Count.{count_fits}
use borrow.Author.Rules.{rules}
use Rattle.thagaduvin_convert.proofs.convert_into.Goals as goal

pub overflow_cast-c : goal.overflow_cast-c
overflow_cast-c c =
    let g = c.well_formed.0 in
    let val : c.args.s.val < 65536 = omega (arith, g) in
    let top : c.args.s.top.second < 65536 = omega (arith, g) in
    let tow : c.args.s.tow.second < 65536 = omega (arith, g) in
    let e = rw c.in-Ok.is at c.convert.ensures in
    omega (arith, count_fits _ _ _ _ _ ((λ i. search rules), top, tow) val (sym (ap (λ (x : Called). x.answer) e)))
