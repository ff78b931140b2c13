-- Past the last word the draw is the last piece; before it, the records of some words come before those of the others.
use mathlib.Core.Path.{sym}
use Prim.Native.Nat.{◌≤◌}
use native.Mathlib.Omega.{arith}
use lib.ListN.{length}
use lib.Seq.{length-take-le}
use Rattle.image.proofs.PieceLaws.{draw-piece, words-piece}
use Rattle.image.proofs.next_words.Goals as goal

pub returns-then-from-ge16384 : goal.returns-then-from-ge16384
returns-then-from-ge16384 c =
    let a = c.args in
    λ rs. draw-piece rs a.mem.now a.from _ _ (omega arith) c.put_draw.ensures

pub returns : goal.returns
returns c =
    let a = c.args in
    let p = c.put_words in
    let end = c.min-end.result in
    let out = c.put_words.new.out in
    let h : p.result ≤ length out = c.put_words.ensures.0 in
    λ rs. words-piece rs a.mem.now a.from end p.result out h (sym (length-take-le _ _ h)) (omega arith) (omega arith) c.put_words.ensures.1
