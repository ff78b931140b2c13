-- What is written, then the records of the words from i on, are those from the first on: each turn writes one word's, six bytes at most.
use mathlib.Core.Path.{◌≡◌}
use native.Mathlib.Omega.{arith}
use lib.ListN.{take}
use Rattle.image.specs.Written.{word_record}
use Rattle.image.proofs.PieceLaws.{value-more}
use borrow.Author.Rules.{rules}
use Rattle.image.proofs.put_words.Goals as goal

pub loop-i-preserved : goal.loop-i-preserved
loop-i-preserved c =
    let p = c.put_word-at in
    let l = c.loop-i in
    let m = c.args.mem.now in (
      search rules,
      omega arith,
      value-more word_record m _ (take l.at l.out) (take p.result c.put_word-at.new.out) l.i (omega arith) l.invariant.2 c.put_word-at.ensures.1,
    )

pub returns : goal.returns
returns c =
    let l = c.loop-i in
    let e : l.i ≡ c.args.end = omega arith in
    (omega arith, rw e at l.invariant.2)
