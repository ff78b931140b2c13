-- Each case of the text has its piece.
use Rattle.image.specs.ToCome.{to_come}
use Rattle.image.proofs.PieceLaws.{head-piece}
use borrow.Author.Rules.{rules}
use Rattle.image.proofs.next.Goals as goal

pub returns-in-Head : goal.returns-in-Head
returns-in-Head c =
    let a = c.args in
    rw c.in-Head.is (head-piece a.registers.now a.mem.now _ _ _ c.put_head.ensures)

pub returns-in-Ended : goal.returns-in-Ended
unfolding to_come
returns-in-Ended c = search rules
