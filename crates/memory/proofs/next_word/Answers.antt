-- The next place is the smaller one where it has wrapped, and nowhere else: it carries 1 there, and else 0.
use Rattle.std.proofs.Common.{◌≡◌, ◌<◌, arith}
use Rattle.memory.specs.Address.{page, place, carry, next_word}
use Rattle.memory.proofs.Step.{pages-kept}
use Rattle.memory.proofs.next_word.Goals as goal
use Rattle.memory.proofs.next_word.Goals.{After-page_after, Joined-next-place, then-next-place, else-next-place}

carried : (c : Joined-next-place) → c.if-next-place.carried ≡ carry 2 (place c.args.a)
carried c = elim c.if-next-place.branch [ then-next-place w ↦ omega arith | else-next-place w ↦ omega arith ]

fits : (c : After-page_after) → c.page_after.result < 65536
fits c =
    let a = c.args in
    let small = pages-kept a.linear 65536 _ (page a.a) (omega arith) (omega arith) in
    rw c.page_after.ensures small

pub returns : goal.returns
unfolding next_word
returns c = rw (c.page_after.ensures, carried c.before)
