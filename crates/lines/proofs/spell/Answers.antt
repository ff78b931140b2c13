-- Each turn moves the rest's last digit over to the text; where none stand before it the text is all of them.
use Rattle.std.proofs.Common.{sym, ◌∙◌, arith}
use Rattle.lines.proofs.TextLaws.{digits-turn, digits-none}
use Rattle.lines.proofs.spell.Goals as goal

pub loop-i-preserved : goal.loop-i-preserved
loop-i-preserved c =
    let l = c.loop-i in
    l.invariant ∙ rw c.digit.ensures (digits-turn _ _ _ _ c.loop-i-test.true (omega (arith, l.auto)))

pub returns : goal.returns
returns c = sym (c.loop-i.invariant ∙ digits-none _ _ _ _ c.loop-i-test.false)
