-- Three ways, as the tests go; the index is below the length since the address may be written.
use mathlib.Core.Path.{sym, ◌∙◌}
use Rattle.writer.proofs.WriterLaws.{write-shared, write-outside, write-inside}
use Rattle.writer.proofs.write_word.Goals as goal

pub returns-then-share : goal.returns-then-share
returns-then-share c = rw c.refused.ensures (sym (write-shared _ _ _ _ _ (sym c.share.ensures ∙ c.if-share.true)))

pub returns-then-may_write : goal.returns-then-may_write
returns-then-may_write c =
    sym (write-inside _ _ _ _ _ (sym c.share.ensures ∙ c.if-share.false)
    (sym c.may_write.ensures ∙ c.if-may_write.true))

pub returns : goal.returns
returns c =
    rw c.refused-2.ensures
    (sym (write-outside _ _ _ _ _ (sym c.share.ensures ∙ c.if-share.false)
    (sym c.may_write.ensures ∙ c.if-may_write.false)))
