-- Either side of bit 15 is the definition's, and the list moves one word on.
use mathlib.Core.Path.{refl, sym, ◌∙◌}
use Rattle.codes.specs.Codes.{taking}
use Rattle.codes.proofs.pens.take_word.Goals as goal

pub returns-then-bit_15 : goal.returns-then-bit_15
unfolding taking
returns-then-bit_15 c = rw (sym c.bit_15.ensures ∙ c.if-bit_15.true, c.onward.ensures) refl

pub returns-else-bit_15 : goal.returns-else-bit_15
unfolding taking
returns-else-bit_15 c = rw (c.using_list.ensures, sym c.bit_15.ensures ∙ c.if-bit_15.false, c.onward.ensures) refl
