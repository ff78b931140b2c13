-- The code tests as the definition does; 8388608 is 2 ^ 23.
use borrow.Author.Tests.{eq-eqb, ne_eqb}
use Rattle.glide_lines.specs.GlideLines.{character}
use Rattle.glide_lines.proofs.character_of.Goals as goal

pub returns-then-cell-eq1 : goal.returns-then-cell-eq1
unfolding character
returns-then-cell-eq1 c = rw (eq-eqb _ 1 c.if-cell-eq1.true)

pub returns-then-code : goal.returns-then-code
unfolding character
returns-then-code c = rw (ne_eqb _ 1 c.if-cell-eq1.false, c.if-code.true)

pub returns-else-code : goal.returns-else-code
unfolding character
returns-else-code c = rw (ne_eqb _ 1 c.if-cell-eq1.false, c.if-code.false)
