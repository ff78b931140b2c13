-- By whether the pointer is null, and bit 15 of the third word.
use borrow.Author.Tests.{eq-eqb, ne_eqb}
use Rattle.addresses.specs.Addresses.{redefinition_of}
use Rattle.addresses.proofs.of_blocks.redefinition_of.Goals as goal

pub returns-then-p-eq0 : goal.returns-then-p-eq0
unfolding redefinition_of
returns-then-p-eq0 c = rw (eq-eqb c.args.p.address 0 c.if-p-eq0.true)

pub returns-then-bit_15 : goal.returns-then-bit_15
unfolding redefinition_of
returns-then-bit_15 c =
    rw (ne_eqb c.args.p.address 0 c.if-p-eq0.false, rw (c.bit_15.ensures, c.head_word.ensures) at c.if-bit_15.true) c.pointer_in.ensures

pub returns-else-bit_15 : goal.returns-else-bit_15
unfolding redefinition_of
returns-else-bit_15 c =
    rw (ne_eqb c.args.p.address 0 c.if-p-eq0.false, rw (c.bit_15.ensures, c.head_word.ensures) at c.if-bit_15.false)
