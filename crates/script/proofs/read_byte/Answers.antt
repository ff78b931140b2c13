-- A byte is one of kind where no body is awaited, else one of the body, and the last of a body ends its record.
use Rattle.std.proofs.Common.{eq-eqb, ne_eqb}
use Rattle.script.specs.Feeding.{step_of}
use Rattle.script.proofs.read_byte.Goals as goal

pub returns-then-script-eq0 : goal.returns-then-script-eq0
unfolding step_of
returns-then-script-eq0 c = rw (c.begin_record.ensures, eq-eqb _ 0 c.if-script-eq0.true)

pub returns-then-script-eq1 : goal.returns-then-script-eq1
unfolding step_of
returns-then-script-eq1 c =
    rw (c.end_record.ensures, ne_eqb _ 0 c.if-script-eq0.false, eq-eqb _ 1 c.if-script-eq1.true, c.take-s.ensures)

pub returns-else-script-eq1 : goal.returns-else-script-eq1
unfolding step_of
returns-else-script-eq1 c = rw (c.take-s.ensures, ne_eqb _ 0 c.if-script-eq0.false, ne_eqb _ 1 c.if-script-eq1.false)
