-- A character goes in before the limit, which is the definition's test of ignore and room in one.
use Rattle.std.proofs.Common.{ap, arith}
use Rattle.runs.specs.declared.with_list.InForce.{InForce}
use Rattle.runs.proofs.RunLaws.{in-force-put, in-force-out}
use Rattle.runs.proofs.with_list.put_code.Goals as goal

pub returns-then-column-attribute-clause-cells_after : goal.returns-then-column-attribute-clause-cells_after
returns-then-column-attribute-clause-cells_after c hidden source end a p e h l =
    rw (e, ← h) (in-force-put hidden source end a _ p _ l (omega (arith, c.if-column-attribute.true, h, ap (λ (k : InForce). k.limit) e)))

pub returns-else-column-attribute-clause-cells_after : goal.returns-else-column-attribute-clause-cells_after
returns-else-column-attribute-clause-cells_after c hidden source end a p e h l =
    rw (← h) (in-force-out hidden source end a _ p _ (omega (arith, c.if-column-attribute.false, h, ap (λ (k : InForce). k.limit) e)))
