-- A word is set where the record has one; past the end a list stays as it is.
use Rattle.std.proofs.Common.{sym, ◌∙◌}
use lib.Seq.{set_out}
use Rattle.script.specs.Records.{memory_after}
use Rattle.script.proofs.KindLaws.{kind_2, kind-other}
use Rattle.script.proofs.store.Goals as goal
use Rattle.script.proofs.store.Goals.{else-kind-eq2-via-then-kind-eq2+else-i-mem, else-kind-eq2-via-else-kind-eq2}

pub returns-then-i-mem : goal.returns-then-i-mem
unfolding memory_after
returns-then-i-mem c = sym (kind_2 _ _ _ _ c.if-kind-eq2.true)

pub returns-else-kind-eq2 : goal.returns-else-kind-eq2
unfolding memory_after
returns-else-kind-eq2 c =
    elim c.else-kind-eq2.branch [
      | else-kind-eq2-via-then-kind-eq2+else-i-mem w ↦ sym (kind_2 c.args.kind _ _ _ w.if-kind-eq2.true ∙ set_out _ _ _ w.if-i-mem.false)
      | else-kind-eq2-via-else-kind-eq2 w ↦ sym (kind-other _ _ _ w.if-kind-eq2.false)
    ]
