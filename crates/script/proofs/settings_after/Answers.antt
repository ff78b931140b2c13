-- The match is the choice by kind.
use Rattle.std.proofs.Common.{arith, sym, ◌∙◌}
use Rattle.script.specs.Records.{settings_after}
use Rattle.script.proofs.KindLaws.{kind_1, kind_2, kind_3}
use Rattle.script.proofs.settings_after.Goals as goal

pub returns-in-1 : goal.returns-in-1
unfolding settings_after
returns-in-1 c = c.set_register.ensures ∙ sym (kind_1 _ _ _ _ c.in-1.is)

pub returns-in-2 : goal.returns-in-2
unfolding settings_after
returns-in-2 c = sym (kind_2 _ _ _ _ c.in-2.is)

pub returns-in_default : goal.returns-in_default
unfolding settings_after
returns-in_default c = c.set_switches.ensures ∙ sym (kind_3 c.args.kind _ _ _ (omega arith) (omega arith))
