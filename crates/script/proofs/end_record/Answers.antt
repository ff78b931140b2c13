-- A record that is not accepted is refused at its start; an accepted one stores its word and sets its settings.
use Rattle.std.proofs.Common.{sym, ◌∙◌}
use Rattle.script.specs.Feeding.{ended}
use Rattle.script.proofs.end_record.Goals as goal

pub returns-then-not-is_accepted : goal.returns-then-not-is_accepted
unfolding ended
returns-then-not-is_accepted c = rw (sym c.is_accepted.ensures ∙ c.if-not-is_accepted.true)

pub returns : goal.returns
unfolding ended
returns c =
    rw (c.settings_after-settings.ensures, c.store.ensures, sym c.is_accepted.ensures ∙ c.if-not-is_accepted.false)
