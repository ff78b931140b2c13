-- Each field is picked by the test that the definition has.
use Rattle.script.specs.Records.{registered}
use Rattle.script.proofs.set_register.Goals as goal

pub returns : goal.returns
unfolding registered
returns c =
    rw (
      c.pick.ensures,
      c.pick-2.ensures,
      c.pick-3.ensures,
      c.pick-4.ensures,
      c.pick-5.ensures,
      c.pick-6.ensures,
      c.pick-7.ensures,
      c.pick-8.ensures,
      c.pick-9.ensures,
      c.pick-10.ensures,
      c.pick-11.ensures,
      c.pick-12.ensures,
      c.pick-13.ensures,
    )
