-- Each call writes its piece after the ones before, so the pieces are the sequence's, one after the other.
use mathlib.Core.Path.{◌∙◌}
use native.Mathlib.Omega.{arith}
use lib.ListN.{take}
use Rattle.mail.proofs.TextLaws.{pieces}
use Rattle.mail.proofs.put_sequence.Goals as goal

pub returns : goal.returns
returns c = (
  omega arith,
  c.put.ensures.front
      ∙ rw (c.put_if-end-4.ensures.1, c.put_if-end-3.ensures.1, c.put_if-end-2.ensures.1, c.put_if-end.ensures.1, c.put-end.ensures.front) (pieces (take c.args.at c.args.out.now) _),
)
