-- At the input's end no byte is read, nor where a read fails; else those that came are fed.
use Rattle.std.proofs.Common.{refl, [], lit<}
use Rattle.image.specs.Feeding.{feeding}
use Rattle.script_input.specs.Input.{ended, led}
use Rattle.script_input.specs.Reader.{on, out}
use Rattle.script_input.proofs.InputLaws.{consumed}
use Rattle.script_input.proofs.read_some.Goals as goal

pub returns-then-n-eq0 : goal.returns-then-n-eq0
unfolding feeding
returns-then-n-eq0 g c =
    let given = consumed _ _ c.read.result c.read.new.buf c.read.ensures.bytes in
    record {
      input = rw c.at_end.ensures (ended [] refl);
      taken = record {
        bytes = [];
        given = rw (← c.unwrap_or-n.ensures, c.if-n-eq0.true) at given;
        small = λ i. lit< tt;
        leads = rw c.at_end.ensures (out refl);
      };
    }

pub returns : goal.returns
returns g c =
    let given = consumed _ _ c.read.result c.read.new.buf c.read.ensures.bytes in
    record {
      input = led _ c.feed.ensures.fed;
      taken = record {
        bytes = _;
        given = rw (← c.unwrap_or-n.ensures) at given;
        small = c.feed.ensures.small;
        leads = on c.feed.ensures.fed;
      };
    }
