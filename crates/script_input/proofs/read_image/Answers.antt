-- What a turn reads is read after the bytes so far; a script that no turn has ended stands where those bytes led.
use Rattle.std.proofs.Common.{refl, [], lit<}
use Rattle.std.proofs.KnownBytes.{Consumes-nil}
use Rattle.image.specs.Feeding.{feeding}
use Rattle.script_input.specs.Input.{led}
use Rattle.script_input.specs.Reader.{on}
use Rattle.script_input.proofs.InputLaws.{then, going, input_of}
use Rattle.script_input.proofs.read_image.Goals as goal

pub loop-init : goal.loop-init
unfolding feeding
loop-init g c = record { bytes = []; given = Consumes-nil _; small = λ i. lit< tt; leads = rw c.begin-script.ensures refl }

pub returns-in_default : goal.returns-in_default
returns-in_default g c =
    let t = then c.loop.invariant c.read_some.ensures.taken in
    record { input = input_of t; taken = t }

pub loop-preserved : goal.loop-preserved
loop-preserved g c = going (then c.loop.invariant c.in-More.ensures.taken)

pub returns : goal.returns
returns g c =
    let i = c.loop.invariant in
    record { input = led i.bytes i.leads; taken = record { bytes = i.bytes; given = i.given; small = i.small; leads = on i.leads } }
