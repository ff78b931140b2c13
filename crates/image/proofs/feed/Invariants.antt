use Rattle.std.proofs.Common.{◌≡◌, drop}
use Rattle.image.specs.Feeding.{feeding}
use Rattle.image.proofs.feed.Given as goal

abbrev pub invariant-loop-byte : goal.invariant-loop-byte
invariant-loop-byte l =
    feeding l.bytes l.initial.s l.initial.registers l.initial.mem ≡ feeding (drop l.byte-index l.bytes) l.s l.registers l.mem
