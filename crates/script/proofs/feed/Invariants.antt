use Rattle.std.proofs.Common.{◌≡◌, drop}
use Rattle.script.specs.Feeding.{feeding}
use Rattle.script.proofs.feed.Given as goal

abbrev pub invariant-loop-byte : goal.invariant-loop-byte
invariant-loop-byte l = feeding l.bytes l.initial.s l.initial.mem ≡ feeding (drop l.byte-index l.bytes) l.s l.mem
