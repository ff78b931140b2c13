use Rattle.std.proofs.Common.{◌≡◌, ◌-◌, ◌++◌, length, take}
use Rattle.memory.specs.Reading.{done, ◌>>=◌, run, run_from}
use Rattle.memory.specs.Address.{words}
use Rattle.memory.proofs.read_words.Given as goal

abbrev pub invariant-loop-w : goal.invariant-loop-w
invariant-loop-w l =
    run l.mem (words l.linear (length l.initial.w-items) l.initial.at)
    ≡ run_from l.w-index l.mem (words l.linear (length l.initial.w-items - l.w-index) l.at >>= λ ws. done (take l.w-index l.w-items ++ ws))
