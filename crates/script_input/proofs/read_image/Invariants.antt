-- The bytes so far led to where the script stands, and those that come are read after them.
use Rattle.script.specs.Feeding.{beginning}
use Rattle.script_input.proofs.InputLaws.{Going}
use Rattle.script_input.proofs.read_image.Given as goal

abbrev pub invariant-loop : goal.invariant-loop
invariant-loop g l =
    Going (g.R.Read.remaining l.initial.input) (g.R.Read.remaining l.input) beginning l.initial.registers l.initial.mem l.script l.registers l.mem
