-- The array is `state_numbers` of the state: a bool's number is `yes-number`'s, the window's numbers are `held`'s.
use Rattle.memory.proofs.TestLaws.{yes-number}
use Rattle.numbers.specs.Encode.{state_numbers}
use Rattle.numbers.proofs.encode.write_state.Goals as goal

pub returns : goal.returns
unfolding state_numbers
returns c = rw (c.held-w.ensures, c.is_some.ensures) (simp yes-number)
