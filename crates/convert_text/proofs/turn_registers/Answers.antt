-- Each store is the definition's.
use Rattle.convert_text.specs.Registers.{turned_registers}
use borrow.Author.Rules.{rules}
use Rattle.convert_text.proofs.turn_registers.Goals as goal

pub returns : goal.returns
unfolding turned_registers
returns c = search rules
