-- The definition is the sum that the code makes.
use borrow.Author.Rules.{rules}
use Rattle.panel.specs.Shown.{with_cursor_of}
use Rattle.panel.proofs.with_cursor_of.Goals as goal

pub returns : goal.returns
unfolding with_cursor_of
returns c = search rules
