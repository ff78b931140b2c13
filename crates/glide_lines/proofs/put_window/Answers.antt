-- Where the first column is not past the last there is a window, and its columns follow; else nothing.
use mathlib.Core.Path.{sym, ◌∙◌}
use mathlib.Core.List.{append-nil}
use native.Mathlib.Omega.{arith}
use borrow.Author.Tests.{le-leb, lt-leb}
use lib.ListN.{take}
use Rattle.lines.specs.Lines.{text, decimal}
use Rattle.glide_lines.specs.GlideLines.{window_text}
use Rattle.glide_lines.proofs.TextLaws.{four-pieces}
use Rattle.glide_lines.proofs.put_window.Goals as goal

pub returns-then-columns : goal.returns-then-columns
unfolding window_text
returns-then-columns c =
    let a = c.args in (
      omega (arith, c.put_number.ensures.0, c.put_number-end.ensures.0),
      rw (le-leb _ _ c.if-columns.true) (c.put_number.ensures.1 ∙ rw c.put_number-end.ensures.1 (four-pieces (take a.at a.out.now) (text " window ") (decimal a.columns.first) (text " to ") (decimal a.columns.last))),
    )

pub returns-else-columns : goal.returns-else-columns
unfolding window_text
returns-else-columns c = (omega arith, rw (lt-leb _ _ c.if-columns.false) (sym (append-nil _)))
