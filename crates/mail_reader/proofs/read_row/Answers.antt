-- A text that begins otherwise stops there; `read_cells` reads the rest of any other.
use mathlib.Core.Path.{◌∙◌}
use native.Mathlib.Omega.{arith}
use Rattle.mail.specs.Mail.{row_start}
use Rattle.mail_reader.proofs.CommonLaws.{common-right}
use Rattle.mail_reader.proofs.ReaderLaws.{other-start, right-start}
use Rattle.mail_reader.proofs.read_row.Goals as goal

pub returns-then-start-lt4 : goal.returns-then-start-lt4
returns-then-start-lt4 c =
    let e = c.common-start.ensures in
    rw e (other-start _ (rw e at c.if-start-lt4.true))

pub read_cells-requires : goal.read_cells-requires
read_cells-requires c = omega (arith, common-right row_start c.args.text.now)

pub returns : goal.returns
returns c =
    let r = c.read_cells.ensures in
    (c.read_cells.ensures.0 ∙ right-start _ (rw c.common-start.ensures at c.if-start-lt4.false), c.read_cells.ensures.1)
