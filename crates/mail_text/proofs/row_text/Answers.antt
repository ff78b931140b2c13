-- What `write_mail` wrote is the row's text; it refuses nothing, since settings are good, cells are 132 and any row's text fits.
use native.Mathlib.Omega.{arith}
use Rattle.mail_text.proofs.RowLaws.{never-refused, row_line}
use borrow.Author.Rules.{rules}
use Rattle.mail_text.proofs.row_text.Goals as goal

pub returns-in-Ok : goal.returns-in-Ok
returns-in-Ok c =
    row_line c.args.settings _ _ c.requires (search rules) (omega arith) (rw c.in-Ok.is at c.write_mail.ensures.text_after)

pub returns-in-Err : goal.returns-in-Err
returns-in-Err c =
    absurd
    (never-refused c.args.settings _ _ c.requires (search rules) (omega arith) (rw c.in-Err.is at c.write_mail.ensures.text_after))
