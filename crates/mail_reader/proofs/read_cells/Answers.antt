-- What the text comes to is the cells so far, then what the text from `at` on comes to: each turn reads one cell, of at most 13 bytes.
use mathlib.Core.Path.{sym, ◌∙◌}
use native.Mathlib.Omega.{arith}
use lib.ListN.{length-set, length-drop}
use Rattle.std.proofs.lemmas.List.{set-get_or}
use Rattle.mail_reader.proofs.ReaderLaws.{rest-whole, row-goes-on, row-stops, row-full}
use Rattle.mail_reader.proofs.read_cells.Goals as goal

pub end_row-requires : goal.end_row-requires
end_row-requires c =
    let e = rw c.in-Err.is at c.next_cell.ensures in
    (omega arith, omega arith)

pub returns-in-Err : goal.returns-in-Err
returns-in-Err c =
    let l = c.loop-count in
    let e = rw (c.in-Err.is, rest-whole _ _) at c.next_cell.ensures in
    let r = c.end_row.ensures l.row (omega arith) in
    rw (set-get_or l.row l.count 0)
    (r.0 ∙ rw (rest-whole _ _) (sym (row-stops _ _ _ l.at l.before l.count l.invariant.2 (omega arith) _ e.0)), r.1)

pub loop-count-preserved : goal.loop-count-preserved
loop-count-preserved c =
    let l = c.loop-count in
    let e = rw (c.in-Ok.is, rest-whole c.args.text.now l.at) at c.next_cell.ensures in (
      omega arith,
      omega (arith, length-drop l.at c.args.text.now),
      row-goes-on _ _ _ l.at l.before l.count l.invariant.2 (omega arith) (omega arith) _ e.0,
      length-set _ _ _ ∙ l.invariant.3,
    )

pub returns : goal.returns
returns c =
    let l = c.loop-count in
    let r = c.end_row-2.ensures l.row (omega arith) in
    (r.0 ∙ rw (rest-whole c.args.text.now l.at) (sym (row-full _ _ _ l.at l.before l.count l.invariant.2 (omega arith))), r.1)
