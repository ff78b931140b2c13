-- The cells are read into an array of their own, so a refusal leaves the buffer as it was; a text of another form is refused first.
use Prim.Native.Nat.{ℕ}
use Rattle.memory.proofs.Laws.{exit}
use Rattle.memory.specs.declared.Refusal.{Refusal}
use Rattle.memory.specs.Reading.{refusal}
use Rattle.mail_reader.specs.Read.{not_of_this_form}
use Rattle.mail_reader.proofs.ReaderLaws.{before-ok, before-err, not-a-row, too_short, all_read}
use Rattle.mail_reader.proofs.read_mail.Goals as goal

-- refusal 24 of an offset
abbrev told : ℕ → Refusal
told offset = refusal 0 (not_of_this_form offset)

pub returns-in_err-count-clause-cells_after : goal.returns-in_err-count-clause-cells_after
returns-in_err-count-clause-cells_after c =
    let b = before-err told c.read_row.result c.map_err.ensures.cases c.in_err-count.was in
    let r = rw b.1 at c.read_row.ensures in
    rw (exit _ c.from_residual.ensures.1, b.2) (not-a-row _ _ b.0 r.0)

pub returns-then-cells-count-clause-cells_after : goal.returns-then-cells-count-clause-cells_after
returns-then-cells-count-clause-cells_after c =
    let r = rw (before-ok told c.read_row.result c.map_err.ensures.cases c.in_ok-count.was) at c.read_row.ensures in
    rw c.refused.ensures (too_short _ _ c.read_row.new.row _ r.1 r.0 c.if-cells-count.true)

pub returns-clause-cells_after : goal.returns-clause-cells_after
returns-clause-cells_after c =
    let r = rw (before-ok told c.read_row.result c.map_err.ensures.cases c.in_ok-count.was) at c.read_row.ensures in
    rw c.copy_from_slice.ensures.after (all_read c.args.text.now c.args.cells.now c.read_row.new.row c.in_ok-count.count r.1 r.0 c.if-cells-count.false)
