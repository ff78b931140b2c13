-- The checks are the definition's, in its order. The text is made in an array of its own, so a buffer that is too short stays as it was.
use mathlib.Core.Path.{◌≡◌, sym, ap, ◌∙◌}
use mathlib.Core.Bool.{true}
use mathlib.Core.List.{map}
use Prim.Native.Nat.{ℕ}
use native.Mathlib.Omega.{arith}
use lib.ListN.{take}
use lib.Dec.{lit≤}
use Rattle.settings.specs.Good.{good}
use Rattle.settings.proofs.GoodLaws.{ordered}
use Rattle.mail.specs.Mail.{text_cell, row_text}
use Rattle.mail.proofs.WriteLaws.{other-count, not_good, too_short, few_bytes, all-written}
use Rattle.mail.proofs.write_mail.Goals as goal

pub returns-then-cells-ne132 : goal.returns-then-cells-ne132
returns-then-cells-ne132 c =
    let a = c.args in
    rw c.refused.ensures (record { few_bytes = lit≤ tt; text_after = other-count a.settings _ a.text.now c.if-cells-ne132.true })

pub returns-then-not-is_good : goal.returns-then-not-is_good
returns-then-not-is_good c =
    let a = c.args in
    rw c.refused-then-not-is_good.ensures (record { few_bytes = lit≤ tt; text_after = not_good a.settings _ a.text.now c.if-cells-ne132.false (sym c.is_good.ensures ∙ c.if-not-is_good.true) })

pub put_row-count-requires : goal.put_row-count-requires
put_row-count-requires c =
    let a = c.args in
    let g = ordered a.settings (sym c.is_good.ensures ∙ c.if-not-is_good.false) in
    (omega arith, omega arith)

pub returns-then-text-count : goal.returns-then-text-count
returns-then-text-count c =
    let a = c.args in
    let g : good a.settings ≡ true = sym c.is_good.ensures ∙ c.if-not-is_good.false in
    let e = c.put_row-count.ensures.1 ∙ ap (λ (n : ℕ). row_text (map text_cell (take n a.cells.now))) c.shown_columns.ensures in
    rw c.refused-then-text-count.ensures
    (record { few_bytes = lit≤ tt; text_after = too_short a.settings _ a.text.now c.if-cells-ne132.false g c.put_row-count.new.out _ c.put_row-count.ensures.0 e c.if-text-count.true })

pub returns : goal.returns
returns c =
    let a = c.args in
    let g : good a.settings ≡ true = sym c.is_good.ensures ∙ c.if-not-is_good.false in
    let e = c.put_row-count.ensures.1 ∙ ap (λ (n : ℕ). row_text (map text_cell (take n a.cells.now))) c.shown_columns.ensures in
    let h = c.if-cells-ne132.false in record { few_bytes = few_bytes a.settings _ a.text.now h g c.put_row-count.new.out _ c.put_row-count.ensures.0 e; text_after = all-written a.settings _ a.text.now h g c.put_row-count.new.out _ c.put_row-count.ensures.0 e _ _ c.if-text-count.false c.put.ensures }
