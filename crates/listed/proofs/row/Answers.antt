-- Checks 1 and 25, in this order, then the row.
use mathlib.Core.Path.{refl}
use Prim.Native.Nat.{◌<◌}
use lib.ListN.{length}
use lib.Dec.{lit<}
use borrow.Author.Tests.{eq-eqb, ne_eqb}
use Rattle.row.specs.Row.{row_call}
use Rattle.listed.specs.Listed.{row_listed}
use Rattle.listed.proofs.ListedLaws.{row-law}
use Rattle.listed.proofs.row.Goals as goal

pub returns-then-buffer-ne132 : goal.returns-then-buffer-ne132
unfolding row_listed row_call
returns-then-buffer-ne132 c = record { few_words = lit< tt; list_after = rw (c.refusal_of.ensures, c.fault_of.ensures, ne_eqb (length c.args.buffer.now) 132 c.if-buffer-ne132.true) refl }

pub returns-then-list-ne12000 : goal.returns-then-list-ne12000
unfolding row_listed
returns-then-list-ne12000 c =
    let a = c.args in
    record { few_words = lit< tt; list_after = rw (c.refusal_of-then-list-ne12000.ensures, c.fault_of-then-list-ne12000.ensures, eq-eqb (length a.buffer.now) 132 c.if-buffer-ne132.false, ne_eqb (length a.list.now) 12000 c.if-list-ne12000.true) }

pub returns : goal.returns
returns c =
    let a = c.args in
    let small : a.state.fields.fill.code < 256 = c.well_formed.1.1.0.1.1.1.0.1.1.1.1.1.0.1.1.0.1 in
    let e = c.row_at.ensures in record {
      few_words = c.row_at.ensures.few_words;
      list_after = row-law a.settings a.mem.now (λ i. (c.type_inv.mem i).fits) a.state small a.buffer.now a.list.now c.if-buffer-ne132.false c.if-list-ne12000.false
          _ _ _ c.row_at.ensures.buffer_after c.row_at.ensures.list_after;
    }
