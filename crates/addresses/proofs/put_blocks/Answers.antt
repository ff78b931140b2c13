-- The window that is due and the window's row block are found from the fields.
use mathlib.Core.List.{[]}
use Rattle.addresses.specs.Addresses.{block_addresses}
use Rattle.addresses.proofs.put_blocks.Goals as goal

pub put_plan-requires : goal.put_plan-requires
unfolding block_addresses
put_plan-requires c =
    rw (c.over_rows-rows.ensures [], c.due_of-due.ensures) (c.requires [])

pub returns : goal.returns
unfolding block_addresses
returns c =
    let due = c.due_of-due.ensures in
    let rows = c.over_rows-rows.ensures in
    record { by_index = λ ws. rw (rows ws, due) at c.put_plan.ensures.value; by_index_2 = λ ws. rw (rows ws, due) at c.put_plan.ensures.list_after }
