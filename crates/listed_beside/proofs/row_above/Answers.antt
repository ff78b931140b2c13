-- Checks 1 and 25 come first, then the start; its state's row has the answer, and both are in the list.
use Rattle.std.proofs.Common.{Ok}
use mathlib.Core.Path.{◌≡◌, ap, ◌∙◌}
use mathlib.Core.List.{List}
use native.Mathlib.Omega.{arith}
use lib.Seq.{sets}
use Prim.Native.Nat.{ℕ}
use Rattle.memory.proofs.ReadBounds.{Words}
use Rattle.start.specs.Start.{start_call}
use Rattle.beside.proofs.BesideLaws.{start-words}
use Rattle.addresses.specs.Addresses.{start_addresses}
use Rattle.memory.proofs.Laws.{exit}
use Rattle.listed_beside.proofs.ListedBesideLaws.{other-buffer, other-list, start-refused, above}
use Rattle.listed_beside.proofs.row_above.Goals as goal

pub returns-then-buffer-ne132 : goal.returns-then-buffer-ne132
returns-then-buffer-ne132 c = rw c.refused.ensures (other-buffer _ _ _ _ _ c.if-buffer-ne132.true)

pub returns-then-list-ne12000 : goal.returns-then-list-ne12000
returns-then-list-ne12000 c =
    rw c.refused-then-list-ne12000.ensures (other-list _ _ _ _ _ c.if-buffer-ne132.false c.if-list-ne12000.true)

pub row_at-requires : goal.row_at-requires
row_at-requires c =
    let words : Words c.args.mem.now = λ i. (c.type_inv.mem i).fits in
    let accepted : Ok c.in_ok-started.started ≡ start_call c.args.latch c.args.settings c.args.mem.now = rw c.in_ok-started.was at c.start.ensures in
    (c.if-buffer-ne132.false, c.if-list-ne12000.false, start-words _ _ _ words accepted)

pub tell-requires : goal.tell-requires
tell-requires c =
    let words : Words c.args.mem.now = λ i. (c.type_inv.mem i).fits in
    let accepted : Ok c.in_ok-started.started ≡ start_call c.args.latch c.args.settings c.args.mem.now = rw c.in_ok-started.was at c.start.ensures in
    (omega (arith, start-words _ _ _ words accepted), rw c.in_ok-row.was at c.row_at.ensures.few_words)

pub returns-in_err-started : goal.returns-in_err-started
returns-in_err-started c =
    rw (exit _ c.from_residual.ensures.1) (start-refused _ _ _ _ _ c.if-buffer-ne132.false c.if-list-ne12000.false (rw c.in_err-started.was at c.start.ensures))

pub returns-in_err-row : goal.returns-in_err-row
returns-in_err-row c =
    let words : Words c.args.mem.now = λ i. (c.type_inv.mem i).fits in
    let accepted : Ok c.in_ok-started.started ≡ start_call c.args.latch c.args.settings c.args.mem.now = rw c.in_ok-started.was at c.start.ensures in
    let called = rw c.in_err-row.was at c.row_at.ensures.buffer_after in
    let list = rw c.in_err-row.was at c.row_at.ensures.list_after in
    rw (exit _ c.from_residual-in_err-row.ensures.1) (above _ _ _ _ _ c.if-buffer-ne132.false c.if-list-ne12000.false words _ _ _ _ accepted called list)

pub returns : goal.returns
returns c =
    let words : Words c.args.mem.now = λ i. (c.type_inv.mem i).fits in
    let accepted : Ok c.in_ok-started.started ≡ start_call c.args.latch c.args.settings c.args.mem.now = rw c.in_ok-started.was at c.start.ensures in
    let called = rw c.in_ok-row.was at c.row_at.ensures.buffer_after in
    let list = rw c.in_ok-row.was at c.row_at.ensures.list_after in
    rw c.tell.ensures
    (above _ _ _ _ _ c.if-buffer-ne132.false c.if-list-ne12000.false words _ _ _ _ accepted called
    (c.put_start.ensures ∙ ap (λ (k : List ℕ). sets k 0 (start_addresses c.args.settings)) list))
