-- A change has its line before the text of what it leaves; where there is none the text is the draw program's.
use Prim.Native.Nat.{◌<◌}
use mathlib.Core.Logic.{inl, inr}
use Rattle.memory.proofs.ReadBounds.{Words}
use Rattle.mending.proofs.Steps.{Sixteen}
use Rattle.mend_text.proofs.ChangeLaws.{changed-next, unchanged-next, change-written, unchanged-text}
use borrow.Author.Rules.{rules}
use Rattle.mend_text.proofs.next_change.Goals as goal
use Rattle.mend_text.proofs.next_change.Goals.{After-mend_step}

sixteen : (c : After-mend_step) → Sixteen c.args.settings c.args.mem.now
sixteen c =
    let a = c.args in
    let top : a.settings.top.second < 65536 = c.well_formed.0.1.1.1.1.1.1.1.0.1.1.1.0.1 in
    let tow : a.settings.tow.second < 65536 = c.well_formed.0.1.1.1.1.1.1.1.1.0.1.1.1.0.1 in
    let words : Words a.mem.now = λ i. search rules in
    record { words = words; registers = record { top = top; tow = tow } }

pub returns-in-Whole : goal.returns-in-Whole
returns-in-Whole c =
    let w = sixteen (goal.at.returns-in-Whole c).After-mend_step in
    elim c.in-Whole.is [
      | inl e ↦ let m = rw e at c.mend_step.ensures.mem_after in record { out_after = unchanged-next _ _ _ tt m; next = unchanged-text _ _ w _ tt m }
      | inr r ↦ let m = rw r.1 at c.mend_step.ensures.mem_after in record { out_after = unchanged-next _ _ _ tt m; next = unchanged-text _ _ w _ tt m }
    ]

pub returns-in-Changed : goal.returns-in-Changed
returns-in-Changed c =
    let e = rw c.in-Changed.is at c.mend_step.ensures.mem_after in
    let fewer = rw c.in-Changed.is at c.mend_step.ensures.fewer in
    record { out_after = changed-next _ _ _ _ c.change_line.ensures e; next = change-written _ _ (sixteen (goal.at.returns-in-Changed c).After-mend_step) _ _ c.change_line.ensures e fewer }
