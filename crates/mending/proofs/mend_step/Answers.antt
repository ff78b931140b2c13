-- The words of the pointer to blame are told, then cleared, by the verdict's place; they were not both 0.
use mathlib.Core.Path.{ap, sym, ◌∙◌}
use Prim.Native.Nat.{◌<◌}
use native.Mathlib.Omega.{arith}
use Rattle.memory.proofs.ReadBounds.{Words}
use Rattle.mending.specs.Mending.{by_verdict, mend_step}
use Rattle.mending.proofs.Steps.{blamed-fewer}
use Rattle.mending.proofs.mend_step.Goals as goal

pub returns-in-Whole : goal.returns-in-Whole
unfolding mend_step
returns-in-Whole c = record { mem_after = ap (by_verdict _ _) (sym c.in-Whole.is ∙ c.frame_verdict.ensures); fewer = tt }

pub returns-in-Refused : goal.returns-in-Refused
unfolding mend_step
returns-in-Refused c = record { mem_after = ap (by_verdict _ _) (sym c.in-Refused.is ∙ c.frame_verdict.ensures); fewer = tt }

pub returns-in-Blamed : goal.returns-in-Blamed
unfolding mend_step
returns-in-Blamed c =
    let a = c.args in
    let top : a.settings.top.second < 65536 = omega arith in
    let tow : a.settings.tow.second < 65536 = omega arith in
    let words : Words a.mem.now = λ i. (c.slice_known-1.given i).fits in
    let v = sym c.in-Blamed.is ∙ c.frame_verdict.ensures in
    rw (c.clear_register.ensures, c.clear_words.ensures, c.change_of-change.ensures) (record { mem_after = ap (by_verdict _ _) v; fewer = blamed-fewer a.settings a.mem.now (record { words = words; registers = record { top = top; tow = tow } }) a.latch v })
