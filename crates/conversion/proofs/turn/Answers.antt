-- Each turn passes one word more: those before it are turned, and what changed is counted.
use mathlib.Core.Path.{◌≡◌, ap, ap₂, sym, ◌∙◌}
use mathlib.Core.List.{List}
use Prim.Native.Nat.{ℕ, ◌<◌, ◌+◌}
use native.Mathlib.Omega.{arith}
use lib.ListN.{length, get_or, set}
use lib.Seq.{take_all}
use Rattle.converter.specs.Converter.{turned, turned_memory, change, changes}
use Rattle.conversion.proofs.TurnLaws.{turned_none, changes-none, turned-at, turned_more, changes-more}
use Rattle.conversion.proofs.turn.Goals as goal

pub loop-i-init : goal.loop-i-init
loop-i-init c = (sym (turned_none _), sym (changes-none _), omega arith)

pub loop-i-preserved : goal.loop-i-preserved
loop-i-preserved c =
    let l = c.loop-i in
    let a = c.args in
    let marked : l.i < length a.marks.now = omega arith in
    let same : get_or l.mem l.i 0 ≡ get_or a.mem.now l.i 0 = ap (λ (xs : List ℕ). get_or xs l.i 0) l.invariant.0 ∙ turned-at _ _ a.mem.now in
    let value = c.turned_word.ensures ∙ ap (turned (get_or a.marks.now l.i 0)) same in (
      ap₂ (λ (xs : List ℕ) (v : ℕ). set xs l.i v) l.invariant.0 value ∙ turned_more _ _ a.mem.now marked c.loop-i-test.true,
      ap₂ ◌+◌ l.invariant.1 (c.change-count.ensures.value ∙ ap (λ (x : ℕ). change x c.turned_word.result) same)
          ∙ sym (changes-more _ _ a.mem.now l.mem c.loop-i-test.true l.auto.mem same),
      omega arith,
    )

pub returns : goal.returns
returns c =
    let l = c.loop-i in
    let a = c.args in
    let whole = l.invariant.0 ∙ ap (λ (ks : List ℕ). turned_memory ks a.mem.now) (take_all l.i a.marks.now (omega arith)) in
    (whole, l.invariant.1 ∙ ap (changes a.mem.now) whole, omega arith)
