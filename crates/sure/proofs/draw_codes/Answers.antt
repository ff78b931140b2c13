-- Without codes nothing is read; with a list its words are there, and without one no code takes any.
use mathlib.Core.Path.{◌≡◌, refl, ap, sym, ◌∙◌}
use mathlib.Core.Bool.{true, false, ◌&&◌, not}
use Prim.Native.Nat.{ℕ}
use native.Mathlib.Omega.{arith}
use lib.Dec.{eqb}
use borrow.Author.Tests.{ne_eqb}
use Rattle.memory.specs.Reading.{Reading}
use Rattle.codes.specs.Codes.{Drawing, codes}
use Rattle.codes.specs.Answers.{so_far}
use Rattle.cells.specs.Cells.{code_count}
use Rattle.noting.specs.Noting.{noting}
use Rattle.noting.proofs.NotingLaws.{noting-done}
use Rattle.sure.proofs.WalkLaws.{not-both}
use Rattle.sure.proofs.draw_codes.Goals as goal

pub returns-then-n-eq0 : goal.returns-then-n-eq0
unfolding codes
returns-then-n-eq0 c =
    let a = c.args in
    let d = so_far a.pen a.cells.now in
    let drawn : ℕ → Reading Drawing = λ k. codes a.settings a.room.source a.room.end k a.g.codes d in
    let none = sym c.code_count-n.ensures.0 ∙ c.if-n-eq0.true in record { column_le_end = (omega arith, omega arith, λ _. refl); cells_value = ap (λ (k : ℕ). noting a.words a.mem.now a.list.now (drawn k)) none ∙ noting-done a.words a.mem.now a.list.now d }

pub returns-then-pen : goal.returns-then-pen
returns-then-pen c =
    let a = c.args in
    let d = so_far a.pen a.cells.now in
    let drawn : ℕ → Reading Drawing = λ k. codes a.settings a.room.source a.room.end k a.g.codes d in
    let r = c.draw_listed.ensures in
    let n = c.code_count-n.ensures in
    let left = c.if-n-eq0.false in
    let present = c.if-pen.true in
    let some : eqb (code_count a.g) 0 ≡ false = ne_eqb (code_count a.g) 0 (λ e. left (c.code_count-n.ensures.0 ∙ e)) in
    let takes : a.pen.list.present && not (eqb (code_count a.g) 0) ≡ true = rw (present, some) in record { column_le_end = (c.draw_listed.ensures.column_le_end.0, omega (arith, c.draw_listed.ensures.column_le_end.1, c.code_count-n.ensures.1), λ e. not-both e takes); cells_value = ap (λ (k : ℕ). noting a.words a.mem.now a.list.now (drawn k)) (sym c.code_count-n.ensures.0) ∙ c.draw_listed.ensures.by_index a.g.codes.from }

pub returns-else-pen : goal.returns-else-pen
returns-else-pen c =
    let a = c.args in
    let d = so_far a.pen a.cells.now in
    let drawn : ℕ → Reading Drawing = λ k. codes a.settings a.room.source a.room.end k a.g.codes d in
    let r = c.draw_plain.ensures in
    let n = c.code_count-n.ensures in record { column_le_end = (c.draw_plain.ensures.column_le_end.0, omega (arith, c.draw_plain.ensures.column_le_end.1, c.code_count-n.ensures.1), λ _. c.draw_plain.ensures.column_le_end.2); cells_value = ap (λ (k : ℕ). noting a.words a.mem.now a.list.now (drawn k)) (sym c.code_count-n.ensures.0) ∙ c.draw_plain.ensures.by_index a.g.codes.from }
