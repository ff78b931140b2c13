-- A number at most the least row fits its byte where the check passes; the check does not look at it where it fails.
use mathlib.Core.Path.{sym, ◌∙◌, ◌≡◌}
use Prim.Native.Nat.{ℕ, ◌≤◌, ◌<◌}
use native.Mathlib.Omega.{arith}
use mathlib.Core.Bool.{true, ◌&&◌}
use lib.Dec.{leb}
use Rattle.memory.specs.Word.{low}
use Rattle.memory.proofs.ReadBounds.{both}
use borrow.Author.Tests.{eq-eqb, ne_eqb, leb-true}
use Rattle.memory.proofs.Laws.{exit, step_given, step-refused, run-done, check-of-passed, check-of-failed}
use Rattle.memory.proofs.WordLaws.{read_whole, read-refused}
use Rattle.memory.proofs.Roles.{run-as}
use Rattle.windows.specs.declared.WindowBlock.{WindowBlock}
use Rattle.windows.specs.Window.{window_of, in_order, window_at}
use Rattle.windows.proofs.window_at.Goals as goal

byte : (number least : ℕ) (b : WindowBlock) → number ≤ least → in_order b && leb least b.top ≡ true → b.top < 256 → low number ≡ number
byte number least b h t k = omega (arith, leb-true least b.top (both (in_order b) (leb least b.top) t).1)

pub returns-then-p-eq0 : goal.returns-then-p-eq0
unfolding window_at
returns-then-p-eq0 c = rw (eq-eqb _ 0 c.if-p-eq0.true) (sym (run-done _ _ _))

pub returns-then-may_follow : goal.returns-then-may_follow
unfolding window_at
returns-then-may_follow c =
    let r = c.read_words in
    let t = sym c.may_follow.ensures ∙ c.if-may_follow.true in
    let number = byte _ _ c.window_of-w.result.block c.requires t (omega (arith, c.window_of-w.type_inv)) in
    rw (ne_eqb _ 0 c.if-p-eq0.false, c.window_of-w.ensures, c.low_byte.ensures, number)
    (sym (step_given 0 _ _ _ (run-as _ _ _ _ ∙ read_whole _ _ 6 _ _ _ r.ensures c.in_ok-read_words.was r.auto.into)
    ∙ check-of-passed _ _ _ c.args.p _ _ (rw (c.window_of-w.ensures, c.low_byte.ensures, number) at t) ∙ run-done _ _ _))

pub returns-else-may_follow : goal.returns-else-may_follow
unfolding window_at window_of
returns-else-may_follow c =
    let r = c.read_words in
    rw (c.blame.ensures, ne_eqb _ 0 c.if-p-eq0.false)
    (sym (step_given 0 _ _ _ (run-as _ _ _ _ ∙ read_whole _ _ 6 _ _ _ r.ensures c.in_ok-read_words.was r.auto.into)
    ∙ check-of-failed _ _ _ c.args.p _ _ (sym (rw c.window_of-w.ensures at c.may_follow.ensures) ∙ c.if-may_follow.false)))

pub returns-in_err-read_words : goal.returns-in_err-read_words
unfolding window_at
returns-in_err-read_words c =
    let r = c.read_words in
    rw (exit _ c.from_residual.ensures.1, ne_eqb _ 0 c.if-p-eq0.false) (sym (step-refused 0 _ _ _ (run-as _ _ _ _ ∙ read-refused _ _ 6 _ _ _ r.ensures c.in_err-read_words.was)))
