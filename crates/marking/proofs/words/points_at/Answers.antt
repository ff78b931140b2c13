-- The two words stand where the pointer begins.
use mathlib.Core.Path.{◌≡◌, refl, ap, ◌∙◌}
use borrow.Author.Tests.{eq-eqb, ne_eqb}
use Rattle.memory.specs.declared.Pointer.{Pointer}
use mathlib.Core.Bool.{false}
use Rattle.memory.specs.Address.{pointer, next_word}
use Rattle.converter.specs.Walk.{word_of, points_at}
use Rattle.marking.proofs.words.points_at.Goals as goal

pub returns-then-from-eq0 : goal.returns-then-from-eq0
unfolding points_at
returns-then-from-eq0 c = rw (eq-eqb _ 0 c.if-from-eq0.true) refl

pub returns : goal.returns
unfolding points_at
returns c =
    let a = c.args in
    let e : c.pointer_of.result ≡ pointer false a.from (word_of a.mem.now a.from) (word_of a.mem.now (next_word false a.from)) =
    c.pointer_of.ensures ∙ rw (c.word_in-first.ensures, c.word_in-second.ensures, c.next_word.ensures) in
    rw (ne_eqb _ 0 c.if-from-eq0.false) (ap (λ (p : Pointer). p.address) e)
