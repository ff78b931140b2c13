-- The first three words, then the rest as the third of them says.
use mathlib.Core.Path.{◌≡◌, ap, sym, ◌∙◌}
use Prim.Native.Nat.{ℕ, ◌%◌}
use borrow.Author.Tests.{eq-eqb, ne_eqb}
use Rattle.memory.proofs.Laws.{exit}
use Rattle.memory.specs.Reading.{one_pointer}
use Rattle.memory.specs.Address.{ahead}
use Rattle.converter.specs.Walk.{word_of}
use Rattle.marking.proofs.TrailLaws.{words_in}
use Rattle.following.proofs.ListLaws.{block_null, block-faulted, block-passed, third-word}
use Rattle.marking.proofs.MarkLaws.{trails-still, trails-so, trails-on, one-shaped}
use Rattle.following.proofs.lists.mark_block.Goals as goal

pub returns-then-p-eq0 : goal.returns-then-p-eq0
returns-then-p-eq0 c = trails-still _ (block_null _ _ _ _ _ _ (eq-eqb _ 0 c.if-p-eq0.true))

pub returns-in_err-mark_words : goal.returns-in_err-mark_words
returns-in_err-mark_words c =
    rw (exit _ c.from_residual.ensures.1)
    (trails-so (rw c.in_err-mark_words.was at (c.mark_words.ensures one_pointer (one-shaped 3))) (block-faulted _ _ _ _ _ _ (ne_eqb _ 0 c.if-p-eq0.false)))

pub returns : goal.returns
returns c =
    let a = c.args in
    let m = a.marked.now.mem.now in
    let s = c.mark_words.ensures one_pointer (one-shaped 3) in
    let w : c.word_in-w.result ≡ word_of m (ahead a.linear 2 a.p.address) = (rw s.kept.mem at c.word_in-w.ensures) ∙ ap (word_of m) c.words_ahead.ensures in
    let h = third-word 0 m a.linear a.p.address ∙ ap (λ (x : ℕ). x % 16) (sym w) in
    trails-on (rw c.in_ok-mark_words.was at s) (rw (c.pointed.ensures.0, w) at (c.mark_rest.ensures (words_in a.linear m 3 a.p.address) h))
    (block-passed _ _ _ _ _ _ (ne_eqb _ 0 c.if-p-eq0.false))
