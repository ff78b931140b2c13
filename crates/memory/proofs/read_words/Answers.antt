-- Each turn reads one word more: what is left to read, after the words in the front of the slice, is the whole reading.
use Rattle.std.proofs.Common.{◌≡◌, ◌<◌, length, sym, refl, ◌∙◌, append_assoc, append-nil, arith, length-set}
use native.Mathlib.Nat.{sub-zero, sub-add-eq}
use lib.Seq.{take-length}
use Rattle.memory.proofs.Laws.{bind_done, run-done}
use Rattle.memory.proofs.WordLaws.{words-none, words-word, words-absent}
use Rattle.memory.proofs.ListLaws.{take_next}
use Rattle.memory.proofs.read_words.Goals as goal

pub loop-w-init : goal.loop-w-init
loop-w-init c = rw sub-zero (bind_done _ _ _)

pub returns-in_default : goal.returns-in_default
returns-in_default c =
    let l = c.loop-w in
    rw c.missing.ensures
    (sym (l.invariant ∙ words-absent _ _ _ _ _ _ (omega arith) (sym c.word_at.ensures ∙ c.in_default.is)))

pub loop-w-preserved : goal.loop-w-preserved
loop-w-preserved c =
    let l = c.loop-w in
    let k : l.w-index < length l.w-items = omega arith in
    l.invariant
    ∙ words-word _ _ _ _ _ _ _ (omega arith) (sym c.word_at.ensures ∙ c.in-Some.is)
    ∙ rw (c.onward-at.ensures, take_next l.w-items l.w-index _ k, sub-add-eq) (simp append_assoc)

pub returns : goal.returns
returns c =
    let l = c.loop-w in
    let n : l.w-index ≡ length l.w-items = omega arith in
    sym (l.invariant ∙ words-none _ _ _ _ _ _ (omega arith) ∙ run-done _ _ _ ∙ rw (n, take-length, append-nil))
