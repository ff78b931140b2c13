-- A segment's fields are the words at its place, its pointers beginning where their own words stand; past the fifteen there are no words.
use mathlib.Core.Path.{◌≡◌, ap, sym, ◌∙◌}
use Prim.Native.Nat.{ℕ, ◌+◌, ◌*◌}
use native.Mathlib.Omega.{arith}
use lib.ListN.{drop_of_length-le}
use Rattle.memory.specs.Word.{at}
use Rattle.memory.specs.Address.{pointer, ahead}
use Rattle.blocks.proofs.BlockLaws.{segment-at, segment-none}
use Rattle.blocks.proofs.segment_in.Goals as goal

pub returns-then-i-lt15 : goal.returns-then-i-lt15
returns-then-i-lt15 c =
    let a = c.args in
    let l = a.linear in
    let k = 5 * a.i in
    let ws = a.words.now in
    let begins : c.words_ahead-at.result ≡ ahead l k a.count.at = c.words_ahead-at.ensures in
    let further : c.words_ahead-list_at.result ≡ ahead l 2 c.words_ahead-at.result = c.words_ahead-list_at.ensures in
    (λ i. record {
      codes = (c.pointer_of.ensures ∙ ap (λ (b : ℕ). pointer l b (at ws k) (at ws (k + 1))) begins) i;
      attributes = (c.pointer_of-then-i-lt15.ensures ∙ ap (λ (b : ℕ). pointer l b (at ws (k + 2)) (at ws (k + 3))) (further ∙ ap (ahead l 2) begins)) i;
      length = c.high_byte.ensures i;
      visible = c.low_byte.ensures i;
    })
    ∙ sym (segment-at l (ahead l k a.count.at) k ws)

pub returns-else-i-lt15 : goal.returns-else-i-lt15
returns-else-i-lt15 c =
    let a = c.args in
    sym (rw (drop_of_length-le a.words.now {i = 5 * a.i} (omega arith)) (segment-none a.linear (ahead a.linear (5 * a.i) a.count.at)))
