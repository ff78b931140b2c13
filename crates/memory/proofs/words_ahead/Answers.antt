-- No word further is the address itself; more of them are one move, of 2 bytes a word.
use Rattle.std.proofs.Common.{◌≡◌, suc, ◌-◌, sym, ◌∙◌, arith}
use Rattle.memory.proofs.WordLaws.{ahead_none}
use Rattle.memory.proofs.RunLaws.{ahead-forward}
use Rattle.memory.proofs.Step.{forward-cut}
use Rattle.memory.proofs.words_ahead.Goals as goal

-- No word further is the address itself; more of them are one move, of 2 bytes a word.
pub returns-then-count-eq0 : goal.returns-then-count-eq0
returns-then-count-eq0 c = sym (ahead_none _ _ _ c.if-count-eq0.true)

pub returns : goal.returns
returns c =
    let a = c.args in
    let e : suc (a.count - 1) ≡ a.count = omega (arith, c.if-count-eq0.false) in
    c.forward_in_loops.ensures ∙ forward-cut a.linear a.count a.a
    ∙ sym (rw e at (ahead-forward a.linear (a.count - 1) a.a))
