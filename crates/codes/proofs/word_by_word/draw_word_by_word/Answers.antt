-- Each turn takes one word with its one or two codes: what is left to draw from here is the whole segment's.
use mathlib.Core.Path.{sym, ◌∙◌}
use native.Mathlib.Omega.{arith}
use Rattle.memory.proofs.Laws.{exit}
use Rattle.codes.specs.Answers.{so_far}
use Rattle.codes.proofs.CodeLaws.{codes-none, codes-absent, codes-refused, codes-more}
use Rattle.codes.proofs.word_by_word.draw_word_by_word.Goals as goal

pub returns-in_default : goal.returns-in_default
returns-in_default c =
    let a = c.args in
    let l = c.loop-left in record {
      within = tt;
      cells_after = rw c.missing.ensures (sym (l.invariant.3
          ∙ codes-absent l.read a.mem.now a.settings a.room.source a.room.end l.at (so_far l.current l.cells) l.left c.loop-left-test.true
          (sym c.word_at.ensures ∙ c.in_default.is)));
    }

pub returns-in_err-word : goal.returns-in_err-word
returns-in_err-word c =
    let a = c.args in
    let l = c.loop-left in
    rw (exit _ c.from_residual.ensures.1) (record {
      within = tt;
      cells_after = sym (l.invariant.3
          ∙ codes-refused l.read a.mem.now a.settings a.room.source a.room.end l.at (so_far l.current l.cells) _
          (sym c.word_at.ensures ∙ c.in-Some.is) l.left c.loop-left-test.true
          (sym (rw c.min-n.ensures at c.in_err-word.ensures.cells_after)));
    })

pub loop-left-preserved : goal.loop-left-preserved
loop-left-preserved c =
    let a = c.args in
    let l = c.loop-left in
    let e = c.draw_word in
    let h = rw c.min-n.ensures at c.in_ok-word.ensures.within in (
      e.auto.cells ∙ l.invariant.0,
      h.0,
      omega arith,
      l.invariant.3
          ∙ codes-more l.read a.mem.now a.settings a.room.source a.room.end l.at (so_far l.current l.cells) _
          (sym c.word_at.ensures ∙ c.in-Some.is) l.left c.loop-left-test.true
          (sym (rw c.min-n.ensures at c.in_ok-word.ensures.cells_after))
          ∙ rw (c.onward-at.ensures, c.min-n.ensures),
    )

pub returns : goal.returns
returns c =
    let a = c.args in
    let l = c.loop-left in record { within = (l.invariant.1, omega arith); cells_after = sym (l.invariant.3 ∙ codes-none l.read a.mem.now a.settings a.room.source a.room.end l.at (so_far l.current l.cells) l.left (omega arith)) }
