-- Each turn examines one code: what is left to examine from here is the whole word's.
use mathlib.Core.Path.{sym, ◌∙◌}
use native.Mathlib.Nat.{sub-zero}
use native.Mathlib.Omega.{arith}
use Rattle.memory.proofs.Laws.{exit}
use Rattle.codes.specs.Codes.{word_codes}
use Rattle.codes.specs.Answers.{so_far}
use Rattle.codes.proofs.CodeLaws.{bytes-none, bytes-refused, bytes-more}
use Rattle.codes.proofs.word_by_word.draw_word.Invariants.{bytes}
use Rattle.codes.proofs.word_by_word.draw_word.Goals as goal

pub loop-i-init : goal.loop-i-init
unfolding word_codes
loop-i-init c = (c.requires.1, omega arith, rw sub-zero)

pub returns-in_err-examined : goal.returns-in_err-examined
returns-in_err-examined c =
    let a = c.args in
    let l = c.loop-i in
    rw (exit _ c.from_residual.ensures.1) (record {
      within = tt;
      cells_after = sym (l.invariant.2
          ∙ bytes-refused l.read a.mem.now a.settings a.room.source a.room.end (bytes a.w) a.n l.i (so_far l.current l.cells)
          (omega arith) c.requires.2 (sym (rw c.code_at-code.ensures at c.in_err-examined.ensures.cells_after)));
    })

pub loop-i-preserved : goal.loop-i-preserved
loop-i-preserved c =
    let a = c.args in
    let l = c.loop-i in
    let h = c.in_ok-examined.ensures.within in (
      h.0,
      omega arith,
      l.invariant.2
          ∙ bytes-more l.read a.mem.now a.settings a.room.source a.room.end (bytes a.w) a.n l.i (so_far l.current l.cells)
          (omega arith) c.requires.2 (sym (rw c.code_at-code.ensures at c.in_ok-examined.ensures.cells_after)),
    )

pub returns : goal.returns
returns c =
    let a = c.args in
    let l = c.loop-i in record {
      within = (l.invariant.0, omega arith);
      cells_after = sym (l.invariant.2
          ∙ bytes-none l.read a.mem.now a.settings a.room.source a.room.end (bytes a.w) a.n l.i (so_far l.current l.cells) (omega arith));
    }
