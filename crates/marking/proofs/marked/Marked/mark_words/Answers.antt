-- Each turn marks one word more in its role: what is left to mark from here is the whole block's.
use mathlib.Core.Path.{ap, sym, ◌∙◌}
use native.Mathlib.Omega.{arith}
use native.Mathlib.Nat.{sub-zero, sub-add-eq}
use lib.ListN.{drop}
use lib.Seq.{drop-drop}
use Rattle.memory.proofs.Laws.{exit}
use Rattle.converter.specs.Walk.{mark}
use Rattle.marking.specs.Answers.{role_at}
use Rattle.marking.proofs.TrailLaws.{words-halted, words-went, words-none}
use Rattle.marking.proofs.MarkLaws.{kept-still, kept-on, role-ahead}
use Rattle.marking.proofs.marked.Marked.mark_words.Goals as goal

pub loop-i-init : goal.loop-i-init
loop-i-init c = record { kept = kept-still _; rest = λ rs h. rw sub-zero }

pub returns-in_err-mark_word : goal.returns-in_err-mark_word
returns-in_err-mark_word c =
    let l = c.loop-i in
    rw (exit _ c.from_residual.ensures.1) (λ rs h.
    let e = ap mark (role-ahead l.i rs) ∙ h l.i c.loop-i-test.true ∙ sym c.mark_at.ensures in
    record {
      kept = kept-on l.invariant.kept c.mark_word.ensures.kept;
      marked = sym (l.invariant.rest rs h
          ∙ words-halted _ _ _ _ _ _ _ (omega arith)
          (sym (rw (c.in_err-mark_word.was, l.invariant.kept.mem) at (c.mark_word.ensures.walked (role_at (drop l.i rs) 0) e))));
    })

pub loop-i-preserved : goal.loop-i-preserved
loop-i-preserved c =
    let l = c.loop-i in record {
      kept = kept-on l.invariant.kept c.mark_word.ensures.kept;
      rest = λ rs h.
          let e = ap mark (role-ahead l.i rs) ∙ h l.i c.loop-i-test.true ∙ sym c.mark_at.ensures in
          l.invariant.rest rs h
          ∙ words-went _ _ _ _ _ _ _ (omega arith)
          (sym (rw (c.in_ok-mark_word.was, l.invariant.kept.mem) at (c.mark_word.ensures.walked (role_at (drop l.i rs) 0) e)))
          ∙ rw (c.onward-at.ensures, drop-drop 1 l.i rs, sub-add-eq);
    }

pub returns : goal.returns
returns c = λ rs h.
    let l = c.loop-i in
    record { kept = l.invariant.kept; marked = sym (l.invariant.rest rs h ∙ words-none _ _ _ _ _ _ _ (omega arith)) }
