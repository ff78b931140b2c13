-- Where the first window's words are marked the start gives what its walk does; the rows follow.
use mathlib.Core.Path.{sym, ◌∙◌}
use Rattle.memory.proofs.Laws.{exit, told-ok, told-err}
use Rattle.marking.proofs.MarkLaws.{kept-on}
use Rattle.following.proofs.RowLaws.{window-faulted, window-refused, window-given}
use Rattle.following.proofs.rows.follow_window.Goals as goal

pub returns-in_err-told_in : goal.returns-in_err-told_in
returns-in_err-told_in c =
    let s = c.mark_window.ensures 0 0 in
    let k = told-err _ _ (sym c.told_in.ensures ∙ c.in_err-told_in.was) in
    rw (exit _ c.from_residual.ensures.1, k.2)
    (record { kept = s.kept; followed = window-faulted _ _ _ _ _ c.requires.0 (sym (rw (k.1, c.pointer_of-tow.ensures) at s.marked)) })

pub returns-in_err-started : goal.returns-in_err-started
returns-in_err-started c =
    let p = c.requires in
    let s = c.mark_window.ensures 0 0 in
    let m = told-ok _ _ (sym c.told_in.ensures ∙ c.in_ok-told_in.was) in
    rw (exit _ c.from_residual-in_err-started.ensures.1) (record {
      kept = s.kept;
      followed = window-refused _ _ _ _ _ p.0 (sym (rw (m, c.pointer_of-tow.ensures) at s.marked)) p.1 (rw (c.in_err-started.was, s.kept.mem) at c.start_main.ensures);
    })

pub returns : goal.returns
returns c =
    let p = c.requires in
    let s = c.mark_window.ensures 0 0 in
    let m = told-ok _ _ (sym c.told_in.ensures ∙ c.in_ok-told_in.was) in
    record {
      kept = kept-on s.kept c.follow_rows.ensures.kept;
      followed = (rw s.kept.mem at c.follow_rows.ensures.followed)
          ∙ window-given _ _ _ _ _ p.0 (sym (rw (m, c.pointer_of-tow.ensures) at s.marked)) p.1 (rw (c.in_ok-started.was, s.kept.mem) at c.start_main.ensures);
    }
