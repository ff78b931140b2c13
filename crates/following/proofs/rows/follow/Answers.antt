-- Where the main block's words are marked its reader gives what its walk does; the window follows.
use mathlib.Core.Path.{◌≡◌, sym, ◌∙◌}
use borrow.Author.Rules.{rules}
use Rattle.converter.specs.Converter.{follow}
use Rattle.marking.proofs.MarkLaws.{kept-on}
use Rattle.following.specs.Answers.{followed}
use Rattle.memory.proofs.Laws.{exit, told-ok, told-err}
use Rattle.following.proofs.RowLaws.{top-faulted, top-refused, top-given}
use Rattle.following.proofs.rows.follow.Goals as goal

pub returns-in_err-told_in : goal.returns-in_err-told_in
returns-in_err-told_in c =
    let p = c.requires in
    let k = told-err _ _ (sym c.told_in.ensures ∙ c.in_err-told_in.was) in
    rw (exit _ c.from_residual.ensures.1, k.2) (top-faulted _ _ _ _ p.1 p.0 (sym (rw k.1 at c.mark_top.ensures.marked)))

pub returns-in_err-main : goal.returns-in_err-main
returns-in_err-main c =
    let p = c.requires in
    let m = told-ok _ _ (sym c.told_in.ensures ∙ c.in_ok-told_in.was) in
    let k = told-err _ _ (sym c.told_in-2.ensures ∙ c.in_err-main.was) in
    rw (exit _ c.from_residual-in_err-main.ensures.1, k.2)
    (top-refused _ _ _ _ p.1 p.0 (sym (rw m at c.mark_top.ensures.marked)) (sym (rw k.1 at c.top_block.ensures)))

pub returns : goal.returns
returns c =
    let p = c.requires in
    let m = told-ok _ _ (sym c.told_in.ensures ∙ c.in_ok-told_in.was) in
    let b = told-ok _ _ (sym c.told_in-2.ensures ∙ c.in_ok-main.was) in
    let k = kept-on c.mark_top.ensures.kept c.follow_window.ensures.kept in
    let e : followed c.follow_window.result c.follow_window.new.marked.marks.now ≡ follow c.args.latch c.args.settings c.args.mem.now =
    (rw c.mark_top.ensures.kept.mem at c.follow_window.ensures.followed)
    ∙ top-given _ _ _ _ p.1 p.0 (sym (rw m at c.mark_top.ensures.marked)) (sym (rw b at c.top_block.ensures)) in
    search (rules, e, k)
