-- 18, 7 and 19 in their order, then the mark: the walk of one word.
use Rattle.std.proofs.Common.{rules, ◌≡◌, ◌<◌, ◌≤◌, ◌/◌, length, get_or}
use mathlib.Core.Path.{sym, ◌∙◌}
use Rattle.marking.proofs.MarkLaws.{mark-over, mark-absent, mark-shared, mark-free}
use Rattle.marking.proofs.marked.Marked.mark_word.Goals as goal

pub returns-then-is_read_on-clause-walked : goal.returns-then-is_read_on-clause-walked
returns-then-is_read_on-clause-walked c = λ k e. rw c.over_page_end.ensures (sym (mark-over _ _ _ _ k _ e (sym c.is_read_on.ensures ∙ c.if-is_read_on.true)))

pub returns-in_default-clause-walked : goal.returns-in_default-clause-walked
returns-in_default-clause-walked c =
    let past : length c.args.self.now.mem.now ≤ c.args.p.address / 2 = search rules in
    λ k e. rw c.missing.ensures (sym (mark-absent _ _ _ _ k _ e (sym c.is_read_on.ensures ∙ c.if-is_read_on.false) past))

pub returns-then-is_shared-clause-walked : goal.returns-then-is_shared-clause-walked
returns-then-is_shared-clause-walked c =
    let inside : c.args.p.address / 2 < length c.args.self.now.mem.now = search rules in
    λ k e.
    rw c.shared_word.ensures
    (sym (mark-shared _ _ _ _ k _ e (sym c.is_read_on.ensures ∙ c.if-is_read_on.false) inside (sym c.is_shared.ensures ∙ c.if-is_shared.true)))

pub returns-clause-walked : goal.returns-clause-walked
returns-clause-walked c =
    let inside : c.args.p.address / 2 < length c.args.self.now.mem.now = search rules in
    let word : c.in-Some.word ≡ get_or c.args.self.now.mem.now (c.args.p.address / 2) 0 = search rules in
    λ k e.
    rw word
    (sym (mark-free _ _ _ _ k _ e (sym c.is_read_on.ensures ∙ c.if-is_read_on.false) inside (sym c.is_shared.ensures ∙ c.if-is_shared.false)))
