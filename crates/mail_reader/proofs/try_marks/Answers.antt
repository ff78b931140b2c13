-- `mail::change` writes what stands before such a cell; what the text shares with it, and the byte after it, decide.
use mathlib.Core.Path.{sym, ◌∙◌}
use native.Mathlib.Omega.{arith}
use Rattle.mail_reader.proofs.ReaderLaws.{try-differs, try-text-ends, try-no-character, try-cell}
use Rattle.mail_reader.proofs.try_marks.Goals as goal

pub returns-then-reach-n : goal.returns-then-reach-n
returns-then-reach-n c =
    let a = c.args in
    let p = c.change-n in
    let e = c.common-reach.ensures in
    rw e (try-differs _ _ a.text.now p.new.out p.result p.ensures (rw e at c.if-reach-n.true))

pub returns-in_default : goal.returns-in_default
returns-in_default c =
    let p = c.change-n in
    rw c.common-reach.ensures (try-text-ends _ _ c.args.text.now p.new.out p.result p.ensures (rw c.in_default.is at c.get.ensures.lookup.3))

pub returns-then-not-is_character : goal.returns-then-not-is_character
returns-then-not-is_character c =
    let p = c.change-n in
    let e = c.in-Some.ensures.lookup.4 (omega arith) 0 in
    rw c.common-reach.ensures (try-no-character _ _ c.args.text.now p.new.out p.result p.ensures (rw (← e) (sym c.is_character.ensures ∙ c.if-not-is_character.true)))

pub returns : goal.returns
returns c =
    let p = c.change-n in
    let e = c.in-Some.ensures.lookup.4 (omega arith) 0 in
    let r = c.common-reach.ensures in
    rw e
    (try-cell _ _ c.args.text.now p.new.out p.result p.ensures (rw r at c.if-reach-n.false) (omega (arith, c.in-Some.ensures.lookup.3.0))
    (rw (← e) (sym c.is_character.ensures ∙ c.if-not-is_character.false)))
