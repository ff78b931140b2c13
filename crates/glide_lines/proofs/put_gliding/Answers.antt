-- Each case has its word, and the row's part after it.
use mathlib.Core.Path.{sym, ◌∙◌}
use mathlib.Core.List.{append_assoc}
use native.Mathlib.Omega.{arith}
use lib.ListN.{take}
use Rattle.lines.specs.Lines.{text}
use Rattle.glide_lines.specs.GlideLines.{gliding_text}
use Rattle.glide_lines.proofs.TextLaws.{name-pieces}
use Rattle.glide_lines.proofs.put_gliding.Goals as goal

pub returns-in-Nothing : goal.returns-in-Nothing
unfolding gliding_text
returns-in-Nothing c =
    let a = c.args in
    (omega (arith, c.put.ensures.0), rw c.in-Nothing.is (c.put.ensures.1 ∙ sym (append_assoc (take a.at a.out.now) (text " ") (text "none"))))

pub returns-in-Row : goal.returns-in-Row
unfolding gliding_text
returns-in-Row c =
    let a = c.args in
    (omega (arith, c.put_part.ensures.0), rw c.in-Row.is (c.put_part.ensures.1 ∙ name-pieces (take a.at a.out.now) (text " ") (text "row ") _))

pub returns-in-Below : goal.returns-in-Below
unfolding gliding_text
returns-in-Below c =
    let a = c.args in
    (omega (arith, c.put_part-in-Below.ensures.0), rw c.in-Below.is (c.put_part-in-Below.ensures.1 ∙ name-pieces (take a.at a.out.now) (text " ") (text "below ") _))

pub returns-in-Above : goal.returns-in-Above
unfolding gliding_text
returns-in-Above c =
    let a = c.args in
    (omega (arith, c.put_part-in-Above.ensures.0), rw c.in-Above.is (c.put_part-in-Above.ensures.1 ∙ name-pieces (take a.at a.out.now) (text " ") (text "above ") _))
