-- After i turns the first i characters stand after the bar; each turn puts one more, and the loop ends with all.
use Rattle.std.proofs.Common.{◌≡◌, ◌∙◌, arith, append-nil, length, take, map}
use native.Mathlib.Nat.{add-zero}
use lib.Seq.{take_all}
use Rattle.lines.specs.Lines.{text}
use Rattle.glide_lines.specs.GlideLines.{character, character_line}
use Rattle.glide_lines.proofs.TextLaws.{three-pieces, character-more}
use Rattle.glide_lines.proofs.put_characters.Goals as goal

pub loop-i-init : goal.loop-i-init
loop-i-init c = rw (add-zero, append-nil)

pub loop-i-preserved : goal.loop-i-preserved
loop-i-preserved c =
    let l = c.loop-i in
    let a = c.args in
    let p = c.put-start in
    rw c.character_of.ensures (character-more l.out a.cells.now (take p.result c.put-start.new.out) p.result l.i (omega (arith, l.auto)) c.loop-i-test.true l.invariant)

pub returns : goal.returns
unfolding character_line
returns c =
    let a = c.args in
    let l = c.loop-i in
    let i : l.i ≡ length a.cells.now = omega (arith, l.auto) in (
      omega (arith, c.put.ensures.0, c.put-start.ensures.0),
      c.put.ensures.1 ∙ rw (← i, l.invariant, c.put-start.ensures.1, take_all l.i a.cells.now c.loop-i-test.false)
          (three-pieces (take a.at a.out.now) (text "|") (map character a.cells.now) (text "|\n")),
    )
