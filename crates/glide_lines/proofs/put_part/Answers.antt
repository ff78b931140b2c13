-- Each call writes its piece after the ones before, so the pieces are the text's, one after the other.
use mathlib.Core.Path.{◌∙◌}
use native.Mathlib.Omega.{arith}
use lib.ListN.{take}
use Rattle.lines.specs.Lines.{text, decimal, hex}
use Rattle.glide_lines.specs.GlideLines.{part_text}
use Rattle.glide_lines.proofs.TextLaws.{part-pieces}
use Rattle.glide_lines.proofs.put_part.Goals as goal

pub returns : goal.returns
unfolding part_text
returns c =
    let a = c.args in (
      omega (arith, c.put_hex.ensures.0, c.put_number-end-3.ensures.0, c.put_number-end-2.ensures.0, c.put_number-end.ensures.0),
      c.put_hex.ensures.1 ∙ rw (c.put_number-end-3.ensures.1, c.put_number-end-2.ensures.1, c.put_number-end.ensures.1) (part-pieces (take a.at a.out.now) a.name.now (decimal a.part.index) (text " from ") (decimal a.part.line) (text " of ") (decimal a.part.height) (text " attr ") (hex 3 a.part.attributes)),
    )
