-- Each call writes its piece after the ones before, so the pieces are the line's, one after the other.
use mathlib.Core.Path.{◌≡◌, ◌∙◌}
use mir.Syntax.{w32}
use mir.Val.{to_z, of_z}
use Rattle.glide_lines.specs.GlideLines.{frame_line}
use borrow.Author.Rules.{rules}
use Rattle.glide_lines.proofs.frame_line.Goals as goal

pub returns : goal.returns
unfolding frame_line
returns c =
    let a = c.args in
    let same : to_z w32 (of_z w32 a.scroll.shift) ≡ a.scroll.shift = search rules in
    (c.put_end.ensures.0, c.put_end.ensures.1, c.put_end.ensures.2 ∙ rw (c.put_hex-at-3.ensures.1, c.put_hex-at-2.ensures.1, c.put_hex-at.ensures.1, c.put_way-at.ensures.1, c.put_number-at-2.ensures.1, rw same at c.put_shift-at.ensures.1, c.put_number-at.ensures.1))
