use Rattle.std.proofs.Common.{◌≡◌, ◌++◌, ◌+◌, take, map}
use Rattle.glide_lines.specs.GlideLines.{character}
use Rattle.glide_lines.proofs.put_characters.Given as goal

abbrev pub invariant-loop-i : goal.invariant-loop-i
invariant-loop-i l =
    take (l.start + l.i) l.out ≡ take l.start l.initial.out ++ map character (take l.i l.cells)
