-- The change of marks is written, and then the character, one byte more.
use mathlib.Core.Path.{◌∙◌}
use Prim.Native.Nat.{◌<◌}
use native.Mathlib.Omega.{arith}
use lib.ListN.{length}
use Rattle.memory.proofs.ListLaws.{take_next}
use Rattle.mail.proofs.TextLaws.{text-character, text-marks}
use Rattle.mail.proofs.put_cell.Goals as goal

pub returns : goal.returns
returns c =
    let p = c.put_change-end in
    let h : p.result < length c.put_change-end.new.out = omega arith in (
      omega arith,
      take_next c.put_change-end.new.out p.result _ h ∙ rw (c.put_change-end.ensures.1, c.marks_of.ensures, c.character_of.ensures, text-marks, text-character),
    )
