-- The text of what `convert` answers, and the registers and the memory that it leaves; there are as many marks as words.
use mathlib.Core.Path.{◌≡◌, ap}
use lib.ListN.{length}
use Rattle.image.specs.ToCome as Image
use Rattle.convert_text.specs.ConvertText.{called_text, called_left}
use Rattle.convert_text.specs.ToCome.{to_come}
use borrow.Author.Rules.{rules}
use Rattle.convert_text.proofs.begin_converted.Goals as goal

pub returns-in-Ok : goal.returns-in-Ok
unfolding to_come Image.to_come called_text called_left
returns-in-Ok c =
    let a = c.args in
    let n : length a.mem.now ≡ 16384 = search rules in
    let e = rw c.in-Ok.is at c.convert.ensures in
    rw (n, c.switches_of.ensures, c.turn_registers.ensures)
    (ap (called_text a.registers.now) e, ap (called_left a.registers.now) e)

pub returns-in-Err : goal.returns-in-Err
unfolding to_come called_text called_left
returns-in-Err c =
    let a = c.args in
    let n : length a.mem.now ≡ 16384 = search rules in
    let e = rw c.in-Err.is at c.convert.ensures in
    rw n (ap (called_text a.registers.now) e, ap (called_left a.registers.now) e)
