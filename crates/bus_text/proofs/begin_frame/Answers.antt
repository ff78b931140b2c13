-- The answer of `frame::begin`, from latch 0: the words of a start fit 16 bits, and the text of the report that begins is the
-- frame's.
use mathlib.Core.Path.{sym}
use native.Mathlib.Omega.{arith}
use Rattle.memory.proofs.ReadBounds.{Words}
use Rattle.bus_text.specs.ToCome.{to_come}
use Rattle.bus_text.proofs.ReportLaws.{begun-small, begun-text, refused-text}
use Rattle.bus_text.proofs.begin_frame.Goals as goal

pub overflow_cast-result : goal.overflow_cast-result
overflow_cast-result c =
    let a = c.args in
    let words : Words a.mem.now = λ i. (c.type_inv.mem i).fits in
    let k = begun-small a.settings a.mem.now words (sym (rw c.in-Ok.is at c.begin.ensures)) in
    omega arith

pub returns-in-Ok : goal.returns-in-Ok
returns-in-Ok c =
    let a = c.args in
    let words : Words a.mem.now = λ i. (c.type_inv.mem i).fits in
    rw c.none.ensures (begun-text a.settings a.mem.now words a.burst (sym (rw c.in-Ok.is at c.begin.ensures)))

pub returns-in-Err : goal.returns-in-Err
unfolding to_come
returns-in-Err c =
    let a = c.args in
    let words : Words a.mem.now = λ i. (c.type_inv.mem i).fits in
    refused-text a.settings a.mem.now words a.burst (sym (rw c.in-Err.is at c.begin.ensures))
