-- The answer of `frame::begin`, from latch 0: the text of the frame in progress, or of a refused start, is the frame's.
use mathlib.Core.Path.{sym}
use Rattle.memory.proofs.ReadBounds.{Words}
use Rattle.text.specs.Form.{to_come}
use Rattle.text.proofs.TextLaws.{begun-text, refused-text}
use Rattle.text.proofs.begin_frame.Goals as goal

pub returns-in-Ok : goal.returns-in-Ok
returns-in-Ok c = λ f.
    let a = c.args in
    let words : Words a.mem.now = λ i. (c.type_inv.mem i).fits in
    begun-text f a.settings a.mem.now words 0 (sym (rw c.in-Ok.is at c.begin.ensures))

pub returns-in-Err : goal.returns-in-Err
unfolding to_come
returns-in-Err c = λ f.
    let a = c.args in
    let words : Words a.mem.now = λ i. (c.type_inv.mem i).fits in
    refused-text f a.settings a.mem.now words 0 (sym (rw c.in-Err.is at c.begin.ensures))
