-- The frame's start is refused, or a row, or it runs to its end and hands on the latch of its last state.
use Rattle.std.proofs.Common.{sym, ◌∙◌}
use Rattle.glide_text.specs.ToCome.{to_come, following}
use Rattle.glide_text.proofs.TextLaws.{not-begun, refused_end, whole-end}
use Rattle.glide_text.proofs.finish_frame.Goals as goal

pub returns-in-Err : goal.returns-in-Err
unfolding to_come
returns-in-Err c bs =
    let a = c.args in
    not-begun (following a.follow bs a.mem.now) a.glide a.mem.now (sym (rw c.in-Err.is at c.begin.ensures))

pub returns-in-Err-end_of : goal.returns-in-Err-end_of
unfolding to_come
returns-in-Err-end_of c bs =
    let a = c.args in
    refused_end (following a.follow bs a.mem.now) a.glide a.mem.now (sym (rw c.in-Ok.is at c.begin.ensures))
    (rw c.in-Err-end_of.is at c.end_of.ensures)

pub returns-in-Ok-end_of : goal.returns-in-Ok-end_of
returns-in-Ok-end_of c bs =
    let a = c.args in
    let ended = rw c.in-Ok-end_of.is at c.end_of.ensures in
    c.resume.ensures bs a.mem.now
    ∙ rw c.after_frame.ensures
    (whole-end (following a.follow bs a.mem.now) a.glide a.mem.now (sym (rw c.in-Ok.is at c.begin.ensures)) ended.0 ended.1)
