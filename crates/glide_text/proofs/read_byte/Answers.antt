-- The byte's step leads to the text by its cases.
use Rattle.glide_text.specs.GlideText.{on_bytes}
use Rattle.glide_text.specs.ToCome.{to_come}
use Rattle.glide_text.proofs.read_byte.Goals as goal

pub returns-in-More : goal.returns-in-More
unfolding to_come on_bytes
returns-in-More c bs = rw (← rw c.in-More.is at c.read_byte.ensures, c.with_script.ensures)

pub returns-in-Draw : goal.returns-in-Draw
unfolding to_come on_bytes
returns-in-Draw c bs = rw (← rw c.in-Draw.is at c.read_byte.ensures, c.past_draw.ensures)

pub returns-in-Refused : goal.returns-in-Refused
unfolding to_come on_bytes
returns-in-Refused c bs = rw (← rw c.in-Refused.is at c.read_byte.ensures)
