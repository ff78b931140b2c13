-- What the functions of this crate give, as what the rules give: no rules of their own.
use Rattle.std.specs.Prelude.{ℕ, Bool, List, Option, Some, None, Result, Ok, Err}
use Rattle.memory.specs.declared.Fault.{Fault}
use Rattle.memory.specs.Reading.{Outcome, given, refused}
use Rattle.blocks.specs.declared.Segment.{Segment}
use Rattle.blocks.specs.RowBlock.{segments_of}
use Rattle.layout.specs.declared.Measure.{Measure}
use Rattle.layout.specs.declared.OverlayHead.{OverlayHead}
use Rattle.layout.specs.declared.overlay.OverlayRead.{OverlayRead}
use Rattle.layout.specs.Layout.{total, all_fit, Overlay, none, over}
use Rattle.layout.specs.Overlay.{Overlaid}

-- check 9 and the widths' sum of a row's segments, as `measure_segments` gives them
abbrev pub measured : Bool → List Segment → Measure
measured hidden gs = record { fit = all_fit gs; width = total hidden gs }

-- the window on a row, with the words of its segments
abbrev pub overlay_of : Bool → Option OverlayHead → List ℕ → Overlay
overlay_of linear None ws = none
overlay_of linear (Some o) ws = over o.number o.first o.end (segments_of linear o.count ws)

-- the answer of `overlay_row`, with the words of the window's segments, as an outcome. What these words are past the segments counted,
-- with no window on the row, and after a refusal, is left free.
abbrev pub overlay_read : Bool → Result OverlayRead Fault → List ℕ → Outcome Overlaid
overlay_read linear (Ok r) ws = given r.words (record { overlay = overlay_of linear r.overlay ws; window = r.window })
overlay_read linear (Err x) ws = refused x
