-- The text of a shifted frame: its line, and for each stretch of lines its line, its shown columns as characters and their cells.
use Rattle.std.specs.Prelude.{ℕ, zero, suc, ◌+◌, ◌-◌, min, List, [], ◌++◌, length, nat_lt, Option, Some, None}
use Rattle.std.proofs.Math.Option.{Option as Maybe, none, some}
use Rattle.memory.specs.Word.{when◌then◌else◌}
use Rattle.settings.specs.declared.Settings.{Settings}
use Rattle.settings.specs.Timing.{lines_for_rows}
use Rattle.panel.specs.declared.Place.{Place}
use Rattle.panel.specs.declared.Background.{Background}
use Rattle.panel.specs.declared.Line.{Line}
use Rattle.panel.specs.Line.{place_at}
use Rattle.picture.specs.Picture.{PictureRow, Picture, picture, line_on, still_row, gliding_row, shown_at}
use Rattle.glide_lines.specs.declared.RowPart.{RowPart}
use Rattle.glide_lines.specs.declared.Gliding.{Gliding}
use Rattle.glide_lines.specs.declared.Gliding.TheVariants.{Nothing, Row, Below, Above}
use Rattle.glide_lines.specs.declared.Stretch.{Stretch}
use Rattle.glide_lines.specs.GlideLines.{frame_line, stretch_text}
use Rattle.glide_text.specs.declared.Glide.{Glide}

-- a row, from the scan line of a place on
abbrev pub part_of : Place → PictureRow → RowPart
part_of p r = record { index = p.index; line = p.line; height = r.height; attributes = r.format.attributes }

-- a row of the frame, which has so many, or one below, counted from 0
abbrev pub row_part : (rows : ℕ) → Place → PictureRow → Gliding
row_part rows p r =
    when nat_lt p.index rows then Row (part_of p r) else Below (part_of (place_at (p.index - rows) p.line p.left) r)

abbrev pub gliding_of : (rows : ℕ) → Background → Maybe PictureRow → Gliding
gliding_of rows b none = Nothing
gliding_of rows Background.Nothing (some r) = Nothing
gliding_of rows (Background.Row p) (some r) = row_part rows p r
gliding_of rows (Background.Above p) (some r) = Above (part_of p r)

-- a stretch of so many lines from screen line y on
abbrev pub stretch_of : (y count : ℕ) → Gliding → Place → PictureRow → Stretch
stretch_of y count g p s = record { first = y; last = y + count - 1; gliding = g; still = part_of p s; columns = s.columns }

-- "A stretch is cut at the screen's last line", and then the next one: `next` gives the text from its first line on
abbrev pub from_line : (ℕ → List ℕ) → Settings → Picture → ℕ → Line → Option Place → Maybe PictureRow → List ℕ
from_line next σ p y l (Some s) (some r) =
    let count = min l.lines (lines_for_rows σ - y) in
    let g = gliding_of (length p.rows) l.background (gliding_row p l.background) in
    stretch_text σ (stretch_of y count g s r) (shown_at p l) ++ next (y + count)
from_line next σ p y l (Some s) none = []
from_line next σ p y l None r = []

-- the stretches from screen line y on where a row stands still; there are no more than lines: n counts them down
unfoldable pub stretches : ℕ → Settings → Picture → ℕ → List ℕ
stretches zero σ p y = []
stretches (suc n) σ p y =
    when nat_lt y (lines_for_rows σ)
    then from_line (stretches n σ p) σ p y (line_on p y) (line_on p y).still (still_row p (line_on p y).still)
    else []

-- the picture of a frame of a glide, whose shift call is made: its hard top is the settings' TOP
abbrev pub picture_of : Glide → List ℕ → Picture
picture_of g m = picture g.scroll.shift g.soft g.latch g.script.settings m

unfoldable pub frame_text : Glide → List ℕ → List ℕ
frame_text g m =
    frame_line g.frames g.scroll g.script.settings.top g.latch
    ++ stretches (lines_for_rows g.script.settings) g.script.settings (picture_of g m) 0
