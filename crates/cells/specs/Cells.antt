-- Document 01, "A row, left to right": segments and fill runs, the walk that makes a row's cells.
use Rattle.std.specs.Prelude.{ℕ, ◌+◌, ◌-◌, ◌&&◌, List, ltb}
use Rattle.memory.specs.Word.{when◌then◌else◌}
use Rattle.memory.specs.declared.Fault.{Fault}
use Rattle.memory.specs.declared.Pointer.{Pointer}
use Rattle.memory.specs.Address.{null}
use Rattle.memory.specs.Reading.{Reading, done, refuse, word, ◌>>=◌, each}
use Rattle.blocks.specs.declared.FillMode.{FillMode}
use Rattle.blocks.specs.declared.Segment.{Segment}
use Rattle.layout.specs.declared.Side.TheVariants.{Before, After}
use Rattle.layout.specs.Layout.{width, Overlay, none, over, segments_on}
use Rattle.codes.specs.declared.CodeSettings.{CodeSettings}
use Rattle.codes.specs.declared.Source.{Source}
use Rattle.codes.specs.Attribute.{Fill, Background, Window, latches, cell}
use Rattle.codes.specs.Codes.{Drawing, drawing, list_at, no_list, with_list, taking, put, codes}

-- "With a null code pointer .. L has no meaning and no code is read."
abbrev pub code_count : Segment → ℕ
code_count g = when null g.codes then 0 else g.length

-- the cells up to a column have the fill code and the latch: "Fill is never ignored."
unfoldable pub filled : FillMode → ℕ → Drawing → Drawing
filled fill end d = put (end - d.pen.column) (cell Fill d.pen.latch fill.code) d

-- Refusal 13, "fill word without bit 15", has the address of the word; the attribute pointer in use is to blame (02, mending)
abbrev pub unlatched : Pointer → Fault
unlatched p = record { number = 13; address = p.address; from = p.from }

module _ (σ : CodeSettings) (fill : FillMode) where
  -- a run that takes a word, "which must have bit 15 and becomes the latch"
  unfoldable pub fill_by_word : ℕ → Drawing → Reading Drawing
  fill_by_word end d = do
    w ← word d.pen.list.next
    when latches w
        then done (filled fill end (drawing (taking σ.linear w d.pen) d.cells))
        else refuse (unlatched d.pen.list.next)

  -- a fill run up to a column: "A run of no cells does nothing. With the fill flag each run first takes the next word of the
  -- list in use .. No such segment, or a null list: the latch stands."
  unfoldable pub fill_to : ℕ → Drawing → Reading Drawing
  fill_to end d =
      when ltb d.pen.column end
      then (when fill.flag && d.pen.list.present then fill_by_word end d else done (filled fill end d))
      else done d

  -- "Fill: unfilled cells of a segment .. are fill runs."
  unfoldable pub segment : Source → Segment → Drawing → Reading Drawing
  segment source g d = do
    let end = d.pen.column + width σ.hidden g
    d₁ ← codes σ source end (code_count g) g.codes (with_list (list_at g.attributes) d)
    fill_to end d₁

  -- segments one after the other, then the fill run up to a column
  unfoldable pub segments_to : Source → List Segment → ℕ → Drawing → Reading Drawing
  segments_to source gs end d = each (segment source) gs d >>= fill_to end

  -- "unfilled cells .. of a window past its segments, and from the row's last segment to cell 131 are fill runs. A window in
  -- the middle of the last makes it two." The list in use is "its segment's; the window's last segment's; the last background
  -- segment drawn before it": the window begins with none, and leaves the background's as it was.
  unfoldable pub row_cells : Overlay → List Segment → Drawing → Reading Drawing
  row_cells none gs d = segments_to Background gs 132 d
  row_cells (over number first end ws) gs d = do
    d₁ ← segments_to Background (segments_on (Before first) σ.hidden 0 gs) first d
    d₂ ← segments_to (Window number) ws end (with_list no_list d₁)
    segments_to Background (segments_on (After first end) σ.hidden 0 gs) 132 (with_list d₁.pen.list d₂)
