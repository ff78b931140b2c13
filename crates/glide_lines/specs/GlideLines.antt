-- The lines of the glide program's output, as bytes: a frame's line, and the lines of a stretch, a run of lines on which one row glides,
-- or none, and one row stands still. Numbers and cells are spelled as the draw program spells them. The lines are ours.
use Rattle.std.specs.Prelude.{ℕ, ◌%◌, Bool, ◌&&◌, List, [], ◌++◌, map, ℤ, nat_abs, leb, eqb}
use Rattle.memory.specs.Word.{when◌then◌else◌, bit}
use Rattle.settings.specs.declared.PointerWords.{PointerWords}
use Rattle.scroll.specs.declared.Scroll.{Scroll}
use Rattle.panel.specs.declared.Columns.{Columns}
use Rattle.panel.specs.Line.{is_down}
use Rattle.settings.specs.declared.Settings.{Settings}
use Rattle.lines.specs.Lines.{text, hex, decimal, cell_line, shown_cells}
use Rattle.glide_lines.specs.declared.RowPart.{RowPart}
use Rattle.glide_lines.specs.declared.Gliding.{Gliding}
use Rattle.glide_lines.specs.declared.Stretch.{Stretch}
use Rattle.glide_lines.specs.declared.Gliding.TheVariants.{Nothing, Row, Below, Above}

-- a shift, "positive up and negative down" (02): -3
abbrev pub sign : ℤ → List ℕ
sign z = when is_down z then text "-" else []

-- "direction (bit 13)" (02): 1 up
abbrev pub way_text : ℕ → List ℕ
way_text direction = when eqb direction 1 then text " up" else text " down"

-- "frame 0 shift 1 phase 0 up top 0000 0010 latch 0000": the hard top's words, and the start latch
unfoldable pub frame_line : ℕ → Scroll → (top : PointerWords) → (latch : ℕ) → List ℕ
frame_line number s top latch =
    text "frame " ++ decimal number ++ text " shift " ++ sign s.shift ++ decimal (nat_abs s.shift) ++ text " phase " ++ decimal s.phase
    ++ way_text s.direction ++ text " top " ++ hex 4 top.first ++ text " " ++ hex 4 top.second ++ text " latch " ++ hex 4 latch
    ++ text "\n"

-- "1 from 0 of 2 attr 000": a row, from which of its scan lines on, of how many, and its row attributes
unfoldable pub part_text : RowPart → List ℕ
part_text r =
    decimal r.index ++ text " from " ++ decimal r.line ++ text " of " ++ decimal r.height ++ text " attr " ++ hex 3 r.attributes

unfoldable pub gliding_text : Gliding → List ℕ
gliding_text Nothing = text "none"
gliding_text (Row r) = text "row " ++ part_text r
gliding_text (Below r) = text "below " ++ part_text r
gliding_text (Above r) = text "above " ++ part_text r

-- " window 2 to 3", where a window stands on the row
unfoldable pub window_text : Columns → List ℕ
window_text c = when leb c.first c.last then text " window " ++ decimal c.first ++ text " to " ++ decimal c.last else []

-- "lines 2 to 2 row 1 from 1 of 2 attr 000 still 1 from 0 of 2 attr 000 window 2 to 3"
unfoldable pub stretch_line : Stretch → List ℕ
stretch_line s =
    text "lines " ++ decimal s.first ++ text " to " ++ decimal s.last ++ text " " ++ gliding_text s.gliding ++ text " still "
    ++ part_text s.still ++ window_text s.columns ++ text "\n"

-- a cell as a character: its code's low seven bits, 20h to 7Eh, or ? where they are none; nothing, bit 23, is a space
abbrev pub is_character : ℕ → Bool
is_character code = leb 0x20 code && leb code 0x7e

unfoldable pub character : ℕ → ℕ
character cell = when bit 23 cell then 0x20 else when is_character (cell % 128) then cell % 128 else 0x3f

-- "|CD34|"
unfoldable pub character_line : List ℕ → List ℕ
character_line cells = text "|" ++ map character cells ++ text "|\n"

-- a stretch prints its line, its shown columns as characters, and their cells
abbrev pub stretch_text : Settings → Stretch → (cells : List ℕ) → List ℕ
stretch_text σ s cells = stretch_line s ++ character_line (shown_cells σ cells) ++ cell_line (shown_cells σ cells)

-- "end frames 2"
unfoldable pub end_frames : ℕ → List ℕ
end_frames frames = text "end frames " ++ decimal frames ++ text "\n"
