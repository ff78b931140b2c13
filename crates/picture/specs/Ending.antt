-- "No jump at the end": a frame shifted by the whole row, against the frame that ends the scroll. Geometry: which row and which scan line.
use Rattle.std.specs.Prelude.{ℕ, suc, ◌<◌, ◌≡◌, Bool, true, false, List, ◌++◌, ℤ, pos, nat_abs}
use Rattle.std.proofs.Math.Option.{none, some}
use Rattle.std.proofs.Math.ListN.{get_elem?}
use Rattle.memory.specs.Reading.{given, run}
use Rattle.settings.specs.declared.PointerWords.{PointerWords}
use Rattle.settings.specs.declared.Settings.{Settings}
use Rattle.settings.specs.Timing.{lines_for_rows}
use Rattle.blocks.specs.declared.MainBlock.{MainBlock}
use Rattle.background.specs.Background.{BackgroundRow, background_block}
use Rattle.start.specs.Top.{top_block}
use Rattle.start.specs.Start.{first_format}
use Rattle.frame.specs.Frame.{frame}
use Rattle.beside.specs.Beside.{with_top}
use Rattle.panel.specs.declared.Background.{Background}
use Rattle.panel.specs.declared.Background.TheVariants.{Nothing, Row, Above}
use Rattle.panel.specs.Line.{place_at, is_down}
use Rattle.picture.specs.Picture.{picture, height_above, heights_of, line_on}
use Rattle.picture.specs.Still.{WordsFit}
use Rattle.picture.specs.EveryLine.{refusal_below}

-- the first row pointer of the main block at a top is the link of row 0 of another list
pub data Linked (linear : Bool) (m : List ℕ) (from to : PointerWords) : Type 0 where
  linked : {a b : MainBlock} {g : BackgroundRow} {i j k : ℕ} → run m (top_block linear from) ≡ given i a → run m (top_block linear to) ≡ given j b
      → run m (background_block linear a.rows (first_format a.lines)) ≡ given k g → b.rows.address ≡ g.block.link.address
      → Linked linear m from to

-- row 1 of one list, where there is one, has the height of row 0 of the other
abbrev pub SameNext : (from to : List ℕ) → Type 0
SameNext from to = (h k : ℕ) → get_elem? from 1 ≡ some h → get_elem? to 0 ≡ some k → h ≡ k

-- the same scan line, one row further on: after the row above comes row 0
abbrev pub one_further : Background → Background
one_further Nothing = Nothing
one_further (Row p) = Row (place_at (suc p.index) p.line p.left)
one_further (Above p) = Row p

-- "Up: the soft main block's first row pointer is the link of the hard list's row 0; row 1 of the hard list has the height of row 0 of the
-- soft one; nothing is refused. n is the height of row 0." "line y at shift n has row i + 1 and scan line l exactly where line y of the
-- frame that ends the scroll has row i and l." The two frames may start from any latches.
abbrev pub EndsUp : Type 0
EndsUp = (shift : ℤ) (soft : PointerWords) (latch latch' : ℕ) (σ : Settings) (m : List ℕ) → WordsFit m
    → let p = picture shift soft latch σ m in
    let e = picture (pos 0) soft latch' (with_top σ soft) m in
    Linked σ.linear m σ.top soft → SameNext (heights_of p.rows ++ heights_of p.below) (heights_of e.rows)
    → p.refusal ≡ none → refusal_below σ m (nat_abs shift) (frame latch σ m).state ≡ none → e.refusal ≡ none
    → is_down shift ≡ false → nat_abs shift ≡ height_above p.rows
    → (y : ℕ) → y < lines_for_rows σ → (line_on p y).background ≡ one_further (line_on e y).background

-- "Down: soft row 0's link is the hard first pointer, soft row 1 has hard row 0's height, n is soft row 0's." "at shift -n: the row above
-- where that has row 0, row i where it has row i + 1"
abbrev pub EndsDown : Type 0
EndsDown = (shift : ℤ) (soft : PointerWords) (latch latch' : ℕ) (σ : Settings) (m : List ℕ) → WordsFit m
    → let p = picture shift soft latch σ m in
    let e = picture (pos 0) soft latch' (with_top σ soft) m in
    Linked σ.linear m soft σ.top → SameNext (heights_of e.rows) (heights_of p.rows)
    → p.refusal ≡ none → e.refusal ≡ none
    → is_down shift ≡ true → nat_abs shift ≡ height_above p.above
    → (y : ℕ) → y < lines_for_rows σ → (line_on e y).background ≡ one_further (line_on p y).background
