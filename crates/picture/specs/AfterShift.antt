-- A frame after its shift call: how far the shift goes, and how it moves from call to call.
use Rattle.std.specs.Prelude.{ℕ, ◌+◌, ◌-◌, ◌≤◌, ◌<◌, ◌≡◌, true, false, List, pos, nat_abs, Ok}
use Rattle.std.proofs.Math.Option.{some}
use Rattle.memory.specs.Reading.{given, run}
use Rattle.settings.specs.declared.PointerWords.{PointerWords}
use Rattle.settings.specs.declared.Settings.{Settings}
use Rattle.blocks.specs.declared.MainBlock.{MainBlock}
use Rattle.start.specs.Top.{enabled, rate_number, top_block}
use Rattle.beside.specs.Beside.{with_top}
use Rattle.scroll.specs.declared.Scroll.{Scroll}
use Rattle.scroll.specs.declared.FrameShift.{FrameShift}
use Rattle.scroll.specs.Rate.{rate}
use Rattle.scroll.specs.Scroll.{edge_lines, shift_call}
use Rattle.panel.specs.declared.Background.TheVariants.{Row}
use Rattle.panel.specs.Line.{place_at, is_down}
use Rattle.picture.specs.Picture.{PictureRow, picture, line_on, first}
use Rattle.picture.specs.Still.{WordsFit}

-- "After an accepted shift call in the same memory |shift| < the height of the frame's row 0 (up: it is at the top, from scan line
-- `shift`) or of the row above." The frame has the hard top that the call gave.
abbrev pub BelowFirstRow : Type 0
BelowFirstRow = (σ : Settings) (m : List ℕ) → WordsFit m → (soft : PointerWords) (last : Scroll) (s : FrameShift)
    → shift_call σ m soft last ≡ Ok s → (latch : ℕ) (r : PictureRow)
    → let shift = s.scroll.shift in
    let p = picture shift soft latch (with_top σ s.top) m in
    (is_down shift ≡ false → first p.rows ≡ some r
    → (nat_abs shift < r.height) × ((line_on p 0).background ≡ Row (place_at 0 (nat_abs shift) (r.height - nat_abs shift))))
    × (is_down shift ≡ true → first p.above ≡ some r → nat_abs shift < r.height)

-- what a call makes of the shift s that the call before gave, at a rate's lines, where the row that leaves or enters has n
pub data Moves (lines n : ℕ) (hard soft : PointerWords) (s t : FrameShift) : Type 0 where
  stays : nat_abs t.scroll.shift ≡ nat_abs s.scroll.shift → t.top ≡ hard → Moves lines n hard soft s t
  goes : nat_abs t.scroll.shift ≡ nat_abs s.scroll.shift + lines → t.top ≡ hard → Moves lines n hard soft s t
  ends : t.scroll.shift ≡ pos 0 → t.top ≡ soft → 1 ≤ n - nat_abs s.scroll.shift → n - nat_abs s.scroll.shift ≤ lines
      → Moves lines n hard soft s t

-- "from call to call of one scroll, memory and soft top unchanged, |shift| grows by 0 or the rate's lines; at the end n - |shift| is 1
-- to the rate's lines"
abbrev pub Motion : Type 0
Motion = (σ : Settings) (m : List ℕ) → WordsFit m → (soft : PointerWords) (last : Scroll) (s t : FrameShift)
    → shift_call σ m soft last ≡ Ok s → shift_call σ m soft s.scroll ≡ Ok t
    → (hard : MainBlock) (i k n : ℕ) → run m (top_block σ.linear σ.top) ≡ given i hard → enabled hard ≡ true
    → run m (edge_lines σ.linear soft hard) ≡ given k n
    → Moves (rate (rate_number hard)).lines n σ.top soft s t
