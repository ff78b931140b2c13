-- "No jump at the end", the cells: without windows the rows of the frame that ends the scroll are those that the shifted frame had there,
-- where they are drawn from the same latch.
use Rattle.std.specs.Prelude.{ℕ, suc, ◌≤◌, ◌≡◌, Bool, true, List, ◌++◌, ℤ, pos}
use Rattle.std.proofs.Math.Option.{none, some}
use Rattle.std.proofs.Math.ListN.{get_elem?}
use Rattle.memory.specs.Reading.{given, run}
use Rattle.memory.specs.Address.{null}
use Rattle.settings.specs.declared.PointerWords.{PointerWords}
use Rattle.settings.specs.declared.Settings.{Settings}
use Rattle.settings.specs.Timing.{lines_for_rows}
use Rattle.blocks.specs.declared.MainBlock.{MainBlock}
use Rattle.state.specs.declared.Fields.{Fields}
use Rattle.start.specs.Top.{registered, top_block}
use Rattle.row.specs.Row.{with_cursor}
use Rattle.frame.specs.Frame.{FrameRow, frame}
use Rattle.beside.specs.Beside.{with_top}
use Rattle.panel.specs.Line.{is_down}
use Rattle.picture.specs.Picture.{PictureRow, picture, first}
use Rattle.picture.specs.Still.{WordsFit}
use Rattle.picture.specs.Ending.{Linked}

-- the same cells but for the absolute cursor, bit 22
pub data ButCursor : List ℕ → List ℕ → Type 0 where
  but_cursor : (σ τ : Settings) (f g : Fields) (cells : List ℕ) → ButCursor (with_cursor σ f cells) (with_cursor τ g cells)

-- "M3 equal": the two main blocks have one fill
abbrev pub SameFill : Bool → List ℕ → (from to : PointerWords) → Type 0
SameFill linear m from to = (a b : MainBlock) (i j : ℕ) → run m (top_block linear from) ≡ given i a → run m (top_block linear to) ≡ given j b
    → a.fill ≡ b.fill

-- the latch that row 0 of a frame leaves
abbrev pub Leaves : ℕ → Settings → List ℕ → ℕ → Type 0
Leaves latch σ m left = (r : FrameRow) → get_elem? (frame latch σ m).rows 0 ≡ some r → r.answer.next.latch ≡ left

-- "The same cells but for bit 22 where the latches agree: up, all rows if the latch handed on is the one that row 0 left"
abbrev pub CellsUp : Type 0
CellsUp = (shift : ℤ) (soft : PointerWords) (latch latch' : ℕ) (σ : Settings) (m : List ℕ) → WordsFit m
    → let p = picture shift soft latch σ m in
    let e = picture (pos 0) soft latch' (with_top σ soft) m in
    Linked σ.linear m σ.top soft → null (registered σ.linear σ.tow) ≡ true → SameFill σ.linear m σ.top soft
    → 1 ≤ lines_for_rows σ → p.refusal ≡ none → Leaves latch σ m latch'
    → (i : ℕ) (q r : PictureRow) → get_elem? (p.rows ++ p.below) (suc i) ≡ some q → get_elem? e.rows i ≡ some r → ButCursor q.cells r.cells

-- "down, row 0 if it is the shifted frame's start latch, the others if row 0 then leaves that"
abbrev pub CellsDown : Type 0
CellsDown = (shift : ℤ) (soft : PointerWords) (latch : ℕ) (σ : Settings) (m : List ℕ)
    → let p = picture shift soft latch σ m in
    let e = picture (pos 0) soft latch (with_top σ soft) m in
    Linked σ.linear m soft σ.top → null (registered σ.linear σ.tow) ≡ true → SameFill σ.linear m soft σ.top
    → is_down shift ≡ true
    → ((q r : PictureRow) → first p.above ≡ some q → first e.rows ≡ some r → ButCursor q.cells r.cells)
    × (Leaves latch (with_top σ soft) m latch
    → (i : ℕ) (q r : PictureRow) → get_elem? e.rows (suc i) ≡ some q → get_elem? p.rows i ≡ some r → ButCursor q.cells r.cells)
