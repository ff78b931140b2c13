-- Document 01, "Blocks" and "A row, left to right": window blocks, and the window in hand.
use Rattle.std.specs.Prelude.{ℕ, ◌+◌, Bool, ◌&&◌, List, [], ◌∷◌, ltb, leb, Option, Some, None}
use Rattle.memory.specs.Word.{when◌then◌else◌, high, low, at}
use Rattle.memory.specs.declared.Pointer.{Pointer}
use Rattle.memory.specs.Reading.{Role, First, Second, Reading, done, ◌>>=◌, ◌>>◌, read_as, check_of}
use Rattle.memory.specs.Address.{pointer, null, ahead, words}
use Rattle.windows.specs.declared.WindowBlock.{WindowBlock}
use Rattle.windows.specs.declared.Window.{Window}

-- "Window (6). Link to the next window block (2); first window row block (2); first row high byte, last row low; first
-- column high byte, last column low." Its number is that "along the chain, from 0" (02): each block that was read counts. The
-- block is at the address a.
unfoldable pub window_of : Bool → (number a : ℕ) → List ℕ → Window
window_of linear number a b = record {
  block = record {
    number = number;
    link = pointer linear a (at b 0) (at b 1);
    top = high (at b 4);
    bottom = low (at b 4);
    left = high (at b 5);
    right = low (at b 5);
  };
  rows = pointer linear (ahead linear 2 a) (at b 2) (at b 3);
}

-- its words begin with two pointers
abbrev pub two_pointers : List Role
two_pointers = First ∷ Second ∷ First ∷ Second ∷ []

-- rows in order; columns in order, the last at most 131
abbrev pub in_order : WindowBlock → Bool
in_order b = leb b.top b.bottom && leb b.left b.right && leb b.right 131

-- Refusal 8: "first row > last, first row <= the last row of the one before, first column > last, last column > 131". The
-- row after the last row of the one before is `least`, 0 where there is none.
unfoldable pub window_at : Bool → ℕ → ℕ → Pointer → Reading (Option Window)
window_at linear number least p = when null p then done None else do
  b ← read_as two_pointers (words linear 6 p)
  let w = window_of linear number p.address b
  check_of 8 p (in_order w.block && leb least w.block.top)
  done (Some w)

-- "The first window block is read at the start."
unfoldable pub first_window : Bool → Pointer → Reading (Option Window)
first_window linear p = window_at linear 0 0 p

-- "When the row number has passed a window's last row, the next block, and no more, is read before the row."
unfoldable pub due_window : Bool → ℕ → Option Window → Reading (Option Window)
due_window linear row None = done None
due_window linear row (Some w) =
    when ltb w.block.bottom row
    then window_at linear (w.block.number + 1) (w.block.bottom + 1) w.block.link
    else done (Some w)
