-- A state that was written is read back as it was, where each of its numbers is one that its field can have.
use Rattle.std.proofs.Common.{Option, Some, None, is_some}
use mathlib.Core.Path.{◌≡◌, refl}
use mathlib.Core.Bool.{Bool, true, false}
use Prim.Native.Nat.{ℕ, ◌%◌, ◌≤◌}
use native.Mathlib.Nat.{mod-eq_of_lt, min-eq_left}
use native.Mathlib.Omega.{arith}
use lib.Dec.{leb}
use borrow.Author.Tests.{le-leb}
use Rattle.windows.specs.declared.Window.{Window}
use Rattle.state.specs.declared.State.{State}
use Rattle.numbers.specs.Decode.{yes, is_state, state_fits, lines_at, format_at, window_at, fields_at, state_in}
use Rattle.numbers.specs.Encode.{number, state_numbers}

pub record WindowHeld (w : Window) : Type 0 where
  pub number : w.block.number ≤ 255
  pub top : w.block.top ≤ 255
  pub bottom : w.block.bottom ≤ 255
  pub left : w.block.left ≤ 255
  pub right : w.block.right ≤ 255

abbrev pub InHandHeld : Option Window → Type 0
InHandHeld None = Unit
InHandHeld (Some w) = WindowHeld w

pub record Held (s : State) : Type 0 where
  pub latch : s.latch ≤ 65535
  pub left : s.fields.left ≤ 65535
  pub x : s.fields.cursor.x ≤ 255
  pub y : s.fields.cursor.y ≤ 255
  pub code : s.fields.fill.code ≤ 255
  pub lines : s.fields.format.lines ≤ 255
  pub attributes : s.fields.format.attributes ≤ 65535
  pub curs : s.fields.format.curs ≤ 255
  pub cure : s.fields.format.cure ≤ 255
  pub window : InHandHeld s.fields.window

bool-again : (b : Bool) → yes (number b) ≡ b
bool-again true = refl
bool-again false = refl

byte-again : (n : ℕ) → n ≤ 255 → n % 256 ≡ n
byte-again n h = mod-eq_of_lt (omega arith)

word-again : (n : ℕ) → n ≤ 65535 → n % 65536 ≡ n
word-again n h = mod-eq_of_lt (omega arith)

module _ (s : State) (h : Held s) where
  fits : (w : Option Window) → s.fields.window ≡ w → InHandHeld w → state_fits (state_numbers s) ≡ true
  unfolding state_fits state_numbers
  fits None e g =
      rw (e, le-leb _ _ h.lines, le-leb _ _ h.attributes, le-leb _ _ h.curs, le-leb _ _ h.cure)
  fits (Some w) e g =
      rw (e, le-leb _ _ h.lines, le-leb _ _ h.attributes, le-leb _ _ h.curs, le-leb _ _ h.cure)
      (rw (le-leb _ _ g.top, le-leb _ _ g.bottom, le-leb _ _ g.left, le-leb _ _ g.right, le-leb _ _ g.number))

  window-again : (w : Option Window) → s.fields.window ≡ w → InHandHeld w → window_at (state_numbers s) ≡ s.fields.window
  unfolding window_at state_numbers
  window-again None e g = rw e
  window-again (Some w) e g =
      rw (e, byte-again _ g.top, byte-again _ g.bottom, byte-again _ g.left, byte-again _ g.right, byte-again _ g.number)

  mark-fits : (b : Bool) → leb (number b) 1 ≡ true
  mark-fits true = refl
  mark-fits false = refl

  is_state_lem : is_state (state_numbers s) ≡ true
  unfolding is_state state_numbers
  is_state_lem =
      rw (
        le-leb _ _ h.latch,
        le-leb _ _ h.x,
        le-leb _ _ h.y,
        le-leb _ _ h.code,
        mark-fits s.fields.fill.flag,
        mark-fits (is_some s.fields.window),
      )

  format-again : format_at (state_numbers s) ≡ s.fields.format
  unfolding format_at lines_at state_numbers
  format-again =
      rw (
        fits s.fields.window refl h.window,
        byte-again _ h.lines,
        word-again _ h.attributes,
        byte-again _ h.curs,
        byte-again _ h.cure,
      )

  fields-again : fields_at (state_numbers s) ≡ s.fields
  unfolding fields_at state_numbers
  fields-again =
      rw (format-again, window-again s.fields.window refl h.window, bool-again s.fields.fill.flag)
      (rw (min-eq_left h.left, byte-again _ h.x, byte-again _ h.y, byte-again _ h.code))

  pub state-again : state_in (state_numbers s) ≡ Some s
  unfolding state_in state_numbers
  state-again = rw (is_state_lem, fields-again, word-again _ h.latch)
