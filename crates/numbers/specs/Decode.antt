-- Settings and a state, from numbers at their places.
use Rattle.std.specs.Prelude.{ℕ, ◌%◌, min, Bool, ◌&&◌, List, length, eqb, leb, Option, Some, None}
use Rattle.memory.specs.Word.{when◌then◌else◌, at, low}
use Rattle.memory.specs.declared.Pointer.{Pointer}
use Rattle.settings.specs.declared.Settings.{Settings}
use Rattle.settings.specs.Good.{interlace_of, edition_of}
use Rattle.blocks.specs.declared.RowFormat.{RowFormat}
use Rattle.windows.specs.declared.Window.{Window}
use Rattle.state.specs.declared.Fields.{Fields}
use Rattle.state.specs.declared.State.{State}
use Rattle.state.specs.State.{state_of}

-- 0 is no, 1 is yes
abbrev pub yes : ℕ → Bool
yes n = eqb n 1

-- as much of a number as 16 bits hold
abbrev pub held : ℕ → ℕ
held n = min n 65535

-- a number's low 16 bits
abbrev pub word : ℕ → ℕ
word n = n % 65536

-- linear, Display Hidden, cursor enable, edition; interlace; attribute flag, TOP, TOW: each within its field's range
unfoldable pub modes_fit : List ℕ → Bool
modes_fit xs =
    leb (at xs 0) 1 && leb (at xs 1) 1 && leb (at xs 3) 1 && leb (at xs 17) 1 && leb (at xs 2) 2
    && leb (at xs 4) 65535 && leb (at xs 5) 65535 && leb (at xs 6) 65535 && leb (at xs 7) 65535 && leb (at xs 8) 65535

-- "all are in range": where one of these is not, HTD is 0, and the settings are not good ("HSD < HTD"). VSW to HTC past 16 bits are
-- not in range as they are held
unfoldable pub htd_at : List ℕ → ℕ
htd_at xs = when modes_fit xs then held (at xs 16) else 0

unfoldable pub settings_at : List ℕ → Settings
settings_at xs = record {
  linear = yes (at xs 0);
  hidden = yes (at xs 1);
  interlace = interlace_of (at xs 2);
  cursor = yes (at xs 3);
  flag = word (at xs 4);
  top = record { first = word (at xs 5); second = word (at xs 6) };
  tow = record { first = word (at xs 7); second = word (at xs 8) };
  vsw = held (at xs 9);
  vsd = held (at xs 10);
  val = held (at xs 11);
  vtot = held (at xs 12);
  hsync = held (at xs 13);
  hsd = held (at xs 14);
  htc = held (at xs 15);
  htd = htd_at xs;
  edition = edition_of (at xs 17);
}

-- settings in numbers, or that there are too few or too many
unfoldable pub settings_in : List ℕ → Option Settings
settings_in xs = when eqb (length xs) 18 then Some (settings_at xs) else None

-- what refusal 3 judges, within its field's range: scan lines, row attributes, CURS, CURE; where there is a window, its number, first row,
-- last row, first column and last column. The row, the lines left and addresses are held whatever they are
abbrev pub format_fits : List ℕ → Bool
format_fits xs = leb (at xs 7) 255 && leb (at xs 8) 65535 && leb (at xs 9) 255 && leb (at xs 10) 255

abbrev pub window_fits : List ℕ → Bool
window_fits xs = leb (at xs 13) 255 && leb (at xs 14) 255 && leb (at xs 15) 255 && leb (at xs 16) 255 && leb (at xs 19) 255

unfoldable pub state_fits : List ℕ → Bool
state_fits xs = when yes (at xs 12) then format_fits xs && window_fits xs else format_fits xs

-- "state out of range": with such a number past its field's range the scan lines are 0 ("scan lines not 1..32")
unfoldable pub lines_at : List ℕ → ℕ
lines_at xs = when state_fits xs then low (at xs 7) else 0

unfoldable pub format_at : List ℕ → RowFormat
format_at xs = record { lines = lines_at xs; attributes = word (at xs 8); curs = low (at xs 9); cure = low (at xs 10) }

-- a pointer, from the places of its address and of where it begins
abbrev pub pointer_at : ℕ → ℕ → List ℕ → Pointer
pointer_at i j xs = record { address = at xs i; from = at xs j }

abbrev pub held_at : List ℕ → Window
held_at xs = record {
  block = record {
    number = low (at xs 19);
    top = low (at xs 13);
    bottom = low (at xs 14);
    left = low (at xs 15);
    right = low (at xs 16);
    link = pointer_at 18 22 xs;
  };
  rows = pointer_at 17 21 xs;
}

-- where there is no window, the numbers in its places mean nothing
unfoldable pub window_at : List ℕ → Option Window
window_at xs = when yes (at xs 12) then Some (held_at xs) else None

-- lines left past 16 bits are more than 4095 as they are held; a row beside the cut is given one line whatever they are
unfoldable pub fields_at : List ℕ → Fields
fields_at xs = record {
  row = at xs 1;
  left = held (at xs 2);
  cursor = record { x = low (at xs 3); y = low (at xs 4) };
  fill = record { code = low (at xs 5); flag = yes (at xs 6) };
  format = format_at xs;
  next = pointer_at 11 20 xs;
  window = window_at xs;
}

abbrev pub state_at : List ℕ → State
state_at xs = state_of (word (at xs 0)) (fields_at xs)

-- what refusal 3 does not judge, within its field's range: the latch, the cursor, the fill, the mark of a window
abbrev pub unjudged_fit : List ℕ → Bool
unjudged_fit xs = leb (at xs 0) 65535 && leb (at xs 3) 255 && leb (at xs 4) 255 && leb (at xs 5) 255 && leb (at xs 6) 1 && leb (at xs 12) 1

unfoldable pub is_state : List ℕ → Bool
is_state xs = eqb (length xs) 23 && unjudged_fit xs

-- a state in numbers, or that the numbers are none: too few, too many, or one that refusal 3 does not judge past its field's range
unfoldable pub state_in : List ℕ → Option State
state_in xs = when is_state xs then Some (state_at xs) else None
