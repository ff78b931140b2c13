-- Document 02, "Soft scroll of the background": the shift call. "Before each frame a shift call takes a soft top (two words), reads the
-- hard top's main block and gives shift, phase, direction (bit 13) and hard top from the last ones." The hard top is the settings' TOP.
use Rattle.std.specs.Prelude.{ℕ, ◌+◌, Bool, true, false, ◌&&◌, ◌||◌, List, ℤ, pos, neg_ℤ, nat_abs, leb, eqb, Result, Ok, Err}
use Rattle.std.specs.Int.Signed.{le_z}
use Rattle.memory.specs.Word.{when◌then◌else◌}
use Rattle.memory.specs.Reading.{Reading, done, ◌>>=◌, ◌>>◌, check, Outcome, given, refused, refusal, run}
use Rattle.memory.specs.declared.Refusal.{Refusal}
use Rattle.settings.specs.declared.PointerWords.{PointerWords}
use Rattle.settings.specs.declared.Settings.{Settings}
use Rattle.settings.specs.Good.{check_settings}
use Rattle.blocks.specs.declared.MainBlock.{MainBlock}
use Rattle.background.specs.Background.{background_block}
use Rattle.start.specs.Top.{enabled, upward, rate_number, top_block}
use Rattle.start.specs.Start.{first_format}
use Rattle.scroll.specs.declared.Rate.{Rate}
use Rattle.scroll.specs.declared.Offset.{Offset}
use Rattle.scroll.specs.declared.Scroll.{Scroll}
use Rattle.scroll.specs.declared.FrameShift.{FrameShift}
use Rattle.scroll.specs.Rate.{rate}

-- "The shift of a frame is a signed count of scan lines, positive up and negative down"
abbrev pub signed : Bool → ℕ → ℤ
signed true n = pos n
signed false n = neg_ℤ (pos n)

-- "direction (bit 13)": 1 up, 0 down
abbrev pub direction_of : Bool → ℕ
direction_of up = when up then 1 else 0

-- a shift from 0 to 31 with direction up, or from -31 to 0 with direction down
abbrev pub fits_direction : ℕ → ℤ → Bool
fits_direction direction z =
    (eqb direction 1 && le_z (pos 0) z && le_z z (pos 31)) || (eqb direction 0 && le_z (neg_ℤ (pos 31)) z && le_z z (pos 0))

-- Refusal 3: "a last shift past 31 either way or against its direction, or a phase above 7"
unfoldable pub in_range : Scroll → Bool
in_range s = fits_direction s.direction s.shift && leb s.phase 7

-- what a call starts from, the lines that the last shift has moved and its phase: "Enable off makes shift and phase 0; so does a turned
-- direction, before the move."
unfoldable pub from_last : Bool → Scroll → Offset
from_last up last =
    when eqb last.direction (direction_of up)
    then record { lines = nat_abs last.shift; phase = last.phase }
    else record { lines = 0; phase = 0 }

-- "A fast rate moves the shift by its lines; a slow one adds 1 to the phase and, when that makes its frames or more, moves one line.
-- A move sets the phase 0." (A fast rate has one frame.)
unfoldable pub moved : Rate → Offset → Offset
moved r g =
    when leb r.frames (g.phase + 1)
    then record { lines = g.lines + r.lines; phase = 0 }
    else record { lines = g.lines; phase = g.phase + 1 }

abbrev pub shifted : Bool → Offset → PointerWords → FrameShift
shifted up g top = record {
  scroll = record { shift = signed up g.lines; phase = g.phase; direction = direction_of up };
  top = top;
}

-- no line moved, phase 0
abbrev pub still : Offset
still = record { lines = 0; phase = 0 }

-- "A scroll ends when the shift would reach the scan lines of the row that leaves .. or enters ..; the hard top then takes the soft
-- one and the phase is 0." The shift "is 0 in the frame that ends a scroll".
unfoldable pub reached : Bool → ℕ → PointerWords → PointerWords → Offset → FrameShift
reached up row_lines hard soft g = when leb row_lines g.lines then shifted up still soft else shifted up g hard

-- the scan lines of a list's first row, "whole block, then redefinition"
unfoldable pub first_lines : Bool → MainBlock → Reading ℕ
first_lines linear m = do
  g ← background_block linear m.rows (first_format m.lines)
  done g.format.lines

-- "the row that leaves (up, the hard list's first) or enters (down, the soft list's first), read in every enabled call"
unfoldable pub edge_lines : Bool → PointerWords → MainBlock → Reading ℕ
edge_lines linear soft hard = when upward hard then first_lines linear hard else do
  m ← top_block linear soft
  first_lines linear m

-- the call, once the hard top's main block is read
unfoldable pub shift_by : Settings → PointerWords → Scroll → MainBlock → Reading FrameShift
shift_by σ soft last hard = when enabled hard then (do
  n ← edge_lines σ.linear soft hard
  done (reached (upward hard) n σ.top soft (moved (rate (rate_number hard)) (from_last (upward hard) last))))
    else done (shifted (upward hard) still σ.top)

-- the checks after check 2: "3 (after 2)", then the hard top's main block
abbrev pub shift_from : Settings → PointerWords → Scroll → Reading FrameShift
shift_from σ soft last = do
  check 3 (in_range last)
  hard ← top_block σ.linear σ.top
  shift_by σ soft last hard

unfoldable pub shift : Settings → PointerWords → Scroll → Reading FrameShift
shift σ soft last = do
  check_settings σ
  shift_from σ soft last

-- "in a shift call a start's and a row's as met, nothing changed"; "A refusal met in no row .. has row 0"
abbrev pub shift_answered : Outcome FrameShift → Result FrameShift Refusal
shift_answered (given n s) = Ok s
shift_answered (refused x) = Err (refusal 0 x)

unfoldable pub shift_call : Settings → List ℕ → PointerWords → Scroll → Result FrameShift Refusal
shift_call σ m soft last = shift_answered (run m (shift σ soft last))
