-- Scrolls over several shift calls, from what a call gives.
use Rattle.std.proofs.Common.{Result, Ok, Err}
use mathlib.Core.Path.{◌≡◌, refl, ap, sym, ◌∙◌}
use mathlib.Core.Bool.{Bool, true, false}
use mathlib.Core.List.{List}
use Prim.Native.Nat.{ℕ, zero, suc, ◌+◌, ◌%◌, ◌≤◌, ◌<◌}
use native.Mathlib.Nat.{mod-lt, zero-div, zero-mod, zero-mul}
use native.Mathlib.Numerals.{add-one}
use native.Mathlib.Omega.{arith}
use lib.IntN.{pos}
use borrow.Author.Tests.{eq-eqb, ne_eqb, le-leb, lt-leb}
use Rattle.memory.specs.Reading.{given, run}
use Rattle.memory.specs.declared.Refusal.{Refusal}
use Rattle.settings.specs.declared.PointerWords.{PointerWords}
use Rattle.settings.specs.declared.Settings.{Settings}
use Rattle.settings.specs.Good.{check_settings}
use Rattle.blocks.specs.declared.MainBlock.{MainBlock}
use Rattle.start.specs.Top.{enabled, upward, rate_number, top_block}
use Rattle.scroll.specs.declared.Offset.{Offset}
use Rattle.scroll.specs.declared.Scroll.{Scroll}
use Rattle.scroll.specs.Rate.{rate}
use Rattle.scroll.specs.Scroll.{direction_of, in_range, from_last, moved, shifted, still, reached, edge_lines, shift_by, shift_answered, shift_call}
use Rattle.scroll.specs.Answers.{lines_read, Small}
use Rattle.scroll.proofs.ShiftLaws.{disabled, row_read, top_read, settings-passed, RateBounds, rate-bounds}
use Rattle.scroll.proofs.ShiftBound.{again, lines-back}
use Rattle.scroll.proofs.Rates.{gone, calls_of, gone-more, not_yet, then-ends}
use Rattle.scroll.specs.declared.FrameShift.{FrameShift}

-- ---- one call ----
-- a scroll ends when the lines moved reach the row's: shift 0, phase 0, and the hard top is the soft one; else it goes on
pub ends : (up : Bool) (n : ℕ) (hard soft : PointerWords) (g : Offset) → n ≤ g.lines
    → reached up n hard soft g ≡ record { scroll = record { shift = pos 0; phase = 0; direction = direction_of up }; top = soft }
unfolding reached
ends true n hard soft g h = rw (le-leb n g.lines h)
ends false n hard soft g h = rw (le-leb n g.lines h)

reached-end : (up : Bool) (n : ℕ) (hard soft : PointerWords) (g : Offset) → n ≤ g.lines → reached up n hard soft g ≡ shifted up still soft
unfolding reached
reached-end up n hard soft g h = rw (le-leb n g.lines h)

pub goes_on : (up : Bool) (n : ℕ) (hard soft : PointerWords) (g : Offset) → g.lines < n → reached up n hard soft g ≡ shifted up g hard
unfolding reached
goes_on up n hard soft g h = rw (lt-leb n g.lines h)

-- the offset that a call starts from: none after a turned direction, else the last one
from-turned : (up : Bool) (s : Scroll) → (s.direction ≡ direction_of up → ⊥) → from_last up s ≡ still
unfolding from_last
from-turned up s k = rw (ne_eqb s.direction (direction_of up) k)

pub from-same : (up : Bool) (g : Offset) (top : PointerWords) → from_last up (shifted up g top).scroll ≡ g
unfolding from_last
from-same up g top = rw (eq-eqb (direction_of up) (direction_of up) refl, lines-back up g.lines)

-- what a call finds: good settings and the hard top's main block
pub record Found (σ : Settings) (m : List ℕ) (hard : MainBlock) : Type 0 where
  pub checked : run m (check_settings σ) ≡ given 0 tt
  pub top : run m (top_block σ.linear σ.top) ≡ given 7 hard

module _ (σ : Settings) (m : List ℕ) (soft : PointerWords) (hard : MainBlock) (f : Found σ m hard) where
  by-top : (last : Scroll) → in_range last ≡ true → shift_call σ m soft last ≡ shift_answered (run m (shift_by σ soft last hard))
  unfolding shift_call
  by-top last h = ap shift_answered (settings-passed m σ soft last f.checked) ∙ top_read m σ soft last h f.top

  by-offset : (a b : Scroll) → from_last (upward hard) a ≡ from_last (upward hard) b → run m (shift_by σ soft a hard) ≡ run m (shift_by σ soft b hard)
  unfolding shift_by
  by-offset a b e = rw e

  -- "Enable off makes shift and phase 0": the hard top stays
  pub enable-off : enabled hard ≡ false → (last : Scroll) → in_range last ≡ true
      → shift_call σ m soft last ≡ Ok (shifted (upward hard) still σ.top)
  enable-off e last h = by-top last h ∙ disabled m σ soft last hard e

  -- "so does a turned direction, before the move": the call gives what it gives from shift 0 and phase 0
  pub turned : (last : Scroll) → in_range last ≡ true → (last.direction ≡ direction_of (upward hard) → ⊥) → (top : PointerWords)
      → shift_call σ m soft last ≡ shift_call σ m soft (shifted (upward hard) still top).scroll
  turned last h t top =
      by-top last h ∙ ap shift_answered (by-offset last (shifted (upward hard) still top).scroll (from-turned (upward hard) last t ∙ sym (from-same (upward hard) still top)))
      ∙ sym (by-top (shifted (upward hard) still top).scroll (again (upward hard) still top (record { lines = omega arith; phase = omega arith })))

  -- ---- a scroll over several calls, with the same settings, memory and soft top ----
  -- the answer of a call from the scroll that the one before gave
  abbrev pub from_before : Result FrameShift Refusal → Result FrameShift Refusal
  from_before (Ok s) = shift_call σ m soft s.scroll
  from_before (Err r) = Err r

  -- the answer of call k + 1 from shift 0 and phase 0
  unfoldable pub nth_call : ℕ → Result FrameShift Refusal
  nth_call zero = shift_call σ m soft (shifted (upward hard) still σ.top).scroll
  nth_call (suc k) = from_before (nth_call k)

  -- the row that leaves or enters has n scan lines
  module _ (on : enabled hard ≡ true) {w : ℕ} (n : ℕ) (row : run m (edge_lines σ.linear soft hard) ≡ given w n) (some : 1 ≤ n) (few : n ≤ 32)
    where
      call : (g : Offset) → Small g
          → shift_call σ m soft (shifted (upward hard) g σ.top).scroll
          ≡ Ok (reached (upward hard) n σ.top soft (moved (rate (rate_number hard)) g))
      call g h =
          by-top (shifted (upward hard) g σ.top).scroll (again (upward hard) g σ.top h)
          ∙ row_read m σ soft (shifted (upward hard) g σ.top).scroll hard on (sym (ap lines_read row))
          ∙ ap (λ (o : Offset). Ok (reached (upward hard) n σ.top soft (moved (rate (rate_number hard)) o))) (from-same (upward hard) g σ.top)

      bounds : RateBounds (rate (rate_number hard))
      bounds = rate-bounds (rate_number hard) (omega arith)

      -- call k + 1, while the row's lines are not reached
      call-after : (k : ℕ) → k < calls_of (rate (rate_number hard)) n
          → shift_call σ m soft (shifted (upward hard) (gone (rate (rate_number hard)) k) σ.top).scroll
          ≡ Ok (reached (upward hard) n σ.top soft (gone (rate (rate_number hard)) (k + 1)))
      call-after k h =
          let r = rate (rate_number hard) in
          let lines : (gone r k).lines < n = not_yet r bounds.some-frames n bounds.some-lines some k h in
          let phase : k % r.frames < r.frames = mod-lt k bounds.some-frames in
          call (gone r k) (record { lines = omega arith; phase = omega (arith, bounds.few-frames) })
          ∙ ap (λ (o : Offset). Ok (reached (upward hard) n σ.top soft o)) (gone-more r bounds.some-frames k)

      call-before : (k : ℕ) → k < calls_of (rate (rate_number hard)) n
          → nth_call k ≡ Ok (reached (upward hard) n σ.top soft (gone (rate (rate_number hard)) (k + 1)))
      unfolding nth_call
      call-before zero h =
          let none : still ≡ gone (rate (rate_number hard)) 0 = rw (zero-div (rate (rate_number hard)).frames, zero-mod (rate (rate_number hard)).frames, zero-mul (rate (rate_number hard)).lines) in
          ap (λ (g : Offset). shift_call σ m soft (shifted (upward hard) g σ.top).scroll) none ∙ call-after 0 h
      call-before (suc k) h =
          let r = rate (rate_number hard) in
          let k₁ : k + 1 < calls_of r n = omega arith in
          ap from_before (call-before k (omega arith) ∙ ap Ok (goes_on (upward hard) n σ.top soft (gone r (k + 1)) (not_yet r bounds.some-frames n bounds.some-lines some (k + 1) k₁)))
          ∙ rw (add-one k) (call-after (suc k) h)

      -- before the rule's number of calls the shift has the rate's lines for each time that its frames have passed, and the hard top stays
      pub on-the-way : (k : ℕ) → k + 1 < calls_of (rate (rate_number hard)) n
          → nth_call k ≡ Ok (shifted (upward hard) (gone (rate (rate_number hard)) (k + 1)) σ.top)
      on-the-way k h =
          let r = rate (rate_number hard) in
          call-before k (omega arith)
          ∙ ap Ok (goes_on (upward hard) n σ.top soft (gone r (k + 1)) (not_yet r bounds.some-frames n bounds.some-lines some (k + 1) h))

      -- the scroll ends with exactly that call
      pub at-the-end : (k : ℕ) → k + 1 ≡ calls_of (rate (rate_number hard)) n → nth_call k ≡ Ok (shifted (upward hard) still soft)
      at-the-end k h =
          let r = rate (rate_number hard) in
          let full : n ≤ (gone r (k + 1)).lines = rw h (then-ends r bounds.some-frames n bounds.some-lines some) in
          call-before k (omega arith) ∙ ap Ok (reached-end (upward hard) n σ.top soft (gone r (k + 1)) full)
