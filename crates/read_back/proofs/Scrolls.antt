-- A scroll in range has a shift that 32 bits hold, so it is read back; and so are those of shift calls in a row.
use Rattle.std.proofs.Common.{Result, Ok, Err}
use mathlib.Core.Path.{◌≡◌, refl, ap, ◌∙◌}
use mathlib.Core.Bool.{true}
use mathlib.Core.List.{List, [], ◌∷◌}
use Prim.Native.Nat.{ℕ}
use lib.IntN.{ℤ}
use Rattle.memory.proofs.ReadBounds.{Words}
use Rattle.memory.specs.declared.Refusal.{Refusal}
use Rattle.settings.specs.declared.PointerWords.{PointerWords}
use Rattle.settings.specs.declared.Settings.{Settings}
use Rattle.scroll.specs.declared.Scroll.{Scroll}
use Rattle.scroll.specs.Scroll.{in_range, shift_call}
use Rattle.scroll.proofs.ShiftBound.{passes, bits_back}
use Rattle.scroll.specs.declared.FrameShift.{FrameShift}
use Rattle.shifts.specs.AfterShift.{scroll_numbers, scroll_of, after_shift}
use Rattle.read_back.specs.ReadBack.{ShiftBack, scroll_after, in_row, in_row_by_numbers, SameInRow}

scroll-back : (s : Scroll) → in_range s ≡ true → scroll_of (scroll_numbers s) ≡ s
scroll-back s h =
    ap (λ (z : ℤ). record { shift = z; phase = s.phase; direction = s.direction }) (bits_back s h)

pub shift_back : (σ : Settings) (m : List ℕ) → Words m → (soft : PointerWords) (last : Scroll) → ShiftBack (shift_call σ m soft last)
shift_back σ m w soft last = by (shift_call σ m soft last) refl
  where
    by : (a : Result FrameShift Refusal) → shift_call σ m soft last ≡ a → ShiftBack a
    by (Ok s) e = scroll-back s.scroll (passes σ m w soft last e)
    by (Err r) e = tt

left_after : (ns : List ℕ) (a : Result FrameShift Refusal) → ShiftBack a → scroll_of (after_shift ns [] a).state ≡ scroll_after (scroll_of ns) a
left_after ns (Ok s) h = h
left_after ns (Err r) h = refl

pub same-in-row : SameInRow
unfolding in_row in_row_by_numbers
same-in-row [] ns = refl
same-in-row (c ∷ cs) ns =
    let a = shift_call c.settings c.memory c.soft (scroll_of ns) in
    ap (λ (more : List (Result FrameShift Refusal)). a ∷ more)
    (same-in-row cs (after_shift ns [] a).state
    ∙ ap (in_row cs) (left_after ns a (shift_back c.settings c.memory c.words c.soft (scroll_of ns))))
