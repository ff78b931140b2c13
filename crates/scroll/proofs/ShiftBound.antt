-- A shift call reads at most 97 words: two main blocks, a row block and a redefinition. What it gives passes the next call's check 3: the
-- shift is within 31 of 0, its sign fits the direction given, and the phase is at most 7. An enabled call's is below the row's scan lines.
use Rattle.std.proofs.Common.{Ok}
use mathlib.Core.Path.{◌≡◌, refl, sym, ap, ◌∙◌}
use mathlib.Core.Bool.{Bool, true, false, ◌&&◌}
use mathlib.Core.List.{List}
use Prim.Native.Nat.{ℕ, zero, suc, ◌+◌, ◌≤◌, ◌<◌, zero-le}
use native.Mathlib.Omega.{arith}
use lib.IntN.{pos, neg_ℤ, nat_abs}
use lib.Dec.{lit≤, leb}
use borrow.Author.Tests.{leb-false, le-leb}
use mir.Syntax.{w32}
use mir.Val.{to_z, of_z}
use Rattle.memory.specs.declared.Fault.{Fault}
use Rattle.memory.specs.declared.Pointer.{Pointer}
use Rattle.memory.specs.Address.{null}
use Rattle.memory.specs.Reading.{Outcome, given, refused, run}
use Rattle.memory.proofs.Laws.{run-done}
use Rattle.memory.proofs.ReadBounds.{Words, Reads, dones, weaken, bind, check-reads, if-cases, if-reads, words-read, Within, given-within, refused-within, run-reads, reads-given}
use Rattle.settings.specs.declared.PointerWords.{PointerWords}
use Rattle.settings.specs.declared.Settings.{Settings}
use Rattle.settings.proofs.CheckLaws.{passing-done, settings-read, given-passing}
use Rattle.settings.specs.Good.{check_settings}
use Rattle.blocks.specs.declared.MainBlock.{MainBlock}
use Rattle.blocks.specs.declared.RowFormat.{RowFormat}
use Rattle.blocks.specs.RowBlock.{redefined, format_of}
use Rattle.blocks.proofs.BlockBounds.{row-block-reads}
use Rattle.background.specs.Background.{background_block}
use Rattle.start.specs.Top.{enabled, upward, rate_number, top_block}
use Rattle.start.proofs.StartBound.{top-reads}
use Rattle.scroll.specs.declared.Offset.{Offset}
use Rattle.scroll.specs.declared.Scroll.{Scroll}
use Rattle.scroll.specs.declared.FrameShift.{FrameShift}
use Rattle.scroll.specs.Rate.{rate}
use Rattle.scroll.specs.Scroll.{signed, fits_direction, in_range, from_last, moved, shifted, still, reached, first_lines, edge_lines, shift_by, shift_from, shift, shift_answered, shift_call}
use Rattle.scroll.specs.Answers.{lines_read, Small}
use Rattle.scroll.proofs.SignedLaws.{same}
use Rattle.scroll.proofs.ShiftLaws.{in-range, from-last-small, rate-bounds, row_read, out_of_range, top_read, settings-refused, settings-passed}

-- ---- the scan lines of a row are 1 to 32 ----
abbrev pub Lines : ℕ → Type 0
Lines n = (1 ≤ n) × (n ≤ 32)

format-reads : (linear : Bool) (p : Pointer) (t : RowFormat) → Lines t.lines → Reads (λ u. Lines u.lines) 3 (redefined linear p t)
unfolding redefined format_of
format-reads linear p t h =
    if-reads (null p) (λ _. dones h) λ _. bind {n = 3} {k = 0} (lit≤ tt) (words-read linear 3 p) λ _ _. dones (omega arith)

pub block_reads : (linear : Bool) (p : Pointer) (t : RowFormat) → Lines t.lines → Reads (λ g. Lines g.format.lines) 83 (background_block linear p t)
unfolding background_block
block_reads linear p t h =
    bind {n = 80} {k = 3} (lit≤ tt) (row-block-reads linear p) λ b _.
    bind {n = 3} {k = 0} (lit≤ tt) (format-reads linear b.redefinition t h) λ _ k. dones k

first_reads : (linear : Bool) (m : MainBlock) → Lines m.lines → Reads Lines 83 (first_lines linear m)
unfolding first_lines
first_reads linear m h = bind {n = 83} {k = 0} (lit≤ tt) (block_reads linear m.rows _ h) λ _ k. dones k

pub edge-reads : (linear : Bool) (soft : PointerWords) (hard : MainBlock) → Lines hard.lines → Reads Lines 90 (edge_lines linear soft hard)
unfolding edge_lines
edge-reads linear soft hard h =
    if-reads (upward hard) (λ _. weaken (lit≤ tt) (first_reads linear hard h)) λ _.
    bind {n = 7} {k = 83} (lit≤ tt) (top-reads linear soft) λ m k. first_reads linear m k.0

-- ---- what is given is in range ----
pub again : (up : Bool) (g : Offset) (top : PointerWords) → Small g → in_range (shifted up g top).scroll ≡ true
unfolding in_range
again true g top h = rw (le-leb 0 g.lines zero-le, le-leb g.lines 31 h.lines, le-leb g.phase 7 h.phase)
again false g top h = down g.lines h.lines
  where
    down : (n : ℕ) → n ≤ 31 → fits_direction 0 (neg_ℤ (pos n)) && leb g.phase 7 ≡ true
    down zero k = le-leb g.phase 7 h.phase
    down (suc n) k = rw (le-leb n 30 (omega arith), le-leb g.phase 7 h.phase)

moved-phase : (n : ℕ) → n < 16 → (g : Offset) → g.phase ≤ 7 → (moved (rate n) g).phase ≤ 7
unfolding moved
moved-phase n h g k =
    if-cases (λ (o : Offset). o.phase ≤ 7) (leb (rate n).frames (g.phase + 1)) (λ _. omega arith) λ t.
    omega (arith, leb-false (rate n).frames (g.phase + 1) t, (rate-bounds n h).few-frames)

reached-again : (up : Bool) (n : ℕ) (hard soft : PointerWords) (g : Offset) → n ≤ 32 → g.phase ≤ 7 → in_range (reached up n hard soft g).scroll ≡ true
unfolding reached
reached-again up n hard soft g h k =
    if-cases (λ (s : FrameShift). in_range s.scroll ≡ true) (leb n g.lines)
    (λ _. again up still soft (record { lines = omega arith; phase = omega arith }))
    (λ t. again up g hard (record { lines = omega (arith, leb-false n g.lines t); phase = k }))

pub shift-reads : (σ : Settings) (soft : PointerWords) (last : Scroll) → Reads (λ s. in_range s.scroll ≡ true) 97 (shift σ soft last)
unfolding shift shift_by
shift-reads σ soft last =
    bind {n = 0} {k = 97} (lit≤ tt) (settings-read σ) λ _ _.
    bind {n = 0} {k = 97} (lit≤ tt) (check-reads 3 (in_range last)) λ _ h.
    bind {n = 7} {k = 90} (lit≤ tt) (top-reads σ.linear σ.top) λ hard k.
    if-reads (enabled hard)
    (λ _. bind {n = 90} {k = 0} (lit≤ tt) (edge-reads σ.linear soft hard k.0) λ n j.
    dones
    (reached-again (upward hard) n σ.top soft _ j.1
    (moved-phase (rate_number hard) (omega arith) (from_last (upward hard) last) (from-last-small (upward hard) last h).phase)))
    (λ _. dones (again (upward hard) still σ.top (record { lines = omega arith; phase = omega arith })))

-- what an accepted call gives passes the next call's check 3
pub passes : (σ : Settings) (m : List ℕ) → Words m → (soft : PointerWords) (last : Scroll) {s : FrameShift}
    → shift_call σ m soft last ≡ Ok s → in_range s.scroll ≡ true
unfolding shift_call
passes σ m w soft last {s} e = out (run-reads 0 m w (lit≤ tt) (shift-reads σ soft last)) e
  where
    out : {o : Outcome FrameShift} → Within (λ t. in_range t.scroll ≡ true) 97 o → shift_answered o ≡ Ok s → in_range s.scroll ≡ true
    out (given-within {a = t} _ h) d = let same : s ≡ t = cc in rw same h
    out refused-within d = let z : ◌≡◌ {A = ℕ} 0 1 = cc in absurd (omega arith)

-- .. and 32 bits hold its shift
pub bits_back : (s : Scroll) → in_range s ≡ true → to_z w32 (of_z w32 s.shift) ≡ s.shift
bits_back s h = same s.shift (omega (arith, (in-range s h).0))

-- ---- and below the scan lines of the row that leaves or enters ----
-- a shift has as many lines as were moved
pub lines-back : (up : Bool) (n : ℕ) → nat_abs (signed up n) ≡ n
lines-back true n = refl
lines-back false zero = refl
lines-back false (suc n) = refl

reached-below : (up : Bool) (n : ℕ) (hard soft : PointerWords) (g : Offset) → 1 ≤ n → nat_abs (reached up n hard soft g).scroll.shift < n
unfolding reached
reached-below up n hard soft g h =
    if-cases (λ (s : FrameShift). nat_abs s.scroll.shift < n) (leb n g.lines)
    (λ _. rw (lines-back up 0) h) (λ t. rw (lines-back up g.lines) (leb-false n g.lines t))

-- what an accepted enabled call gives, where that row has n scan lines
pub below_row : (σ : Settings) (m : List ℕ) → Words m → (soft : PointerWords) (last : Scroll) {s : FrameShift} {hard : MainBlock} {k n : ℕ}
    → shift_call σ m soft last ≡ Ok s → run m (top_block σ.linear σ.top) ≡ given 7 hard → enabled hard ≡ true
    → run m (edge_lines σ.linear soft hard) ≡ given k n → nat_abs s.scroll.shift < n
unfolding shift_call
below_row σ m w soft last {s} {hard} {n} e top on edge = by-settings (run m (check_settings σ)) refl
  where
    never : {x : Fault} → run m (shift σ soft last) ≡ refused x → nat_abs s.scroll.shift < n
    never h = let z : ◌≡◌ {A = ℕ} 0 1 = cc in absurd (omega arith)

    some : 1 ≤ n
    some = (reads-given 0 m w (edge-reads σ.linear soft hard (reads-given 0 m w (top-reads σ.linear σ.top) top).1.0) edge).1.0

    by-range : (t : Bool) → in_range last ≡ t → run m (shift σ soft last) ≡ run m (shift_from σ soft last) → nat_abs s.scroll.shift < n
    by-range false h k = never (k ∙ out_of_range m σ soft last h)
    by-range true h k =
        let gives = ap shift_answered k ∙ top_read m σ soft last h top ∙ row_read m σ soft last hard on (sym (ap lines_read edge)) in
        let given-same : reached (upward hard) n σ.top soft (moved (rate (rate_number hard)) (from_last (upward hard) last)) ≡ s = cc in
        rw (← given-same) (reached-below (upward hard) n σ.top soft _ some)

    by-settings : (o : Outcome (Unit {0})) → run m (check_settings σ) ≡ o → nat_abs s.scroll.shift < n
    by-settings (refused x) h = never (settings-refused m σ soft last h)
    by-settings (given i u) h =
        by-range (in_range last) refl (settings-passed m σ soft last (ap (run m) (passing-done σ (given-passing σ 0 m h)) ∙ run-done 0 m tt))
