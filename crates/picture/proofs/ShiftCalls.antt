-- What an accepted shift call has read, and what it gives: shift 0, or fewer lines than the row that leaves or enters is high.
use Rattle.std.proofs.Common.{Ok}
use mathlib.Core.Path.{◌≡◌, refl, sym, ◌∙◌}
use mathlib.Core.Bool.{Bool, true, false}
use mathlib.Core.List.{List}
use Prim.Native.Nat.{ℕ, ◌+◌, ◌≤◌, ◌<◌}
use native.Mathlib.Omega.{arith}
use lib.IntN.{pos, nat_abs}
use lib.Dec.{leb}
use borrow.Author.Tests.{leb-true, leb-false}
use Rattle.memory.specs.Word.{when◌then◌else◌}
use Rattle.memory.specs.Reading.{done, ◌>>=◌, Outcome, given, refused, run_from, run}
use Rattle.memory.proofs.ReadBounds.{Words, reads-given}
use Rattle.settings.specs.declared.PointerWords.{PointerWords}
use Rattle.settings.specs.declared.Settings.{Settings}
use Rattle.blocks.specs.declared.MainBlock.{MainBlock}
use Rattle.start.specs.Top.{enabled, upward, rate_number, top_block}
use Rattle.start.proofs.StartBound.{top-reads}
use Rattle.scroll.specs.declared.Rate.{Rate}
use Rattle.scroll.specs.declared.Offset.{Offset}
use Rattle.scroll.specs.declared.Scroll.{Scroll}
use Rattle.scroll.specs.declared.FrameShift.{FrameShift}
use Rattle.scroll.specs.Rate.{rate}
use Rattle.scroll.specs.Scroll.{signed, in_range, from_last, moved, shifted, still, reached, edge_lines, shift_by, shift_from, shift, shift_answered, shift_call}
use Rattle.scroll.proofs.ShiftBound.{lines-back, edge-reads}
use Rattle.scroll.proofs.Scrolls.{from-same}
use Rattle.insertion.proofs.Accepted.{passed, settings-passed}
use Rattle.picture.specs.AfterShift.{Moves, stays, goes, ends, Motion}
use Rattle.picture.proofs.Grounds.{from_start, came-to}

module _ (σ : Settings) (m : List ℕ) (soft : PointerWords) where
  abbrev pub given_by : MainBlock → ℕ → Scroll → FrameShift
  given_by hard n last = reached (upward hard) n σ.top soft (moved (rate (rate_number hard)) (from_last (upward hard) last))

  pub data Gives (last : Scroll) (s : FrameShift) : Type 0 where
    off : {hard : MainBlock} {i : ℕ} → run m (top_block σ.linear σ.top) ≡ given i hard → enabled hard ≡ false
        → shifted (upward hard) still σ.top ≡ s → Gives last s
    on : {hard : MainBlock} {i k n : ℕ} → run m (top_block σ.linear σ.top) ≡ given i hard → enabled hard ≡ true
        → run m (edge_lines σ.linear soft hard) ≡ given k n → given_by hard n last ≡ s → Gives last s

  by-enable : (last : Scroll) (hard : MainBlock) {i j : ℕ} {s : FrameShift} → run m (top_block σ.linear σ.top) ≡ given i hard
      → (b : Bool) → enabled hard ≡ b
      → run_from i m (when b then (edge_lines σ.linear soft hard >>= λ n. done (given_by hard n last)) else done (shifted (upward hard) still σ.top)) ≡ given j s
      → Gives last s
  unfolding run_from
  by-enable last hard {i} {s} read true h e =
      came-to i m (edge_lines σ.linear soft hard) _ e λ k n edge last_step.
      let start = from_start i m (edge_lines σ.linear soft hard) edge in
      on read h start.1 (cc)
  by-enable last hard read false h e = off read h (cc)

  pub call-gives : (last : Scroll) {s : FrameShift} → shift_call σ m soft last ≡ Ok s → Gives last s
  unfolding shift_call shift shift_by
  call-gives last {s} e = by (run m (shift σ soft last)) refl e
    where
      by : (o : Outcome FrameShift) → run m (shift σ soft last) ≡ o → shift_answered o ≡ Ok s → Gives last s
      by (given n t) h k =
          let same : t ≡ s = cc in
          let good = settings-passed 0 m σ (λ _. shift_from σ soft last) h in
          let range = passed 0 m 3 (in_range last) _ good.1 in
          came-to 0 m (top_block σ.linear σ.top) (shift_by σ soft last) range.1 λ i hard read e₁.
          by-enable last hard read (enabled hard) refl (rw same at e₁)
      by (refused x) h k = let z : ◌≡◌ {A = ℕ} 0 1 = cc in absurd (omega arith)

-- the lines of a row that leaves or enters
pub edge-some : (linear : Bool) (m : List ℕ) → Words m → (top soft : PointerWords) {hard : MainBlock} {i k n : ℕ}
    → run m (top_block linear top) ≡ given i hard → run m (edge_lines linear soft hard) ≡ given k n → 1 ≤ n
edge-some linear m w top soft {hard} read edge =
    (reads-given 0 m w (edge-reads linear soft hard (reads-given 0 m w (top-reads linear top) read).1.0) edge).1.0

-- what is reached: shift 0 at the soft top, or the lines moved, fewer than the row's
pub data Reaches (up : Bool) (n : ℕ) (hard soft : PointerWords) (g : Offset) : FrameShift → Type 0 where
  ended : n ≤ g.lines → Reaches up n hard soft g (shifted up still soft)
  moving : g.lines < n → Reaches up n hard soft g (shifted up g hard)

pub reaches : (up : Bool) (n : ℕ) (hard soft : PointerWords) (g : Offset) → Reaches up n hard soft g (reached up n hard soft g)
unfolding reached
reaches up n hard soft g = by (leb n g.lines) refl
  where
    by : (t : Bool) → leb n g.lines ≡ t → Reaches up n hard soft g (when t then shifted up still soft else shifted up g hard)
    by true t = ended (leb-true n g.lines t)
    by false t = moving (leb-false n g.lines t)

-- ---- motion ----
data Moved (r : Rate) (g : Offset) : Offset → Type 0 where
  waited : {p : ℕ} → Moved r g (record { lines = g.lines; phase = p })
  stepped : {p : ℕ} → Moved r g (record { lines = g.lines + r.lines; phase = p })

moves-by : (r : Rate) (g : Offset) → Moved r g (moved r g)
unfolding moved
moves-by r g = by (leb r.frames (g.phase + 1))
  where
    by : (t : Bool) → Moved r g (when t then record { lines = g.lines + r.lines; phase = 0 } else record { lines = g.lines; phase = g.phase + 1 })
    by true = stepped
    by false = waited

-- from g lines, fewer than the row's, a move
module _ (up : Bool) (n : ℕ) (hard soft : PointerWords) (r : Rate) (s : FrameShift) where
  step : (g : Offset) → nat_abs s.scroll.shift ≡ g.lines → g.lines < n → {h : Offset} → Moved r g h → {t : FrameShift} → Reaches up n hard soft h t
      → Moves r.lines n hard soft s t
  step g from few waited (ended k) = absurd (omega arith)
  step g from few waited (moving k) = stays (lines-back up g.lines ∙ sym from) refl
  step g from few stepped (ended k) = ends (none up) refl (omega arith) (omega arith)
    where
      none : (up : Bool) → signed up 0 ≡ pos 0
      none true = refl
      none false = refl
  step g from few stepped (moving k) = goes (lines-back up (g.lines + r.lines) ∙ omega arith) refl

  step_from : (o : Offset) → nat_abs s.scroll.shift ≡ o.lines → o.lines < n → Moves r.lines n hard soft s (reached up n hard soft (moved r o))
  step_from o from few = step o from few (moves-by r o) (reaches up n hard soft (moved r o))

-- the offset that the call before gave is the one that this starts from
module _ (up : Bool) (n : ℕ) (hard soft : PointerWords) (r : Rate) (some : 1 ≤ n) where
  second : (g : Offset) {s : FrameShift} → Reaches up n hard soft g s → Moves r.lines n hard soft s (reached up n hard soft (moved r (from_last up s.scroll)))
  second g (ended k) = rw (from-same up still soft) (step_from up n hard soft r _ still (lines-back up 0) (omega arith))
  second g (moving k) = rw (from-same up g hard) (step_from up n hard soft r _ g (lines-back up g.lines) k)

pub motion : Motion
motion σ m w soft last s t first second_call hard i k n read enable edge =
    by_first (call-gives σ m soft last first) (call-gives σ m soft s.scroll second_call)
  where
    r : Rate
    r = rate (rate_number hard)

    -- both calls read the same
    by_call : {l : Scroll} {s : FrameShift} → Gives σ m soft l s → given_by σ m soft hard n l ≡ s
    by_call (off {hard = h} read' enable' same) =
        let one : h ≡ hard = cc in
        let both : enabled h ≡ true = rw one enable in
        let z : ◌≡◌ {A = ℕ} 0 1 = cc in
        absurd (omega arith)
    by_call {l} {s} (on {hard = h} {n = n'} read' enable' edge' same) =
        let one : h ≡ hard = cc in
        let edges : run m (edge_lines σ.linear soft hard) ≡ given _ n' = rw one at edge' in
        let lines : n' ≡ n = cc in
        let gives : given_by σ m soft hard n' l ≡ s = rw one at same in
        rw lines at gives

    by_first : Gives σ m soft last s → Gives σ m soft s.scroll t → Moves r.lines n σ.top soft s t
    by_first a b =
        let first-is = by_call a in
        let second_is = by_call b in
        rw (← second_is)
        (second (upward hard) n σ.top soft r (edge-some σ.linear m w σ.top soft read edge) (moved r (from_last (upward hard) last))
        (rw first-is at (reaches (upward hard) n σ.top soft (moved r (from_last (upward hard) last)))))
