-- The row that leaves or enters is row 0 of the frame or the row above: both are read from the main block's first row block and lines.
use Rattle.std.proofs.Common.{Some, Ok}
use mathlib.Core.Path.{◌≡◌, refl, sym, ap, ◌∙◌}
use mathlib.Core.Bool.{Bool, true, false}
use mathlib.Core.List.{List, [], ◌∷◌, ◌++◌}
use mathlib.Core.Option.{Option, some}
use Prim.Native.Nat.{ℕ, zero, suc, ◌+◌, ◌-◌, ◌≤◌, ◌<◌, zero-le}
use native.Mathlib.Omega.{arith}
use lib.IntN.{ℤ, nat_abs}
use borrow.Author.Tests.{lt-ltb, le-ltb}
use Rattle.memory.specs.Reading.{◌>>=◌, given, run}
use Rattle.memory.proofs.Laws.{bind-given, run-done}
use Rattle.memory.proofs.ReadBounds.{Words}
use Rattle.settings.specs.declared.PointerWords.{PointerWords}
use Rattle.settings.specs.declared.Settings.{Settings}
use Rattle.blocks.specs.declared.MainBlock.{MainBlock}
use Rattle.state.specs.declared.Fields.{Fields}
use Rattle.state.specs.declared.State.{State}
use Rattle.background.specs.Background.{background_block}
use Rattle.start.specs.Top.{upward, top_block}
use Rattle.start.specs.Start.{first_fields}
use Rattle.frame.specs.Frame.{FrameRow}
use Rattle.beside.specs.Beside.{with_top}
use Rattle.scroll.specs.declared.Offset.{Offset}
use Rattle.scroll.specs.declared.Scroll.{Scroll}
use Rattle.scroll.specs.declared.FrameShift.{FrameShift}
use Rattle.scroll.specs.Scroll.{signed, shifted, first_lines, edge_lines, shift_call}
use Rattle.scroll.proofs.ShiftBound.{lines-back}
use Rattle.insertion.proofs.Chains.{drawn_row}
use Rattle.panel.specs.declared.Background.TheVariants.{Row}
use Rattle.panel.specs.Line.{place_at, place, row_at, is_down}
use Rattle.picture.specs.Picture.{PictureRow, Picture, picture_row, picture_rows, frame_rows, above_row, picture, heights_of, line_on, first}
use Rattle.picture.specs.Heights.{Tall}
use Rattle.picture.specs.AfterShift.{BelowFirstRow}
use Rattle.picture.proofs.Grounds.{from_start, came-to, row-grounded, height-is, Started, Opening, opened, closed, opening}
use Rattle.picture.proofs.Following.{Successive, stops, draws, following, rest-following}
use Rattle.picture.proofs.Heights.{refuses-none, frame-tall, above-tall}
use Rattle.picture.proofs.Places.{sum, line-up}
use Rattle.picture.proofs.ShiftCalls.{Gives, off, on, call-gives, Reaches, ended, moving, reaches}

-- the height of a list's first row, read from its top
pub data TopRow (linear : Bool) (top : PointerWords) (m : List ℕ) (h : ℕ) : Type 0 where
  top_row : {main : MainBlock} {i k : ℕ} → run m (top_block linear top) ≡ given i main → run m (first_lines linear main) ≡ given k h
      → TopRow linear top m h

module _ (σ : Settings) (m : List ℕ) (w : Words m) where
  by_rows : {s : State} {rs : List FrameRow} {o : Option State} {r : PictureRow} {latch : ℕ} → Started latch σ m s → Successive σ m s rs o
      → first (picture_rows σ m s rs) ≡ some r → TopRow σ.linear σ.top m r.height
  unfolding picture_rows picture_row first_lines first_fields
  by_rows st stops e = refuses-none (sym e)
  by_rows {r} st (draws {s} {n} {r = drawn} l e k) h =
      let g = row-grounded σ m s e in
      let read = ap (λ (f : Fields). run m (background_block σ.linear f.next f.format)) (sym st.leads) ∙ g.read in
      let same : picture_row σ m s (drawn_row σ s n drawn) ≡ r = cc in
      let height : g.ground.format.lines ≡ r.height = sym (height-is w g) ∙ ap (λ (r : PictureRow). r.height) same in
      top_row st.read (bind-given 0 m (background_block σ.linear _ _) _ read ∙ run-done g.words m _ ∙ ap (given g.words) height)

  pub frame-first : (latch : ℕ) {r : PictureRow} → first (frame_rows latch σ m) ≡ some r → TopRow σ.linear σ.top m r.height
  unfolding frame_rows
  frame-first latch {r} h = by (opening latch σ m)
    where
      by : Opening latch σ m → TopRow σ.linear σ.top m r.height
      by (opened {n} {s} e st) = by_rows st (rest-following σ m (record { state = s; words = n })) (rw e at h)
      by (closed e) = refuses-none (sym (rw e at h))

  pub above-first : (latch : ℕ) {r : PictureRow} → first (above_row latch σ m) ≡ some r → TopRow σ.linear σ.top m r.height
  unfolding above_row
  above-first latch {r} h = by (opening latch σ m)
    where
      by : Opening latch σ m → TopRow σ.linear σ.top m r.height
      by (opened {n} {s} e st) = by_rows st (following σ m 1 (record { state = s; words = n })) (rw e at h)
      by (closed e) = refuses-none (sym (rw e at h))

-- a first row is 1 line high or higher
first-tall : (rs : List PictureRow) {r : PictureRow} → Tall rs → first rs ≡ some r → 1 ≤ r.height
first-tall [] t e = refuses-none (sym e)
first-tall (x ∷ rs) {r} t e = let same : x ≡ r = cc in rw (← same) t.0

-- ---- the shift is below it ----
-- which list's first row the lines are that the shift is below: the hard one's going up, the soft one's going down
pub data Below (linear : Bool) (hard soft : PointerWords) (m : List ℕ) (s : FrameShift) : Type 0 where
  stands : nat_abs s.scroll.shift ≡ 0 → Below linear hard soft m s
  rises : {n : ℕ} → s.top ≡ hard → TopRow linear hard m n → nat_abs s.scroll.shift < n → is_down s.scroll.shift ≡ false → Below linear hard soft m s
  falls : {n : ℕ} → TopRow linear soft m n → nat_abs s.scroll.shift < n → (is_down s.scroll.shift ≡ false → nat_abs s.scroll.shift ≡ 0)
      → Below linear hard soft m s

module _ (σ : Settings) (m : List ℕ) (soft : PointerWords) where
  edge-first : (hard : MainBlock) {i k n : ℕ} → run m (top_block σ.linear σ.top) ≡ given i hard → run m (edge_lines σ.linear soft hard) ≡ given k n
      → (g : Offset) → g.lines < n → (up : Bool) → upward hard ≡ up → Below σ.linear σ.top soft m (shifted up g σ.top)
  unfolding edge_lines
  edge-first hard read edge g few true up = rises refl (top_row read (rw up at edge)) few (le-ltb g.lines 0 zero-le)
  edge-first hard {k} {n} read edge g few false up =
      let down : run m (top_block σ.linear soft >>= first_lines σ.linear) ≡ given k n = rw up at edge in
      came-to 0 m (top_block σ.linear soft) (first_lines σ.linear) down λ i main top lines.
      falls (top_row top (from_start i m (first_lines σ.linear main) lines).1) (rw (lines-back false g.lines) few) (none g.lines)
    where
      none : (n : ℕ) → is_down (signed false n) ≡ false → nat_abs (signed false n) ≡ 0
      none zero h = refl
      none (suc n) h = let z : ◌≡◌ {A = ℕ} 0 1 = cc in absurd (omega arith)

  by-reaching : (hard : MainBlock) {i k n : ℕ} → run m (top_block σ.linear σ.top) ≡ given i hard → run m (edge_lines σ.linear soft hard) ≡ given k n
      → {g : Offset} {s : FrameShift} → Reaches (upward hard) n σ.top soft g s → Below σ.linear σ.top soft m s
  by-reaching hard read edge (ended k) = stands (lines-back (upward hard) 0)
  by-reaching hard read edge {g} (moving k) = edge-first hard read edge g k (upward hard) refl

  pub call_below : (last : Scroll) {s : FrameShift} → shift_call σ m soft last ≡ Ok s → Below σ.linear σ.top soft m s
  call_below last {s} e = by (call-gives σ m soft last e)
    where
      by : Gives σ m soft last s → Below σ.linear σ.top soft m s
      by (off {hard} read h same) = rw (← same) (stands (lines-back (upward hard) 0))
      by (on {hard} {n} read h edge same) = rw (← same) (by-reaching hard read edge (reaches (upward hard) n σ.top soft _))

pub same_first : {linear : Bool} {top : PointerWords} {m : List ℕ} {a b : ℕ} → TopRow linear top m a → TopRow linear top m b → a ≡ b
same_first {linear} {m} {a} {b} (top_row {main} top lines) (top_row {main = main'} {k} top' lines') =
    let one : main' ≡ main = cc in
    let both : run m (first_lines linear main) ≡ given k b = rw one at lines' in
    cc

-- the line at the top of a picture that is shifted up by less than its row 0
pub place-first : (x : ℕ) (hs : List ℕ) (z : ℕ) → z < x → place (x ∷ hs) z ≡ Some (place_at 0 z (x - z))
unfolding place
place-first x hs z h = rw (lt-ltb z x h)

top-line : (p : Picture) (rows : List PictureRow) {r : PictureRow} → p.rows ≡ rows → first rows ≡ some r → is_down p.shift ≡ false → nat_abs p.shift < r.height
    → (line_on p 0).background ≡ Row (place_at 0 (nat_abs p.shift) (r.height - nat_abs p.shift))
top-line p [] e h up few = refuses-none (sym h)
top-line p (x ∷ rs) {r} e h up few =
    let same : x ≡ r = cc in
    let low : nat_abs p.shift < x.height = rw same few in
    let some-lines : 0 < sum (heights_of p.rows) = rw e (omega arith) in
    let at : 0 + nat_abs p.shift ≡ nat_abs p.shift = omega arith in
    line-up p 0 some-lines up ∙ rw (e, at, ← same) (ap row_at (place-first x.height (heights_of rs ++ heights_of p.below) (nat_abs p.shift) low))

pub below-first-row : BelowFirstRow
unfolding picture with_top
below-first-row σ m w soft last s e latch r =
    ((λ up h. (above-it up h, top-line p p.rows refl h up (above-it up h))), λ down h. below-it down (rw down at h))
  where
    shift : ℤ
    shift = s.scroll.shift

    τ : Settings
    τ = with_top σ s.top

    p : Picture
    p = picture shift soft latch τ m

    b : Below σ.linear σ.top soft m s
    b = call_below σ m soft last e

    above-it : is_down shift ≡ false → first (frame_rows latch τ m) ≡ some r → nat_abs shift < r.height
    above-it up h = by b
      where
        tall : 1 ≤ r.height
        tall = first-tall (frame_rows latch τ m) (frame-tall τ m w latch) h

        by : Below σ.linear σ.top soft m s → nat_abs shift < r.height
        by (stands z) = omega (arith, tall)
        by (rises top f few k) = let own : TopRow σ.linear σ.top m r.height = rw top at (frame-first τ m w latch h) in omega (arith, same_first f own)
        by (falls f few z) = omega (arith, z up, tall)

    below-it : is_down shift ≡ true → first (above_row latch (with_top τ soft) m) ≡ some r → nat_abs shift < r.height
    below-it down h = by b
      where
        tall : 1 ≤ r.height
        tall = first-tall (above_row latch (with_top τ soft) m) (above-tall (with_top τ soft) m w latch) h

        by : Below σ.linear σ.top soft m s → nat_abs shift < r.height
        by (stands z) = omega (arith, tall)
        by (rises top f few k) = let z : ◌≡◌ {A = ℕ} 0 1 = cc in absurd (omega arith)
        by (falls f few z) = omega (arith, same_first f (above-first (with_top τ soft) m w latch h))
