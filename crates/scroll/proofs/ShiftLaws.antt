-- What a shift call comes to: a law for each way through its definitions, from what the readings in it come to.
use Rattle.std.proofs.Common.{Ok, Err}
use mathlib.Core.Path.{◌≡◌, refl, ap, ◌∙◌}
use mathlib.Core.Bool.{Bool, true, false, ◌&&◌, ◌||◌}
use mathlib.Core.List.{List}
use mathlib.Core.Logic.{◌⊎◌, inl, inr, ⊎_elim}
use Prim.Native.Nat.{ℕ, ◌+◌, ◌/◌, ◌%◌, ◌≤◌, ◌<◌}
use native.Mathlib.Omega.{arith}
use lib.IntN.{ℤ, pos, negsuc, nat_abs}
use lib.Dec.{leb, eqb, ltb}
use borrow.Author.Tests.{leb-true, ltb-true, ltb-false}
use Rattle.memory.specs.declared.Fault.{Fault}
use Rattle.memory.specs.Reading.{fault, Outcome, given, refused, run}
use Rattle.memory.proofs.Laws.{check-passed, check-failed, bind-given, bind-refused, after, run-after, run-done}
use Rattle.memory.proofs.ReadBounds.{both, if-cases}
use Rattle.settings.specs.declared.PointerWords.{PointerWords}
use Rattle.settings.specs.declared.Settings.{Settings}
use Rattle.settings.specs.Good.{check_settings}
use Rattle.blocks.specs.declared.MainBlock.{MainBlock}
use Rattle.background.specs.Background.{BackgroundRow, background_block}
use Rattle.start.specs.Top.{enabled, upward, rate_number, top_block}
use Rattle.start.specs.Start.{first_format}
use Rattle.scroll.specs.declared.Rate.{Rate}
use Rattle.scroll.specs.declared.Offset.{Offset}
use Rattle.scroll.specs.declared.Scroll.{Scroll}
use Rattle.scroll.specs.declared.FrameShift.{FrameShift}
use Rattle.scroll.specs.Rate.{rate}
use Rattle.scroll.specs.Scroll.{fits_direction, in_range, from_last, moved, shifted, still, reached, first_lines, edge_lines, shift_by, shift_from, shift, shift_answered}
use Rattle.scroll.specs.Answers.{lines_read, Small}

-- ---- what a scroll in range has ----
either : (a b : Bool) → a || b ≡ true → (a ≡ true) ⊎ (b ≡ true)
either true b h = inl refl
either false b h = inr h

fits-lines : (direction : ℕ) (z : ℤ) → fits_direction direction z ≡ true → nat_abs z ≤ 31
fits-lines direction (pos n) h =
    let up = eqb direction 1 && leb 0 n in
    let down = eqb direction 0 && true in
    ⊎_elim (λ k. leb-true n 31 (both up (leb n 31) k).1) (λ k. omega (arith, leb-true n 0 (both down (leb n 0) k).1))
    (either (up && leb n 31) (down && leb n 0) h)
fits-lines direction (negsuc n) h =
    let up = eqb direction 1 && false in
    let down = eqb direction 0 && leb n 30 in
    ⊎_elim (λ k. absurd (no-up (both up true k).0)) (λ k. omega (arith, leb-true n 30 (both (eqb direction 0) (leb n 30) (both down true k).0).1))
    (either (up && true) (down && true) h)
  where
    no-up : eqb direction 1 && false ≡ true → ⊥
    no-up e =
        let f : ◌≡◌ {A = Bool} false true = (both (eqb direction 1) false e).1 in
        let z : ◌≡◌ {A = ℕ} 0 1 = cc in
        omega arith

pub in-range : (last : Scroll) → in_range last ≡ true → (nat_abs last.shift ≤ 31) × (last.phase ≤ 7)
unfolding in_range
in-range last h =
    let k = both (fits_direction last.direction last.shift) (leb last.phase 7) h in
    (fits-lines last.direction last.shift k.0, leb-true last.phase 7 k.1)

pub from-last-small : (up : Bool) (last : Scroll) → in_range last ≡ true → Small (from_last up last)
unfolding from_last
from-last-small up last h =
    let k = in-range last h in
    if-cases Small (eqb last.direction _) (λ _. record { lines = k.0; phase = k.1 }) (λ _. record { lines = omega arith; phase = omega arith })

pub record RateBounds (r : Rate) : Type 0 where
  pub some-lines : 1 ≤ r.lines
  pub few-lines : r.lines ≤ 8
  pub some-frames : 1 ≤ r.frames
  pub few-frames : r.frames ≤ 8

pub rate-bounds : (n : ℕ) → n < 16 → RateBounds (rate n)
unfolding rate
rate-bounds n h =
    if-cases RateBounds (ltb n 8)
    (λ t.
    let k : n < 8 = ltb-true n 8 t in
    record { some-lines = omega arith; few-lines = omega arith; some-frames = omega arith; few-frames = omega arith })
    (λ t.
    let k : 8 ≤ n = ltb-false n 8 t in
    record { some-lines = omega arith; few-lines = omega arith; some-frames = omega arith; few-frames = omega arith })

pub m4-lines : (m4 : ℕ) → (rate (m4 / 256 % 16)).lines ≤ 8
m4-lines m4 = (rate-bounds (m4 / 256 % 16) (omega arith)).few-lines

pub moved_lines : (r : Rate) (g : Offset) → r.lines ≤ 8 → g.lines ≤ 31 → (moved r g).lines ≤ 39
unfolding moved
moved_lines r g h k = if-cases (λ (o : Offset). o.lines ≤ 39) (leb r.frames (g.phase + 1)) (λ _. omega arith) (λ _. omega arith)

-- ---- answers that tell no count ----
lines_after : (n : ℕ) (o : Outcome ℕ) → lines_read (after n o) ≡ lines_read o
lines_after n (given i a) = refl
lines_after n (refused x) = refl

shift-after : (n : ℕ) (o : Outcome FrameShift) → shift_answered (after n o) ≡ shift_answered o
shift-after n (given i a) = refl
shift-after n (refused x) = refl

lines_of : (o : Outcome ℕ) {t : ℕ} → Ok t ≡ lines_read o → (n : ℕ) × (o ≡ given n t)
lines_of (given n a) e = (n, cc)
lines_of (refused x) e = let z : ◌≡◌ {A = ℕ} 0 1 = cc in absurd (omega arith)

refusal-of : (o : Outcome ℕ) {x : Fault} → Err x ≡ lines_read o → o ≡ refused x
refusal-of (given n a) e = let z : ◌≡◌ {A = ℕ} 0 1 = cc in absurd (omega arith)
refusal-of (refused y) e = cc

-- ---- the scan lines of a row ----
module _ (m : List ℕ) (linear : Bool) (main : MainBlock) where
  pub first-refused : {x : Fault} → run m (background_block linear main.rows (first_format main.lines)) ≡ refused x
      → run m (first_lines linear main) ≡ refused x
  unfolding first_lines
  first-refused e = bind-refused 0 m (background_block linear main.rows (first_format main.lines)) _ e

  pub first_read : {n : ℕ} {g : BackgroundRow} → run m (background_block linear main.rows (first_format main.lines)) ≡ given n g
      → run m (first_lines linear main) ≡ given n g.format.lines
  unfolding first_lines
  first_read e = bind-given 0 m (background_block linear main.rows (first_format main.lines)) _ e ∙ run-done _ m _

module _ (m : List ℕ) (linear : Bool) (soft : PointerWords) (hard : MainBlock) where
  pub edge-up : upward hard ≡ true → run m (edge_lines linear soft hard) ≡ run m (first_lines linear hard)
  unfolding edge_lines
  edge-up h = rw h

  module _ (h : upward hard ≡ false) where
    pub edge-refused : {x : Fault} → run m (top_block linear soft) ≡ refused x → run m (edge_lines linear soft hard) ≡ refused x
    unfolding edge_lines
    edge-refused e = rw h (bind-refused 0 m (top_block linear soft) (first_lines linear) e)

    pub edge-down : {main : MainBlock} → run m (top_block linear soft) ≡ given 7 main
        → lines_read (run m (edge_lines linear soft hard)) ≡ lines_read (run m (first_lines linear main))
    unfolding edge_lines
    edge-down {main} e =
        rw h (ap lines_read (bind-given 0 m (top_block linear soft) (first_lines linear) e ∙ run-after 7 m (first_lines linear main)) ∙ lines_after 7 (run m (first_lines linear main)))

-- ---- the call ----
module _ (m : List ℕ) (σ : Settings) (soft : PointerWords) (last : Scroll) where
  module _ (hard : MainBlock) where
    pub disabled : enabled hard ≡ false → shift_answered (run m (shift_by σ soft last hard)) ≡ shift_answered (given 0 (shifted (upward hard) still σ.top))
    unfolding shift_by
    disabled h = rw h (ap shift_answered (run-done 0 m (shifted (upward hard) still σ.top)))

    module _ (h : enabled hard ≡ true) where
      pub row-refused : {x : Fault} → Err x ≡ lines_read (run m (edge_lines σ.linear soft hard))
          → run m (shift_by σ soft last hard) ≡ refused x
      unfolding shift_by
      row-refused e = rw h (bind-refused 0 m (edge_lines σ.linear soft hard) _ (refusal-of _ e))

      pub row_read : {n : ℕ} → Ok n ≡ lines_read (run m (edge_lines σ.linear soft hard))
          → shift_answered (run m (shift_by σ soft last hard))
          ≡ shift_answered (given 0 (reached (upward hard) n σ.top soft (moved (rate (rate_number hard)) (from_last (upward hard) last))))
      unfolding shift_by
      row_read e =
          let k = lines_of _ e in
          rw h (ap shift_answered (bind-given 0 m (edge_lines σ.linear soft hard) _ k.1 ∙ run-done _ m _))

  pub out_of_range : in_range last ≡ false → run m (shift_from σ soft last) ≡ refused (fault 3)
  out_of_range h = check-failed 0 m 3 (in_range last) _ h

  module _ (h : in_range last ≡ true) where
    pub top-refused : {x : Fault} → run m (top_block σ.linear σ.top) ≡ refused x → run m (shift_from σ soft last) ≡ refused x
    top-refused e = check-passed 0 m 3 (in_range last) _ h ∙ bind-refused 0 m (top_block σ.linear σ.top) _ e

    pub top_read : {hard : MainBlock} → run m (top_block σ.linear σ.top) ≡ given 7 hard
        → shift_answered (run m (shift_from σ soft last)) ≡ shift_answered (run m (shift_by σ soft last hard))
    top_read {hard} e =
        ap shift_answered
        (check-passed 0 m 3 (in_range last) _ h ∙ bind-given 0 m (top_block σ.linear σ.top) _ e ∙ run-after 7 m (shift_by σ soft last hard))
        ∙ shift-after 7 (run m (shift_by σ soft last hard))

  pub settings-refused : {x : Fault} → run m (check_settings σ) ≡ refused x → run m (shift σ soft last) ≡ refused x
  unfolding shift
  settings-refused e = bind-refused 0 m (check_settings σ) _ e

  pub settings-passed : run m (check_settings σ) ≡ given 0 tt → run m (shift σ soft last) ≡ run m (shift_from σ soft last)
  unfolding shift
  settings-passed e = bind-given 0 m (check_settings σ) _ e
