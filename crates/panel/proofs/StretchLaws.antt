-- A stretch: the lines that `line` counts have its two rows, and the line after them has not both.
use Rattle.std.proofs.Common.{Option, Some, None}
use mathlib.Core.Path.{◌≡◌, refl, ap, sym, ◌∙◌}
use mathlib.Core.Bool.{Bool, true, false}
use mathlib.Core.List.{List, [], ◌∷◌}
use Prim.Native.Nat.{ℕ, suc, ◌+◌, ◌-◌, ◌≤◌, ◌<◌, min}
use native.Mathlib.Omega.{arith}
use lib.IntN.{ℤ, nat_abs}
use lib.ListN.{length, take}
use lib.Dec.{ltb}
use borrow.Author.Tests.{ltb-true, ltb-false}
use Rattle.memory.proofs.ReadBounds.{if-cases}
use Rattle.panel.specs.declared.Place.{Place}
use Rattle.panel.specs.declared.Background.{Background}
use Rattle.panel.specs.declared.Background.TheVariants.{Nothing, Row, Above}
use Rattle.panel.specs.Line.{place, row_at, is_down, background, still, background_lines, line}
use Rattle.panel.specs.Lines.{Tall, row_from, on, background_on, which, Stretch, Stretches}
use Rattle.panel.proofs.FollowLaws.{place-within, place-on, place_after, place_none, row-index}
use Rattle.panel.proofs.BackgroundLaws.{tall-first, row_of, none_of, above-there, above-none, above_low, down-first, down-later, frame-there, down-row, down-above, on-down, on-up}

-- a row that follows another is not it
other_row : (hs : List ℕ) (i : ℕ) → which (row_at (row_from hs (suc i))) ≡ (1 ∷ i ∷ []) → ⊥
other_row hs i = if-cases (λ (q : Option Place). which (row_at q) ≡ (1 ∷ i ∷ []) → ⊥) (ltb (suc i) (length hs))
    (λ s e. let same : suc i ≡ i = cc in omega arith)
    (λ s e. let z : ◌≡◌ {A = ℕ} 0 1 = cc in omega arith)

not-above : (q : Option Place) → which (row_at q) ≡ (2 ∷ []) → ⊥
not-above None e = let z : ◌≡◌ {A = ℕ} 0 1 = cc in omega arith
not-above (Some p) e = let z : ◌≡◌ {A = List ℕ} (p.index ∷ []) [] = cc in let y : ◌≡◌ {A = ℕ} 0 1 = cc in omega arith

no_row : (q : Option Place) → which (row_at q) ≡ [] → q ≡ None
no_row None e = refl
no_row (Some p) e = let z : ◌≡◌ {A = ℕ} 0 1 = cc in absurd (omega arith)

module _ (shift : ℤ) (above : ℕ) (heights : List ℕ) (rows y : ℕ) (s : Place) (tall : Tall heights) (e : still heights rows y ≡ Some s) where
  abbrev frame : List ℕ
  frame = take rows heights

  abbrev d : ℕ
  d = nat_abs shift

  abbrev glide : ℕ → Background
  glide = background shift above heights rows

  tall-frame : Tall frame
  tall-frame = tall-first rows heights tall

  some : 1 ≤ s.left
  some = (place-within frame y s e).some

  stands : (k : ℕ) → k < s.left → still heights rows (y + k) ≡ Some (on k s)
  stands = place-on frame tall-frame y s e

  -- the line after the still row's last has another row
  moves : (n : ℕ) → n ≡ s.left → (t : Place) → still heights rows (y + n) ≡ Some t → t.index ≡ s.index → ⊥
  moves n all t there same =
      let after = rw (← all) at (place_after frame tall-frame y s e) in
      let index = row-index frame (suc s.index) t (sym after ∙ there) in
      omega arith

  -- a stretch, by what ends it
  stretch : (n : ℕ) → 1 ≤ n → n ≤ s.left → ((k : ℕ) → k < n → glide (y + k) ≡ background_on k (glide y))
      → (n < s.left → (t : Place) → still heights rows (y + n) ≡ Some t → which (glide (y + n)) ≡ which (glide y) → ⊥) → Stretch shift above heights rows y s n
  stretch n one few glides ends = record {
    some = one;
    stands = λ k below. stands k (omega arith);
    glides = glides;
    ends = λ t there same row. by t there same row (ltb n s.left) refl;
  }
    where
      by : (t : Place) → still heights rows (y + n) ≡ Some t → t.index ≡ s.index → which (glide (y + n)) ≡ which (glide y) → (b : Bool) → ltb n s.left ≡ b → ⊥
      by t there same row true below = ends (ltb-true n s.left below) t there row
      by t there same row false past = let least = ltb-false n s.left past in moves n (omega arith) t there same

  -- of a row in rows hs, where line y + k has line z + k of them
  row-stretch : (hs : List ℕ) → Tall hs → (z : ℕ) → ((k : ℕ) → glide (y + k) ≡ row_at (place hs (z + k))) → (p : Place) → place hs z ≡ Some p → glide y ≡ Row p
      → Stretch shift above heights rows y s (min s.left p.left)
  row-stretch hs tall-hs z glides p there here =
      let one = (place-within hs z p there).some in
      let m = some in
      stretch (min s.left p.left) (omega arith) (omega arith)
      (λ k below. rw (glides k, here, place-on hs tall-hs z p there k (omega arith)))
      (λ less t still same.
      let all : min s.left p.left ≡ p.left = omega arith in
      other_row hs p.index (rw (all, glides p.left, place_after hs tall-hs z p there, here) at same))

  -- of the row above
  above-stretch : is_down shift ≡ true → (p : Place) → glide y ≡ Above p → Stretch shift above heights rows y s (min s.left p.left)
  above-stretch t p here =
      let a = down-above d above heights rows y p (sym (on-down shift above heights rows t y) ∙ here) in
      let left : p.left ≡ d - y = ap (λ (q : Place). q.left) a.2 in
      let line : p.line ≡ above + y - d = ap (λ (q : Place). q.line) a.2 in
      let index : p.index ≡ 0 = ap (λ (q : Place). q.index) a.2 in
      let m = some in
      stretch (min s.left p.left) (omega arith) (omega arith)
      (λ k below.
      let first : y + k < d = omega arith in
      let l : above + (y + k) - d ≡ p.line + k = omega arith in
      let r : d - (y + k) ≡ p.left - k = omega arith in
      rw (here, on-down shift above heights rows t (y + k), down-first d above heights rows (y + k) first, above-there above d (y + k) first (omega arith), l, r, index))
      (λ less u still same.
      let all : min s.left p.left ≡ p.left = omega arith in
      let past : d ≤ y + p.left = omega arith in
      not-above (place frame (y + p.left - d))
      (rw (all, on-down shift above heights rows t (y + p.left), down-later d above heights rows (y + p.left) past, here) at same))

  -- of nothing, before the row above comes in
  dark-low : is_down shift ≡ true → glide y ≡ Nothing → above + y < d
  dark-low t here = by (ltb y d) refl
    where
      by : (b : Bool) → ltb y d ≡ b → above + y < d
      by true u =
          let first = ltb-true y d u in
          above_low above d y first (sym (down-first d above heights rows y first) ∙ sym (on-down shift above heights rows t y) ∙ here)
      by false u =
          let past = ltb-false y d u in
          absurd (frame-there d above heights rows tall y (y - d) s (omega arith) e (none_of (place frame (y - d)) (sym (down-later d above heights rows y past) ∙ sym (on-down shift above heights rows t y) ∙ here)))

  comes : is_down shift ≡ true → above + y < d → (u : Place) → still heights rows (d - above) ≡ Some u → which (glide (d - above)) ≡ [] → (b : Bool) → ltb (d - above) d ≡ b → ⊥
  comes t low u there same true first =
      let below = ltb-true (d - above) d first in
      let z : ◌≡◌ {A = List ℕ} (2 ∷ []) [] = rw (on-down shift above heights rows t (d - above), down-first d above heights rows (d - above) below, above-there above d (d - above) below (omega arith)) at same in
      let y : ◌≡◌ {A = ℕ} 0 1 = cc in omega arith
  comes t low u there same false none =
      let past = ltb-false (d - above) d none in
      frame-there d above heights rows tall (d - above) (d - above - d) u (omega arith) there
      (no_row (place frame (d - above - d)) (rw (on-down shift above heights rows t (d - above), down-later d above heights rows (d - above) past) at same))

  dark-down : is_down shift ≡ true → glide y ≡ Nothing → Stretch shift above heights rows y s (min s.left (d - above - y))
  dark-down t here =
      let low = dark-low t here in
      let m = some in
      stretch (min s.left (d - above - y)) (omega arith) (omega arith)
      (λ k below.
      let first : y + k < d = omega arith in
      rw (here, on-down shift above heights rows t (y + k), down-first d above heights rows (y + k) first, above-none above d (y + k) first (omega arith)))
      (λ less u there same.
      let all : min s.left (d - above - y) ≡ d - above - y = omega arith in
      let at : y + (d - above - y) ≡ d - above = omega arith in
      comes t low u (rw (all, at) at there) (rw (all, at, here) at same) (ltb (d - above) d) refl)

  -- of nothing, past the rows
  dark-up : is_down shift ≡ false → glide y ≡ Nothing → Stretch shift above heights rows y s s.left
  dark-up t here =
      let gone = none_of (place heights (y + d)) (sym (on-up shift above heights rows t y) ∙ here) in
      stretch s.left some (omega arith)
      (λ k below.
      let there : y + k + d ≡ y + d + k = omega arith in
      rw (here, on-up shift above heights rows t (y + k), there, place_none heights tall (y + d) k gone))
      (λ less u there same. omega arith)

  -- by what glides on line y
  by-background : (b : Background) → glide y ≡ b → (down : Bool) → is_down shift ≡ down → Stretch shift above heights rows y s (background_lines shift above y s.left b)
  by-background Nothing here true t = rw t (dark-down t here)
  by-background Nothing here false t = rw t (dark-up t here)
  by-background (Above p) here true t = above-stretch t p here
  by-background (Above p) here false t = absurd (not-above (place heights (y + d)) (ap which (sym (on-up shift above heights rows t y) ∙ here)))
  by-background (Row p) here true t =
      let r = down-row d above heights rows y p (sym (on-down shift above heights rows t y) ∙ here) in
      row-stretch frame tall-frame (y - d)
      (λ k. let there : y + k - d ≡ y - d + k = omega arith in rw (on-down shift above heights rows t (y + k), down-later d above heights rows (y + k) (omega arith), there))
      p r.1 here
  by-background (Row p) here false t =
      row-stretch heights tall (y + d)
      (λ k. let there : y + k + d ≡ y + d + k = omega arith in rw (on-up shift above heights rows t (y + k), there))
      p (row_of (place heights (y + d)) p (sym (on-up shift above heights rows t y) ∙ here)) here

pub stretches : Stretches
unfolding line
stretches shift above heights rows y s tall e = rw e (by-background shift above heights rows y s tall e (background shift above heights rows y) refl (is_down shift) refl)
