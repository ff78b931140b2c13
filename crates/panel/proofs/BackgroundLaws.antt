-- What glides from line to line: up, the place of rows one after the other; down, the row above's last lines, and then the frame's rows.
use Rattle.std.proofs.Common.{Option, Some, None}
use mathlib.Core.Path.{◌≡◌, refl, ap, sym, ◌∙◌}
use mathlib.Core.Bool.{Bool, true, false}
use mathlib.Core.List.{List}
use Prim.Native.Nat.{ℕ, suc, ◌+◌, ◌-◌, ◌≤◌, ◌<◌}
use native.Mathlib.Omega.{arith}
use lib.IntN.{ℤ, nat_abs}
use lib.ListN.{take, length-take}
use lib.Seq.{get_or-take}
use lib.Dec.{ltb, leb}
use borrow.Author.Tests.{ltb-true, ltb-false, lt-ltb, le-ltb, leb-true, leb-false, le-leb, lt-leb}
use Rattle.memory.specs.Word.{when◌then◌else◌}
use Rattle.memory.proofs.ReadBounds.{if-cases}
use Rattle.panel.specs.declared.Place.{Place}
use Rattle.panel.specs.declared.Background.{Background}
use Rattle.panel.specs.declared.Background.TheVariants.{Nothing, Row, Above}
use Rattle.panel.specs.Line.{place_at, place, row_at, above_at, is_down, background}
use Rattle.panel.specs.Lines.{Tall, next, next_background, Follows, Unshifted}
use Rattle.panel.proofs.FollowLaws.{first-place, place-follows, place-within, place-first, place_none}

pub unshifted : Unshifted
unfolding background
unshifted above heights rows y s e =
    let here : y + 0 ≡ y = omega arith in
    rw (here, place-first rows heights y s e)

-- the first rows are tall too
pub tall-first : (rows : ℕ) (heights : List ℕ) → Tall heights → Tall (take rows heights)
tall-first rows heights t i there =
    let count = length-take rows heights in
    let first : i < rows = omega arith in
    rw (get_or-take rows heights i 0 first) (t i (omega arith))

-- a background of rows alone
next_row : (hs : List ℕ) (q : Option Place) → row_at (next hs q) ≡ next_background hs (row_at q)
next_row hs None = refl
next_row hs (Some p) = refl

pub row_of : (q : Option Place) (p : Place) → row_at q ≡ Row p → q ≡ Some p
row_of None p h = let z : ◌≡◌ {A = ℕ} 0 1 = cc in absurd (omega arith)
row_of (Some q) p h = cc

row-not-above : (q : Option Place) (p : Place) → row_at q ≡ Above p → ⊥
row-not-above None p h = let z : ◌≡◌ {A = ℕ} 0 1 = cc in omega arith
row-not-above (Some q) p h = let z : ◌≡◌ {A = ℕ} 0 1 = cc in omega arith

pub none_of : (q : Option Place) → row_at q ≡ Nothing → q ≡ None
none_of None h = refl
none_of (Some q) h = let z : ◌≡◌ {A = ℕ} 0 1 = cc in absurd (omega arith)

-- the row above, of height h, on line y of the first d
module _ (h d y : ℕ) (first : y < d) where
  pub above-there : d ≤ h + y → above_at h d y ≡ Above (place_at 0 (h + y - d) (d - y))
  unfolding above_at
  above-there t = rw (le-leb d (h + y) t)

  pub above-none : h + y < d → above_at h d y ≡ Nothing
  unfolding above_at
  above-none t = rw (lt-leb d (h + y) t)

  above-some : (above_at h d y ≡ Nothing → ⊥) → d ≤ h + y
  above-some some = by (leb d (h + y)) refl
    where
      by : (b : Bool) → leb d (h + y) ≡ b → d ≤ h + y
      by true t = leb-true d (h + y) t
      by false t = absurd (some (above-none (leb-false d (h + y) t)))

  pub above_low : above_at h d y ≡ Nothing → h + y < d
  above_low none = by (leb d (h + y)) refl
    where
      by : (b : Bool) → leb d (h + y) ≡ b → h + y < d
      by true t =
          let there = above-there (leb-true d (h + y) t) in
          let z : ◌≡◌ {A = ℕ} 0 1 = cc in absurd (omega arith)
      by false t = leb-false d (h + y) t

  not-row : (p : Place) → above_at h d y ≡ Row p → ⊥
  unfolding above_at
  not-row p = if-cases (λ (b : Background). b ≡ Row p → ⊥) (leb d (h + y)) (λ t e. let z : ◌≡◌ {A = ℕ} 0 1 = cc in omega arith) (λ t e. let z : ◌≡◌ {A = ℕ} 0 1 = cc in omega arith)

-- what glides down by d lines, and up
module _ (d above : ℕ) (heights : List ℕ) (rows : ℕ) where
  abbrev pub frame : List ℕ
  frame = take rows heights

  abbrev pub down : ℕ → Background
  down y = when ltb y d then above_at above d y else row_at (place frame (y - d))

  abbrev pub up : ℕ → Background
  up y = row_at (place heights (y + d))

  pub down-first : (y : ℕ) → y < d → down y ≡ above_at above d y
  down-first y s = rw (lt-ltb y d s)

  pub down-later : (y : ℕ) → d ≤ y → down y ≡ row_at (place frame (y - d))
  down-later y s = rw (le-ltb y d s)

  module _ (tall : Tall heights) where
    up-follows : (y : ℕ) → up (suc y) ≡ next_background heights (up y)
    up-follows y =
        let there : suc y + d ≡ suc (y + d) = omega arith in
        rw (there, place-follows heights tall (y + d)) (next_row heights (place heights (y + d)))

    down-follows : (y : ℕ) → (down y ≡ Nothing → ⊥) → down (suc y) ≡ next_background frame (down y)
    down-follows y some = by (ltb y d) refl
      where
        in-above : y < d → d ≤ above + y → (b : Bool) → ltb (suc y) d ≡ b → down (suc y) ≡ next_background frame (Above (place_at 0 (above + y - d) (d - y)))
        in-above s few true more =
            let below = ltb-true (suc y) d more in
            let l : above + suc y - d ≡ suc (above + y - d) = omega arith in
            let m : d - suc y ≡ d - y - 1 = omega arith in
            rw (more, above-there above d (suc y) below (omega arith), lt-ltb 1 (d - y) (omega arith), l, m)
        in-above s few false more =
            let end = ltb-false (suc y) d more in
            let z : suc y - d ≡ 0 = omega arith in
            rw (more, z, le-ltb 1 (d - y) (omega arith), first-place frame (tall-first rows heights tall))

        by : (b : Bool) → ltb y d ≡ b → down (suc y) ≡ next_background frame (down y)
        by true t =
            let s = ltb-true y d t in
            let few = above-some above d y s (λ e. some (down-first y s ∙ e)) in
            rw (down-first y s, above-there above d y s few) (in-above s few (ltb (suc y) d) refl)
        by false t =
            let s = ltb-false y d t in
            let there : suc y - d ≡ suc (y - d) = omega arith in
            rw (down-later y s, down-later (suc y) (omega arith), there, place-follows frame (tall-first rows heights tall) (y - d)) (next_row frame (place frame (y - d)))

    -- where a row stands still on a line, no line before it is past the frame's rows
    pub frame-there : (y z : ℕ) (s : Place) → z ≤ y → place frame y ≡ Some s → place frame z ≡ None → ⊥
    frame-there y z s before e none =
        let past = place_none frame (tall-first rows heights tall) z (y - z) none in
        let same : z + (y - z) ≡ y = omega arith in
        let gone = rw same at past in
        let z : ◌≡◌ {A = ℕ} 0 1 = cc in omega arith

    down-stays : (y : ℕ) (s : Place) → (down y ≡ Nothing → ⊥) → place frame (suc y) ≡ Some s → down (suc y) ≡ Nothing → ⊥
    down-stays y s some e none = by (ltb (suc y) d) refl
      where
        by : (b : Bool) → ltb (suc y) d ≡ b → ⊥
        by true t =
            let below = ltb-true (suc y) d t in
            let few = above-some above d y (omega arith) (λ e. some (down-first y (omega arith) ∙ e)) in
            let there = above-there above d (suc y) below (omega arith) in
            let gone = down-first (suc y) below in
            let z : ◌≡◌ {A = ℕ} 0 1 = cc in omega arith
        by false t =
            let s' = ltb-false (suc y) d t in
            frame-there (suc y) (suc y - d) s (omega arith) e (none_of (place frame (suc y - d)) (sym (down-later (suc y) s') ∙ none))

  pub down-row : (y : ℕ) (p : Place) → down y ≡ Row p → (d ≤ y) × (place frame (y - d) ≡ Some p)
  down-row y p e = by (ltb y d) refl
    where
      by : (b : Bool) → ltb y d ≡ b → (d ≤ y) × (place frame (y - d) ≡ Some p)
      by true t = let s = ltb-true y d t in absurd (not-row above d y s p (sym (down-first y s) ∙ e))
      by false t = let s = ltb-false y d t in (s, row_of (place frame (y - d)) p (sym (down-later y s) ∙ e))

  pub down-above : (y : ℕ) (p : Place) → down y ≡ Above p → (y < d) × (d ≤ above + y) × (p ≡ place_at 0 (above + y - d) (d - y))
  down-above y p e = by (ltb y d) refl
    where
      by : (b : Bool) → ltb y d ≡ b → (y < d) × (d ≤ above + y) × (p ≡ place_at 0 (above + y - d) (d - y))
      by true t =
          let s = ltb-true y d t in
          let here = sym (down-first y s) ∙ e in
          let few = above-some above d y s (λ n. let z : ◌≡◌ {A = ℕ} 0 1 = cc in omega arith) in
          let there = above-there above d y s few in
          (s, few, cc)
      by false t = let s = ltb-false y d t in absurd (row-not-above (place frame (y - d)) p (sym (down-later y s) ∙ e))

-- the two ways of a shift
module _ (shift : ℤ) (above : ℕ) (heights : List ℕ) (rows : ℕ) where
  pub on-down : is_down shift ≡ true → (y : ℕ) → background shift above heights rows y ≡ down (nat_abs shift) above heights rows y
  unfolding background
  on-down t y = rw t

  pub on-up : is_down shift ≡ false → (y : ℕ) → background shift above heights rows y ≡ up (nat_abs shift) above heights rows y
  unfolding background
  on-up t y = rw t

  follows_by : Tall heights → (b : Bool) → is_down shift ≡ b → Follows shift above heights rows
  follows_by tall true t = record {
    next = λ y some. rw (t, on-down t y, on-down t (suc y)) (down-follows (nat_abs shift) above heights rows tall y (λ e. some (on-down t y ∙ e)));
    row = λ y p e. rw t (place-within (take rows heights) (y - nat_abs shift) p (down-row (nat_abs shift) above heights rows y p (sym (on-down t y) ∙ e)).1);
    whole = λ y p e. let a = down-above (nat_abs shift) above heights rows y p (sym (on-down t y) ∙ e) in rw a.2 (omega arith, omega arith);
    last = λ u y e. let z : ◌≡◌ {A = ℕ} 0 1 = cc in absurd (omega arith);
    first = λ u y s some e none.
        down-stays (nat_abs shift) above heights rows tall y s (λ n. some (on-down t y ∙ n)) e (sym (on-down t (suc y)) ∙ none);
  }
  follows_by tall false t = record {
    next = λ y some. rw (t, on-up t y, on-up t (suc y)) (up-follows (nat_abs shift) above heights rows tall y);
    row = λ y p e. rw t (place-within heights (y + nat_abs shift) p (row_of (place heights (y + nat_abs shift)) p (sym (on-up t y) ∙ e)));
    whole = λ y p e. absurd (row-not-above (place heights (y + nat_abs shift)) p (sym (on-up t y) ∙ e));
    last = λ u y e. on-up t (suc y) ∙ up-follows (nat_abs shift) above heights rows tall y ∙ ap (next_background heights) (sym (on-up t y) ∙ e);
    first = λ u y s some e none. let z : ◌≡◌ {A = ℕ} 0 1 = cc in omega arith;
  }

  pub follows : Tall heights → Follows shift above heights rows
  follows tall = follows_by tall (is_down shift) refl
