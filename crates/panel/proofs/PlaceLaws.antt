-- A place in rows, looked at from a row further on: past i of the rows its index is i less.
use Rattle.std.proofs.Common.{Option, Some, None}
use mathlib.Core.Path.{◌≡◌, refl, ap}
use mathlib.Core.List.{List, [], ◌∷◌}
use Prim.Native.Nat.{ℕ, zero, suc, ◌+◌, ◌-◌, ◌≤◌, ◌<◌}
use native.Mathlib.Omega.{arith}
use native.Mathlib.Numerals.{add-one}
use native.Mathlib.Nat.{add-zero}
use lib.ListN.{length, drop, get_or}
use lib.Seq.{drop-cons, drop-nil}
use borrow.Author.Tests.{lt-ltb, le-ltb}
use Rattle.panel.specs.Line.{place_at, later, place}
use Rattle.panel.specs.declared.Place.{Place}

-- the same place, i rows further on
abbrev pub later_by : ℕ → Option Place → Option Place
later_by i None = None
later_by i (Some p) = Some (place_at (i + p.index) p.line p.left)

pub later-none : (p : Option Place) → later_by 0 p ≡ p
later-none None = refl
later-none (Some p) = ap (λ (i : ℕ). Some (place_at i p.line p.left)) (omega arith)

later_more : (i : ℕ) (p : Option Place) → later_by i (later p) ≡ later_by (i + 1) p
later_more i None = refl
later_more i (Some p) = ap (λ (i : ℕ). Some (place_at i p.line p.left)) (omega arith)

drop_past : (hs : List ℕ) (i : ℕ) → length hs ≤ i → drop i hs ≡ []
drop_past [] i h = drop-nil i
drop_past (x ∷ xs) zero h = absurd (omega arith)
drop_past (x ∷ xs) (suc i) h = drop_past xs i (omega arith)

-- at row i: within it, or past it; and past the last row
module _ (hs : List ℕ) (i z : ℕ) where
  pub place_in : i < length hs → z < get_or hs i 0 → later_by i (place (drop i hs) z) ≡ Some (place_at i z (get_or hs i 0 - z))
  unfolding place
  place_in there h = rw (drop-cons hs i 0 there, lt-ltb z (get_or hs i 0) h, add-zero)

  pub place-past : i < length hs → get_or hs i 0 ≤ z → later_by i (place (drop i hs) z) ≡ later_by (i + 1) (place (drop (i + 1) hs) (z - get_or hs i 0))
  unfolding place
  place-past there h = rw (drop-cons hs i 0 there, le-ltb z (get_or hs i 0) h, later_more, add-one i)

  pub place_end : length hs ≤ i → later_by i (place (drop i hs) z) ≡ None
  unfolding place
  place_end h = rw (drop_past hs i h)
