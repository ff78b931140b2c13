-- The longest beginning that two texts share, and what it says of them.
use mathlib.Core.Path.{◌≡◌, refl, ap}
use mathlib.Core.Bool.{Bool, true, false}
use mathlib.Core.List.{List, [], ◌∷◌, ◌++◌}
use Prim.Native.Nat.{ℕ, zero, suc, ◌+◌, ◌<◌, ◌≤◌}
use native.Mathlib.Omega.{arith}
use lib.ListN.{length, take, drop, take-append-drop}
use lib.Dec.{eqb}
use borrow.Author.Tests.{eqb-true, eq-eqb, ne_eqb}
use Rattle.memory.specs.Word.{when◌then◌else◌}
use Rattle.mail_reader.specs.Reader.{common}
use Rattle.mail_texts.specs.Shared.{Begins}

-- after the same bytes
pub common-append : (h s t : List ℕ) → common (h ++ s) (h ++ t) ≡ length h + common s t
unfolding common
common-append [] s t = omega arith
common-append (a ∷ h) s t = rw (eq-eqb a a refl) (omega (arith, common-append h s t))

-- other bytes
pub common-other : (a b : ℕ) (s t : List ℕ) → (a ≡ b → ⊥) → common (a ∷ s) (b ∷ t) ≡ 0
unfolding common
common-other a b s t h = rw (ne_eqb a b h)

one_more : (a b : ℕ) (s t : List ℕ) (n : ℕ) → suc n ≤ common (a ∷ s) (b ∷ t) → (a ≡ b) × (n ≤ common s t)
unfolding common
one_more a b s t n h = by (eqb a b) refl h
  where
    by : (same : Bool) → eqb a b ≡ same → suc n ≤ (when same then suc (common s t) else 0) → (a ≡ b) × (n ≤ common s t)
    by true e l = (eqb-true a b e, omega arith)
    by false e l = absurd (omega arith)

-- a text that shares all of h with another one begins with h
pub begins-with : (h w t : List ℕ) → length h ≤ common w (h ++ t) → w ≡ h ++ drop (length h) w
unfolding common
begins-with [] w t l = refl
begins-with (a ∷ h) [] t l = absurd (omega arith)
begins-with (a ∷ h) (b ∷ w) t l =
    let p = one_more b a w (h ++ t) (length h) l in
    rw p.0 (ap (◌∷◌ a) (begins-with h w t p.1))

pub shares-all : (s t : List ℕ) → length s ≤ common s t → t ≡ s ++ drop (length s) t
unfolding common
shares-all [] t l = refl
shares-all (a ∷ s) [] l = absurd (omega arith)
shares-all (a ∷ s) (b ∷ t) l =
    let p = one_more a b s t (length s) l in
    rw p.0 (ap (◌∷◌ b) (shares-all s t p.1))

-- what follows a text that is not shared whole is not looked at
pub common-after : (s x t : List ℕ) → common s t < length s → common (s ++ x) t ≡ common s t
unfolding common
common-after [] x t l = absurd (omega arith)
common-after (a ∷ s) x [] l = refl
common-after (a ∷ s) x (b ∷ t) l = by (eqb a b) (λ h. common-after s x t h) l
  where
    by : (same : Bool) → (common s t < length s → common (s ++ x) t ≡ common s t) → (when same then suc (common s t) else 0) < suc (length s)
        → (when same then suc (common (s ++ x) t) else 0) ≡ (when same then suc (common s t) else 0)
    by true f k = ap suc (f (omega arith))
    by false f k = refl

pub common-grows : (s x t : List ℕ) → common s t ≤ common (s ++ x) t
unfolding common
common-grows [] x t = omega arith
common-grows (a ∷ s) x [] = omega arith
common-grows (a ∷ s) x (b ∷ t) = by (eqb a b) (common-grows s x t)
  where
    by : (same : Bool) → common s t ≤ common (s ++ x) t → (when same then suc (common s t) else 0) ≤ (when same then suc (common (s ++ x) t) else 0)
    by true k = omega arith
    by false k = omega arith

-- the beginning that both have, and that there is no longer one
take-common : (w t : List ℕ) → take (common w t) t ≡ take (common w t) w
unfolding common
take-common [] t = refl
take-common (a ∷ w) [] = refl
take-common (a ∷ w) (b ∷ t) = by (eqb a b) refl (take-common w t)
  where
    by : (same : Bool) → eqb a b ≡ same → take (common w t) t ≡ take (common w t) w
        → take (when same then suc (common w t) else 0) (b ∷ t) ≡ take (when same then suc (common w t) else 0) (a ∷ w)
    by true e k = rw (k, eqb-true a b e)
    by false e k = refl

pub shared-begins : (w t : List ℕ) → Begins (take (common w t) t) w
shared-begins w t = (drop (common w t) w, rw (take-common w t) (take-append-drop (common w t) w))

least : (m : ℕ) (t v : List ℕ) → m ≤ length t → m ≤ common (take m t ++ v) t
unfolding common
least zero t v l = omega arith
least (suc m) [] v l = absurd (omega arith)
least (suc m) (x ∷ t) v l = rw (eq-eqb x x refl) (omega (arith, least m t v (omega arith)))

pub begins-shared : (m : ℕ) (t w : List ℕ) → m ≤ length t → Begins (take m t) w → m ≤ common w t
begins-shared m t w l b = rw (← b.1) (least m t b.0 l)
