-- The turn, word by word: what stands before word i is turned, and what changed is counted.
use mathlib.Core.Path.{◌≡◌, refl, ap, sym, ◌∙◌}
use mathlib.Core.List.{List, [], ◌∷◌}
use Prim.Native.Nat.{ℕ, zero, suc, ◌+◌, ◌<◌}
use native.Mathlib.Omega.{arith}
use native.Mathlib.Nat.{add_assoc}
use native.Mathlib.Numerals.{add-one}
use lib.ListN.{length, get_or, set, take}
use borrow.Author.Tests.{eq-eqb}
use Rattle.converter.specs.Converter.{turned, turned_memory, change, changes}

-- before any word
pub turned_none : (m : List ℕ) → turned_memory [] m ≡ m
unfolding turned_memory
turned_none [] = refl
turned_none (w ∷ m) = refl

kept : (w : ℕ) → change w w ≡ 0
kept w = rw (eq-eqb w w refl)

pub changes-none : (m : List ℕ) → changes m m ≡ 0
unfolding changes
changes-none [] = refl
changes-none (w ∷ m) = rw (kept w, changes-none m)

-- word i is not turned yet
pub turned-at : (i : ℕ) (ks m : List ℕ) → get_or (turned_memory (take i ks) m) i 0 ≡ get_or m i 0
unfolding turned_memory
turned-at i ks [] = refl
turned-at zero ks (w ∷ m) = refl
turned-at (suc i) [] (w ∷ m) = refl
turned-at (suc i) (k ∷ ks) (w ∷ m) = turned-at i ks m

-- one word more
more : (i : ℕ) (ks m : List ℕ) → i < length ks → i < length m
    → set (turned_memory (take i ks) m) i (turned (get_or ks i 0) (get_or m i 0)) ≡ turned_memory (take (suc i) ks) m
unfolding turned_memory
more i ks [] h l = absurd (omega arith)
more i [] (w ∷ m) h l = absurd (omega arith)
more zero (k ∷ ks) (w ∷ m) h l = ap (λ (xs : List ℕ). turned k w ∷ xs) (sym (turned_none m))
more (suc i) (k ∷ ks) (w ∷ m) h l = ap (λ (xs : List ℕ). turned k w ∷ xs) (more i ks m (omega arith) (omega arith))

pub turned_more : (i : ℕ) (ks m : List ℕ) → i < length ks → i < length m
    → set (turned_memory (take i ks) m) i (turned (get_or ks i 0) (get_or m i 0)) ≡ turned_memory (take (i + 1) ks) m
turned_more i ks m h l = more i ks m h l ∙ rw (add-one i)

-- a word that stood as it was takes another: one change more, where it is one
pub changes-more : (i v : ℕ) (m n : List ℕ) → i < length m → length n ≡ length m → get_or n i 0 ≡ get_or m i 0
    → changes m (set n i v) ≡ changes m n + change (get_or m i 0) v
unfolding changes
changes-more i v [] n l e h = absurd (omega arith)
changes-more i v (w ∷ m) [] l e h = absurd (omega arith)
changes-more zero v (w ∷ m) (x ∷ n) l e h = let same : change w x ≡ 0 = rw h (kept w) in omega arith
changes-more (suc i) v (w ∷ m) (x ∷ n) l e h =
    ap (λ (k : ℕ). change w x + k) (changes-more i v m n (omega arith) (omega arith) h) ∙ sym (add_assoc (change w x) (changes m n) (change (get_or m i 0) v))
