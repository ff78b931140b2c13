-- What is counted of two texts they begin with alike: a byte more at each pair of equal bytes.
use Prim.Native.Nat.{suc}
use Rattle.std.specs.Prelude.{ℕ, ◌≡◌, ◌+◌, List, [], ◌∷◌, refl}
use Rattle.std.proofs.Common.{arith, inl, inr}
use Rattle.std.proofs.lemmas.Bool.Decides.{eqb_tells}
use Rattle.vectors.specs.Counts.{alike, BeginAlike}

longer : {n : ℕ} (x y : ℕ) (a b : List ℕ) → x ≡ y → BeginAlike n a b → BeginAlike (1 + n) (x ∷ a) (y ∷ b)
longer {n} x y a b e h = let s : 1 + n ≡ suc n = omega arith in (omega arith, omega arith, rw (s, e, h.2))

pub begin_alike : (a b : List ℕ) → BeginAlike (alike a b) a b
begin_alike [] b = (omega arith, omega arith, refl)
begin_alike (x ∷ a) [] = (omega arith, omega arith, refl)
begin_alike (x ∷ a) (y ∷ b) = elim (eqb_tells x y) [
  | inl e ↦ rw e.0 (longer x y a b e.1 (begin_alike a b))
  | inr e ↦ rw e.0 (omega arith, omega arith, refl)
]
