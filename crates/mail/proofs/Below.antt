-- A property of each number below a bound, one after the other.
use mathlib.Core.Path.{◌≡◌}
use Prim.Native.Nat.{ℕ, zero, suc, ◌<◌}
use native.Mathlib.Omega.{arith}
use native.Mathlib.Decide.{ℕ_discrete}

abbrev pub Below : (ℕ → Type 0) → ℕ → Type 0
Below P zero = Unit {0}
Below P (suc n) = P n × Below P n

pub below : (P : ℕ → Type 0) (n : ℕ) → Below P n → (i : ℕ) → i < n → P i
below P zero h i l = absurd (omega arith)
below P (suc n) h i l = by (ℕ_discrete i n) (λ k. below P n h.1 i k)
  where
    by : Dec (i ≡ n) → (i < n → P i) → P i
    by (yes e) k = rw e h.0
    by (no f) k = k (omega arith)
