-- What holds of a reading's result, and of its refusal, on one memory.
use mathlib.Core.Path.{◌≡◌, refl, subst}
use mathlib.Core.Bool.{Bool, true, false}
use mathlib.Core.List.{List, [], ◌∷◌}
use Prim.Native.Nat.{ℕ, ◌+◌, ◌/◌}
use native.Mathlib.Omega.{arith}
use lib.ListN.{length, get_or}
use lib.Dec.{ltb}
use Rattle.memory.specs.declared.Fault.{Fault}
use Rattle.memory.specs.declared.Pointer.{Pointer}
use Rattle.memory.specs.Word.{when◌then◌else◌}
use Rattle.memory.specs.Reading.{Role, read_as, Ask, Reading, done, refuse, ask, absent, blaming, ◌>>=◌, check_of, Outcome, given, refused, run_from}
use Rattle.memory.proofs.ReadBounds.{if-cases}
use Rattle.holding.proofs.Holds as Shared

module _ (m : List ℕ) (Q : Fault → Type 0) where
  pub data Comes {A : Type 0} (P : A → Type 0) : Reading A → Type 0 where
    dones : {a : A} → P a → Comes P (done a)
    refuses : {x : Fault} → Q x → Comes P (refuse x)
    asks : {q : Ask} {f : ℕ → Reading A} → Q (absent q) → Comes P (f (get_or m (q.address / 2) 0)) → Comes P (ask q f)

  pub bind : {A B : Type 0} {P : A → Type 0} {R : B → Type 0} {p : Reading A} {k : A → Reading B} → Comes P p
      → ((a : A) → P a → Comes R (k a)) → Comes R (p >>= k)
  unfolding ◌>>=◌
  bind (dones {a} h) f = f a h
  bind (refuses h) f = refuses h
  bind (asks h g) f = asks h (bind g f)

  -- of what is known of every word
  pub from-shared : {A : Type 0} {P : A → Type 0} {p : Reading A} → Shared.Holds (λ q. Q (absent q)) (λ q w. w ≡ get_or m (q.address / 2) 0) Q P p → Comes P p
  from-shared (Shared.dones h) = dones h
  from-shared (Shared.refuses h) = refuses h
  from-shared (Shared.asks h g) = asks h (from-shared (g _ refl))

  -- what a word is read as is not looked at
  pub as-comes : {A : Type 0} {P : A → Type 0} (rs : List Role) {p : Reading A} → Comes P p → Comes P (read_as rs p)
  unfolding read_as
  as-comes [] h = h
  as-comes (r ∷ rs) (dones x) = dones x
  as-comes (r ∷ rs) (refuses x) = refuses x
  as-comes (r ∷ rs) (asks x g) = asks x (as-comes rs g)

  pub check-comes : {P : Unit {0} → Type 0} (n : ℕ) (p : Pointer) (b : Bool) → (b ≡ false → Q (blaming n p)) → (b ≡ true → P tt) → Comes P (check_of n p b)
  check-comes n p true h f = dones (f refl)
  check-comes n p false h f = refuses (h refl)

  -- a check and what comes after it
  pub check-then : {B : Type 0} {R : B → Type 0} (n : ℕ) (p : Pointer) (b : Bool) {k : Unit {0} → Reading B} → (b ≡ false → Q (blaming n p))
      → ((u : Unit {0}) → b ≡ true → Comes R (k u)) → Comes R (check_of n p b >>= k)
  unfolding ◌>>=◌
  check-then n p true h f = f tt refl
  check-then n p false h f = refuses (h refl)

  pub if-comes : {A : Type 0} {P : A → Type 0} (b : Bool) {p q : Reading A} → (b ≡ true → Comes P p) → (b ≡ false → Comes P q)
      → Comes P (when b then p else q)
  if-comes {P} b h k = if-cases (Comes P) b h k

  -- on the memory
  data Holds {A : Type 0} (P : A → Type 0) : Outcome A → Type 0 where
    of-given : {k : ℕ} {a : A} → P a → Holds P (given k a)
    of-refused : {x : Fault} → Q x → Holds P (refused x)

  holds : {A : Type 0} {P : A → Type 0} (n : ℕ) {p : Reading A} → Comes P p → Holds P (run_from n m p)
  unfolding run_from
  holds n (dones h) = of-given h
  holds n (refuses h) = of-refused h
  holds {P} n (asks {q} h g) = if-cases (Holds P) (ltb (q.address / 2) (length m)) (λ _. holds (n + 1) g) (λ _. of-refused h)

  pub comes-given : {A : Type 0} {P : A → Type 0} (n : ℕ) {p : Reading A} → Comes P p → {k : ℕ} {a : A} → run_from n m p ≡ given k a → P a
  comes-given {A} {P} n h e = out (holds n h) e
    where
      out : {o : Outcome A} {k : ℕ} {a : A} → Holds P o → o ≡ given k a → P a
      out {a} (of-given {a = x} h) e = let same : x ≡ a = cc in subst P same h
      out (of-refused h) e = let q : ◌≡◌ {A = ℕ} 0 1 = cc in absurd (omega arith)

  pub comes-refused : {A : Type 0} {P : A → Type 0} (n : ℕ) {p : Reading A} → Comes P p → {x : Fault} → run_from n m p ≡ refused x → Q x
  comes-refused {A} {P} n h e = out (holds n h) e
    where
      out : {o : Outcome A} {x : Fault} → Holds P o → o ≡ refused x → Q x
      out (of-given h) e = let q : ◌≡◌ {A = ℕ} 0 1 = cc in absurd (omega arith)
      out {x} (of-refused {x = y} h) e = let same : y ≡ x = cc in subst Q same h
