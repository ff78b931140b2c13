-- What holds of a reading's result, where every word has 16 bits.
use Rattle.std.proofs.Common.{◌≡◌, ℕ, ◌+◌, ◌/◌, ◌<◌, Bool, true, false, ltb, List, [], ◌∷◌, length, get_or, refl, subst, arith}
use Rattle.memory.specs.Word.{when◌then◌else◌}
use Rattle.memory.specs.declared.Fault.{Fault}
use Rattle.memory.specs.declared.Pointer.{Pointer}
use Rattle.memory.specs.Reading.{Ask, Reading, done, refuse, ask, ◌>>=◌, check_of, each, Outcome, given, refused, run_from}
use Rattle.memory.proofs.ReadBounds.{Words, Reads, if-cases}
use Rattle.memory.proofs.ReadBounds as Bounds

pub data Gives {A : Type 0} (P : A → Type 0) : Reading A → Type 0 where
  dones : {a : A} → P a → Gives P (done a)
  refuses : {x : Fault} → Gives P (refuse x)
  asks : {q : Ask} {f : ℕ → Reading A} → ((w : ℕ) → w < 65536 → Gives P (f w)) → Gives P (ask q f)

module _ {A B : Type 0} {P : A → Type 0} {Q : B → Type 0} {h : A → Reading B} where
  pub bind : {p : Reading A} → Gives P p → ((a : A) → P a → Gives Q (h a)) → Gives Q (p >>= h)
  unfolding ◌>>=◌
  bind (dones {a} x) f = f a x
  bind refuses f = refuses
  bind (asks g) f = asks λ w y. bind (g w y) f

pub check-gives : (n : ℕ) (p : Pointer) (b : Bool) → Gives (λ _. b ≡ true) (check_of n p b)
check-gives n p true = dones refl
check-gives n p false = refuses

pub if-gives : {A : Type 0} {P : A → Type 0} (b : Bool) {p q : Reading A}
    → (b ≡ true → Gives P p) → (b ≡ false → Gives P q) → Gives P (when b then p else q)
if-gives {P} b h k = if-cases (Gives P) b h k

-- one after the other, each keeping what holds
pub each-gives : {X A : Type 0} {P : A → Type 0} {f : X → A → Reading A} → ((x : X) (a : A) → P a → Gives P (f x a))
    → (xs : List X) (a : A) → P a → Gives P (each f xs a)
unfolding each
each-gives h [] a k = dones k
each-gives h (x ∷ xs) a k = bind (h x a k) (each-gives h xs)

-- a bound on the words says it too
pub reads-give : {A : Type 0} {P : A → Type 0} {n : ℕ} {p : Reading A} → Reads P n p → Gives P p
reads-give (Bounds.dones h) = dones h
reads-give Bounds.refuses = refuses
reads-give (Bounds.asks l g) = asks λ w y. reads-give (g w y)

-- on a memory of such words
data Holds {A : Type 0} (P : A → Type 0) : Outcome A → Type 0 where
  of-given : {k : ℕ} {a : A} → P a → Holds P (given k a)
  of-refused : {x : Fault} → Holds P (refused x)

run_holds : {A : Type 0} {P : A → Type 0} (n : ℕ) (m : List ℕ) → Words m → {p : Reading A} → Gives P p → Holds P (run_from n m p)
unfolding run_from
run_holds n m b (dones h) = of-given h
run_holds n m b refuses = of-refused
run_holds {P} n m b (asks {q} g) =
    if-cases (Holds P) (ltb (q.address / 2) (length m))
    (λ _. run_holds (n + 1) m b (g (get_or m (q.address / 2) 0) (b (q.address / 2)))) (λ _. of-refused)

pub run-gives : {A : Type 0} {P : A → Type 0} (n : ℕ) (m : List ℕ) → Words m → {p : Reading A} → Gives P p
    → {k : ℕ} {a : A} → run_from n m p ≡ given k a → P a
run-gives {A} {P} n m b h e = out (run_holds n m b h) e
  where
    out : {o : Outcome A} {k : ℕ} {a : A} → Holds P o → o ≡ given k a → P a
    out {a} (of-given {a = x} h) e = let same : x ≡ a = cc in subst P same h
    out of-refused e = let q : ◌≡◌ {A = ℕ} 0 1 = cc in absurd (omega arith)
