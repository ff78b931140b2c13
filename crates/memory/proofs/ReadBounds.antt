-- How many words a reading asks for at most, and what holds of its result, where every word has 16 bits.
use Rattle.std.proofs.Common.{◌≡◌, ℕ, zero, suc, ◌+◌, ◌/◌, ◌<◌, ◌≤◌, Bool, true, false, ◌&&◌, ltb, List, [], ◌∷◌, length, get_or, refl, ap, subst, zero-le, le_refl, arith, lit<}
use mathlib.Core.Bool.{and-eq-true_iff}
use Rattle.memory.specs.Word.{when◌then◌else◌}
use Rattle.memory.specs.Reading.{Ask, Reading, done, refuse, ask, ◌>>=◌, check, check_of, nobody, Outcome, given, refused, run_from, asked}
use Rattle.memory.specs.declared.Fault.{Fault}
use Rattle.memory.specs.declared.Pointer.{Pointer}
use Rattle.memory.specs.Address.{onward, words}

-- every word of a list has 16 bits
abbrev pub Words : List ℕ → Type 0
Words ws = (i : ℕ) → get_or ws i 0 < 65536

-- at most n words are asked for, and P holds of the result
pub data Reads {A : Type 0} (P : A → Type 0) : ℕ → Reading A → Type 0 where
  dones : {n : ℕ} {a : A} → P a → Reads P n (done a)
  refuses : {n : ℕ} {x : Fault} → Reads P n (refuse x)
  asks : {n k : ℕ} {q : Ask} {f : ℕ → Reading A} → k < n → ((w : ℕ) → w < 65536 → Reads P k (f w)) → Reads P n (ask q f)

pub weaken : {A : Type 0} {P : A → Type 0} {n k : ℕ} {p : Reading A} → n ≤ k → Reads P n p → Reads P k p
weaken l (dones h) = dones h
weaken l refuses = refuses
weaken {k} l (asks {k = i} h g) = asks {n = k} {k = i} (omega arith) g

pub implies : {A : Type 0} {P Q : A → Type 0} {n : ℕ} {p : Reading A} → ((a : A) → P a → Q a) → Reads P n p → Reads Q n p
implies f (dones {a} h) = dones (f a h)
implies f refuses = refuses
implies f (asks l g) = asks l (λ w y. implies f (g w y))

module _ {A B : Type 0} {P : A → Type 0} {Q : B → Type 0} {h : A → Reading B} where
  pub bind : {n k t : ℕ} {p : Reading A} → n + k ≤ t → Reads P n p → ((a : A) → P a → Reads Q k (h a)) → Reads Q t (p >>= h)
  unfolding ◌>>=◌
  bind l (dones {a} x) f = weaken (omega arith) (f a x)
  bind l refuses f = refuses
  bind {n} {k} {t} l (asks {k = i} x g) f = asks {n = t} {k = i + k} (omega arith) (λ w y. bind (le_refl (i + k)) (g w y) f)

pub check-of-reads : (n : ℕ) (p : Pointer) (b : Bool) → Reads (λ _. b ≡ true) 0 (check_of n p b)
check-of-reads n p true = dones refl
check-of-reads n p false = refuses

pub check-reads : (n : ℕ) (b : Bool) → Reads (λ _. b ≡ true) 0 (check n b)
check-reads n b = check-of-reads n nobody b

pub if-cases : {A : Type 0} (P : A → Type 0) (b : Bool) {x y : A} → (b ≡ true → P x) → (b ≡ false → P y) → P (when b then x else y)
if-cases P true h k = h refl
if-cases P false h k = k refl

pub if-reads : {A : Type 0} {P : A → Type 0} {n : ℕ} (b : Bool) {p q : Reading A}
    → (b ≡ true → Reads P n p) → (b ≡ false → Reads P n q) → Reads P n (when b then p else q)
if-reads {P} {n} b h k = if-cases (Reads P n) b h k

-- the two tests of a check
pub both : (a b : Bool) → a && b ≡ true → (a ≡ true) × (b ≡ true)
both a b h = (and-eq-true_iff a b).0 h

-- words one after the other: as many as asked for
no_words : Words []
no_words i = lit< tt

more-words : (w : ℕ) (ws : List ℕ) → w < 65536 → Words ws → Words (w ∷ ws)
more-words w ws h k zero = h
more-words w ws h k (suc i) = k i

pub words-read : (linear : Bool) (k : ℕ) (p : Pointer) → Reads (λ ws. Words ws × (length ws ≡ k)) k (words linear k p)
unfolding words ◌>>=◌
words-read linear zero p = dones (no_words, refl)
words-read linear (suc k) p =
    asks (le_refl (suc k)) λ w h.
    bind {k = 0} (omega arith) (words-read linear k (onward linear p)) λ ws hs. dones (more-words w ws h hs.0, ap suc hs.1)

-- what it comes to on a memory of such words
pub data Within {A : Type 0} (P : A → Type 0) (t : ℕ) : Outcome A → Type 0 where
  given-within : {k : ℕ} {a : A} → k ≤ t → P a → Within P t (given k a)
  refused-within : {x : Fault} → Within P t (refused x)

pub run-reads : {A : Type 0} {P : A → Type 0} {n : ℕ} (w : ℕ) (m : List ℕ) → Words m → {p : Reading A} {t : ℕ} → w + n ≤ t
    → Reads P n p → Within P t (run_from w m p)
unfolding run_from
run-reads w m b l (dones h) = given-within {k = w} (omega arith) h
run-reads w m b l refuses = refused-within
run-reads {P} w m b {t} l (asks {q} h g) =
    if-cases (Within P t) (ltb (q.address / 2) (length m))
    (λ _. run-reads (w + 1) m b (omega arith) (g (get_or m (q.address / 2) 0) (b (q.address / 2)))) (λ _. refused-within)

pub reads-given : {A : Type 0} {P : A → Type 0} {n : ℕ} (w : ℕ) (m : List ℕ) → Words m → {p : Reading A} → Reads P n p
    → {k : ℕ} {a : A} → run_from w m p ≡ given k a → (k ≤ w + n) × P a
reads-given {A} {P} {n} w m b r e = out (run-reads w m b (le_refl (w + n)) r) e
  where
    out : {o : Outcome A} {k : ℕ} {a : A} → Within P (w + n) o → o ≡ given k a → (k ≤ w + n) × P a
    out {k} {a} (given-within {k = i} {a = x} l h) e =
        let words : i ≡ k = cc in
        let result : x ≡ a = cc in
        (omega arith, subst P result h)
    out refused-within e = let q : ◌≡◌ {A = ℕ} 0 1 = cc in absurd (omega arith)

-- on such a memory it asks for no more words, a missing one included, whether it comes to a result or is refused
pub reads-asked : {A : Type 0} {P : A → Type 0} {n : ℕ} (m : List ℕ) → Words m → {p : Reading A} → Reads P n p → length (asked m p) ≤ n
unfolding asked
reads-asked m b (dones h) = zero-le
reads-asked m b refuses = zero-le
reads-asked {n} m b (asks {k} {q} h g) =
    if-cases (λ (l : List ℕ). suc (length l) ≤ n) (ltb (q.address / 2) (length m))
    (λ _. omega (arith, reads-asked m b (g (get_or m (q.address / 2) 0) (b (q.address / 2))))) (λ _. omega arith)
