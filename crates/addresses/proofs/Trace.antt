-- A reading that comes to a result, with the addresses that it asked for on the way: what its parts ask for, one after the other.
use mathlib.Core.Path.{◌≡◌, refl, ap, ap₂, ◌∙◌}
use mathlib.Core.Bool.{Bool, true, false}
use mathlib.Core.List.{List, [], ◌∷◌, ◌++◌, append-nil}
use Prim.Native.Nat.{ℕ, ◌+◌, ◌/◌}
use native.Mathlib.Omega.{arith}
use lib.ListN.{length, get_or}
use lib.Dec.{ltb}
use Rattle.memory.specs.Word.{when◌then◌else◌}
use Rattle.memory.specs.declared.Fault.{Fault}
use Rattle.memory.specs.declared.Pointer.{Pointer}
use Rattle.memory.specs.Reading.{Role, read_as, Ask, Reading, nobody, done, refuse, ask, absent, ◌>>=◌, check, check_of, given, refused, run_from, asked}
use Rattle.memory.proofs.ReadBounds.{Words}
use Rattle.memory.proofs.Gives.{Gives}

pub data Trace {A : Type 0} (m : List ℕ) : Reading A → List ℕ → A → Type 0 where
  dones : {a : A} → Trace m (done a) [] a
  asks : {q : Ask} {f : ℕ → Reading A} {xs : List ℕ} {a : A}
      → Trace m (f (get_or m (q.address / 2) 0)) xs a → Trace m (ask q f) (q.address ∷ xs) a

turn : {A : Type 0} (b : Bool) (n : ℕ) (m : List ℕ) (q : Ask) (f : ℕ → Reading A) {k : ℕ} {a : A}
    → (run_from n m (f (get_or m (q.address / 2) 0)) ≡ given k a → Trace m (f (get_or m (q.address / 2) 0)) (asked m (f (get_or m (q.address / 2) 0))) a)
    → (when b then run_from n m (f (get_or m (q.address / 2) 0)) else refused (absent q)) ≡ given k a
    → Trace m (ask q f) (q.address ∷ (when b then asked m (f (get_or m (q.address / 2) 0)) else [])) a
turn true n m q f rest e = asks (rest e)
turn false n m q f rest e = let z : ◌≡◌ {A = ℕ} 0 1 = cc in absurd (omega arith)

-- a reading that was accepted asked for these
pub trace-of : {A : Type 0} (n : ℕ) (m : List ℕ) (p : Reading A) {k : ℕ} {a : A} → run_from n m p ≡ given k a → Trace m p (asked m p) a
unfolding run_from asked
trace-of n m (done b) {a = a} e = let same : b ≡ a = cc in rw same dones
trace-of n m (refuse x) e = let q : ◌≡◌ {A = ℕ} 0 1 = cc in absurd (omega arith)
trace-of n m (ask q f) e =
    turn (ltb (q.address / 2) (length m)) (n + 1) m q f (trace-of (n + 1) m (f (get_or m (q.address / 2) 0))) e

-- one that asks for nothing
pub trace-done : {A : Type 0} {m : List ℕ} {a b : A} {xs : List ℕ} → Trace m (done a) xs b → (xs ≡ []) × (a ≡ b)
trace-done dones = (refl, refl)

-- one that was refused did not come to a result
pub no-refusal : {A : Type 0} {m : List ℕ} {x : Fault} {xs : List ℕ} {a : A} → Trace m (refuse x) xs a → ⊥
no-refusal t = no t refl
  where
    refuses : {A : Type 0} → Reading A → Bool
    refuses (refuse x) = true
    refuses (done a) = false
    refuses (ask q f) = false

    no : {A : Type 0} {m : List ℕ} {r : Reading A} {xs : List ℕ} {a : A} → Trace m r xs a → refuses r ≡ true → ⊥
    no dones e = let q : ◌≡◌ {A = ℕ} 0 1 = cc in omega arith
    no (asks t) e = let q : ◌≡◌ {A = ℕ} 0 1 = cc in omega arith

-- the two parts of a reading that goes on with another
pub record Parts {A B : Type 0} (m : List ℕ) (p : Reading A) (k : A → Reading B) (xs : List ℕ) (b : B) : Type 0 where
  pub front : List ℕ
  pub rest : List ℕ
  pub result : A
  pub one : Trace m p front result
  pub two : Trace m (k result) rest b
  pub sum : xs ≡ front ++ rest

pub parts : {A B : Type 0} {m : List ℕ} (p : Reading A) (k : A → Reading B) {xs : List ℕ} {b : B} → Trace m (p >>= k) xs b → Parts m p k xs b
unfolding ◌>>=◌
parts (done a) k {xs} t = record { front = []; rest = xs; result = a; one = dones; two = t; sum = refl }
parts (refuse x) k t = absurd (no-refusal t)
parts {m} (ask q f) k (asks t) =
    let r = parts (f (get_or m (q.address / 2) 0)) k t in
    record { front = q.address ∷ r.front; rest = r.rest; result = r.result; one = asks r.one; two = r.two; sum = ap (◌∷◌ q.address) r.sum }

-- addresses of two parts, and of one with nothing after it
pub joined : {us xs ys zs ws : List ℕ} → us ≡ xs ++ ys → xs ≡ zs → ys ≡ ws → us ≡ zs ++ ws
joined e f g = e ∙ ap₂ (◌++◌) f g

pub alone : {us xs ys zs : List ℕ} → us ≡ xs ++ ys → xs ≡ zs → ys ≡ [] → us ≡ zs
alone {zs} e f g = joined e f g ∙ append-nil zs

-- what holds of every result holds of this one
pub trace-gives : {A : Type 0} {P : A → Type 0} {m : List ℕ} → Words m → {p : Reading A} {xs : List ℕ} {a : A} → Gives P p → Trace m p xs a → P a
trace-gives b (Gives.dones h) dones = h
trace-gives b Gives.refuses t = absurd (no-refusal t)
trace-gives {m} b (Gives.asks g) (asks {q} t) = trace-gives b (g (get_or m (q.address / 2) 0) (b (q.address / 2))) t

-- a reading has one trace
pub trace-same : {A : Type 0} {m : List ℕ} {p : Reading A} {xs ys : List ℕ} {a b : A} → Trace m p xs a → Trace m p ys b → (xs ≡ ys) × (a ≡ b)
trace-same dones dones = (refl, refl)
trace-same (asks {q} t) (asks u) = let r = trace-same t u in (ap (◌∷◌ q.address) r.0, r.1)

-- a check asks for nothing
pub trace-check-of : {A : Type 0} {m : List ℕ} (n : ℕ) (p : Pointer) (t : Bool) (k : Unit {0} → Reading A) {xs : List ℕ} {a : A}
    → Trace m (check_of n p t >>= k) xs a → (t ≡ true) × Trace m (k tt) xs a
unfolding ◌>>=◌
trace-check-of n p true k t = (refl, t)
trace-check-of n p false k t = absurd (no-refusal t)

pub trace-check : {A : Type 0} {m : List ℕ} (n : ℕ) (t : Bool) (k : Unit {0} → Reading A) {xs : List ℕ} {a : A} → Trace m (check n t >>= k) xs a
    → (t ≡ true) × Trace m (k tt) xs a
trace-check n t k u = trace-check-of n nobody t k u

-- what a word is read as is not looked at
pub trace-as : {A : Type 0} {m : List ℕ} (rs : List Role) (p : Reading A) {xs : List ℕ} {a : A} → Trace m (read_as rs p) xs a → Trace m p xs a
unfolding read_as
trace-as [] p t = t
trace-as (r ∷ rs) (done a) t = t
trace-as (r ∷ rs) (refuse x) t = t
trace-as (r ∷ rs) (ask q f) (asks t) = asks (trace-as rs _ t)
