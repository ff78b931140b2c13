-- Readings that ask for the same addresses, on two memories: near ones go on alike after each word; opening ones begin with two words that
-- may differ. Where a pointer begins, and which refusal is met, is left open.
use mathlib.Core.Path.{◌≡◌, refl, ap, sym, ◌∙◌}
use mathlib.Core.Bool.{Bool, true, false}
use mathlib.Core.List.{List, [], ◌∷◌}
use Prim.Native.Nat.{ℕ, zero, suc, ◌+◌, ◌/◌}
use lib.ListN.{length, get_or, drop}
use lib.Dec.{ltb}
use Rattle.memory.specs.Word.{when◌then◌else◌}
use Rattle.memory.specs.declared.Fault.{Fault}
use Rattle.memory.specs.declared.Pointer.{Pointer}
use Rattle.memory.specs.Reading.{Role, Ask, Reading, done, refuse, ask, ◌>>=◌, read_as, one_pointer, check_of, Outcome, given, refused, run_from, run, asked}
use Rattle.memory.specs.Address.{next_word, words}
use Rattle.memory.proofs.Agree.{All, also, SameWord}

pub data Near {A B : Type 0} (R : A → B → Type 0) : Reading A → Reading B → Type 0 where
  dones : {a : A} {b : B} → R a b → Near R (done a) (done b)
  refuses : {x y : Fault} → Near R (refuse x) (refuse y)
  asks : {q r : Ask} {f : ℕ → Reading A} {g : ℕ → Reading B} → q.address ≡ r.address → ((w : ℕ) → Near R (f w) (g w)) → Near R (ask q f) (ask r g)

module _ {A B C D : Type 0} {R : A → B → Type 0} {S : C → D → Type 0} {h : A → Reading C} {k : B → Reading D} where
  pub bind : {p : Reading A} {q : Reading B} → Near R p q → ((a : A) (b : B) → R a b → Near S (h a) (k b)) → Near S (p >>= h) (q >>= k)
  unfolding ◌>>=◌
  bind (dones {a} {b} r) f = f a b r
  bind refuses f = refuses
  bind (asks e g) f = asks e (λ w. bind (g w) f)

-- two that begin with one reading
module _ {A C D : Type 0} {S : C → D → Type 0} {h : A → Reading C} {k : A → Reading D} where
  pub bind-same : (p : Reading A) → ((a : A) → Near S (h a) (k a)) → Near S (p >>= h) (p >>= k)
  unfolding ◌>>=◌
  bind-same (done a) f = f a
  bind-same (refuse x) f = refuses
  bind-same (ask q g) f = asks refl (λ w. bind-same (g w) f)

-- what a word is read as is not looked at
pub as-near : {A B : Type 0} {R : A → B → Type 0} (rs : List Role) {p : Reading A} {q : Reading B} → Near R p q → Near R (read_as rs p) (read_as rs q)
unfolding read_as
as-near [] h = h
as-near (r ∷ rs) (dones x) = dones x
as-near (r ∷ rs) refuses = refuses
as-near (r ∷ rs) (asks e g) = asks e (λ w. as-near rs (g w))

-- one check, whichever pointer it blames
pub check-near : (n : ℕ) (p q : Pointer) (b : Bool) → Near (λ _ _. Unit {0}) (check_of n p b) (check_of n q b)
check-near n p q true = dones tt
check-near n p q false = refuses

-- what they come to
pub data Outcomes {A B : Type 0} (R : A → B → Type 0) : Outcome A → Outcome B → Type 0 where
  givens : {n : ℕ} {a : A} {b : B} → R a b → Outcomes R (given n a) (given n b)
  refuseds : {x y : Fault} → Outcomes R (refused x) (refused y)

-- Two that begin with the words at the addresses a and b, whatever those are: R relates the results, from both pairs of words.
pub data Opens {A B : Type 0} (a b : ℕ) (R : ℕ → ℕ → ℕ → ℕ → A → B → Type 0) : Reading A → Reading B → Type 0 where
  opens : {q₁ q₂ r₁ r₂ : Ask} {f : ℕ → ℕ → Reading A} {g : ℕ → ℕ → Reading B}
      → q₁.address ≡ a → q₂.address ≡ b → r₁.address ≡ a → r₂.address ≡ b
      → ((w₁ w₂ v₁ v₂ : ℕ) → Near (R w₁ w₂ v₁ v₂) (f w₁ w₂) (g v₁ v₂))
      → Opens a b R (ask q₁ (λ w. ask q₂ (f w))) (ask r₁ (λ v. ask r₂ (g v)))

module _ {A B C D : Type 0} {a b : ℕ} {R : ℕ → ℕ → ℕ → ℕ → A → B → Type 0} {S : ℕ → ℕ → ℕ → ℕ → C → D → Type 0}
    {h : A → Reading C} {k : B → Reading D} where
  pub open-bind : {p : Reading A} {q : Reading B} → Opens a b R p q
      → ((w₁ w₂ v₁ v₂ : ℕ) (x : A) (y : B) → R w₁ w₂ v₁ v₂ x y → Near (S w₁ w₂ v₁ v₂) (h x) (k y)) → Opens a b S (p >>= h) (q >>= k)
  unfolding ◌>>=◌
  open-bind (opens {f} {g} e₁ e₂ e₃ e₄ n) c =
      opens {f = λ w v. f w v >>= h} {g = λ w v. g w v >>= k} e₁ e₂ e₃ e₄ (λ w₁ w₂ v₁ v₂. bind (n w₁ w₂ v₁ v₂) (c w₁ w₂ v₁ v₂))

-- what a word is read as is not looked at: the first two are a pointer
pub as-opens : {A B : Type 0} {a b : ℕ} {R : ℕ → ℕ → ℕ → ℕ → A → B → Type 0} {p : Reading A} {q : Reading B}
    → Opens a b R p q → Opens a b R (read_as one_pointer p) (read_as one_pointer q)
unfolding read_as
as-opens (opens {f} {g} e₁ e₂ e₃ e₄ n) = opens {f = f} {g = g} e₁ e₂ e₃ e₄ n

-- near with other words in the relation; and near, where both find the same two words
pub weaken : {A B : Type 0} {R S : A → B → Type 0} {p : Reading A} {q : Reading B} → ((x : A) (y : B) → R x y → S x y) → Near R p q → Near S p q
weaken f (dones {a} {b} r) = dones (f a b r)
weaken f refuses = refuses
weaken f (asks e g) = asks e (λ w. weaken f (g w))

pub open-near : {A B : Type 0} {a b : ℕ} {R : ℕ → ℕ → ℕ → ℕ → A → B → Type 0} {S : A → B → Type 0} {p : Reading A} {q : Reading B}
    → ((w v : ℕ) (x : A) (y : B) → R w v w v x y → S x y) → Opens a b R p q → Near S p q
open-near f (opens e₁ e₂ e₃ e₄ n) = asks (e₁ ∙ sym e₃) λ w. asks (e₂ ∙ sym e₄) λ v. weaken (f w v) (n w v w v)

module _ (old new : List ℕ) (len : length old ≡ length new) where
  -- one word, at an address that both ask for
  turn : {A B : Type 0} {R : A → B → Type 0} (t : Bool) (a n : ℕ) (f : ℕ → Reading A) (g : ℕ → Reading B) (x y : Fault)
      → ((w : ℕ) → All (SameWord old new) (asked new (g w)) → Outcomes R (run_from (n + 1) old (f w)) (run_from (n + 1) new (g w)))
      → All (SameWord old new) (a ∷ (when t then asked new (g (get_or new (a / 2) 0)) else []))
      → Outcomes R (when t then run_from (n + 1) old (f (get_or old (a / 2) 0)) else refused x) (when t then run_from (n + 1) new (g (get_or new (a / 2) 0)) else refused y)
  turn true a n f g x y h (also e k) = rw e (h (get_or new (a / 2) 0) k)
  turn false a n f g x y h k = refuseds

  pub run-near : {A B : Type 0} {R : A → B → Type 0} {p : Reading A} {q : Reading B} (n : ℕ) → Near R p q
      → All (SameWord old new) (asked new q) → Outcomes R (run_from n old p) (run_from n new q)
  unfolding run_from asked
  run-near n (dones r) h = givens r
  run-near n refuses h = refuseds
  run-near n (asks {q} {r} {f} {g} e k) h =
      rw (e, len) (turn (ltb (r.address / 2) (length new)) r.address n f g _ _ (λ w i. run-near (n + 1) (k w) i) h)

  -- one word that may differ
  skip : {A B : Type 0} {R : A → B → Type 0} (t : Bool) (k a : ℕ) (o : Outcome A) (u : Outcome B) (x y : Fault) (rest : List ℕ)
      → (All (SameWord old new) (drop k rest) → Outcomes R o u)
      → All (SameWord old new) (drop (suc k) (a ∷ (when t then rest else []))) → Outcomes R (when t then o else refused x) (when t then u else refused y)
  skip true k a o u x y rest h i = h i
  skip false k a o u x y rest h i = refuseds

  pub run-opens : {A B : Type 0} {a b : ℕ} {R : ℕ → ℕ → ℕ → ℕ → A → B → Type 0} {p : Reading A} {q : Reading B} → Opens a b R p q
      → All (SameWord old new) (drop 2 (asked new q))
      → Outcomes (R (get_or old (a / 2) 0) (get_or old (b / 2) 0) (get_or new (a / 2) 0) (get_or new (b / 2) 0)) (run old p) (run new q)
  unfolding run_from asked
  run-opens {a} {b} (opens e₁ e₂ e₃ e₄ n) h =
      rw (e₁, e₂, e₃, e₄, len)
      (skip (ltb (a / 2) (length new)) 1 a _ _ _ _ _
      (λ i. skip (ltb (b / 2) (length new)) 0 b _ _ _ _ _ (λ j. run-near 2 (n _ _ _ _) j) i) (rw (e₃, e₄) at h))

-- ---- words one after the other ----

-- a pointer in use, by its address and where it begins
abbrev pub at : ℕ → ℕ → Pointer
at a from = record { address = a; from = from }

pub words-near : (linear : Bool) (k a x y : ℕ) → Near (λ (us vs : List ℕ). us ≡ vs) (words linear k (at a x)) (words linear k (at a y))
unfolding words ◌>>=◌
words-near linear zero a x y = dones refl
words-near linear (suc k) a x y =
    asks refl λ w. bind (words-near linear k (next_word linear a) x y) λ us vs e. dones (ap (◌∷◌ w) e)

-- the same but for the first; but for the first two
data FromSecond (w v : ℕ) : List ℕ → List ℕ → Type 0 where
  from_second : (rest : List ℕ) → FromSecond w v (w ∷ rest) (v ∷ rest)

pub data FromThird (w₁ w₂ v₁ v₂ : ℕ) : List ℕ → List ℕ → Type 0 where
  from_third : (rest : List ℕ) → FromThird w₁ w₂ v₁ v₂ (w₁ ∷ w₂ ∷ rest) (v₁ ∷ v₂ ∷ rest)

second : (w v : ℕ) (us vs : List ℕ) → us ≡ vs → FromSecond w v (w ∷ us) (v ∷ vs)
second w v us vs e = rw e (from_second vs)

third : (w₁ w₂ v₁ v₂ : ℕ) {us vs : List ℕ} → FromSecond w₂ v₂ us vs → FromThird w₁ w₂ v₁ v₂ (w₁ ∷ us) (v₁ ∷ vs)
third w₁ w₂ v₁ v₂ (from_second rest) = from_third rest

pub words_open : (linear : Bool) (k a x y : ℕ)
    → Opens a (next_word linear a) FromThird (words linear (suc (suc k)) (at a x)) (words linear (suc (suc k)) (at a y))
unfolding words ◌>>=◌
words_open linear k a x y =
    opens refl refl refl refl λ w₁ w₂ v₁ v₂.
    bind {R = FromSecond w₂ v₂}
    (bind (words-near linear k (next_word linear (next_word linear a)) x y) λ us vs e. dones (second w₂ v₂ us vs e))
    λ us vs r. dones (third w₁ w₂ v₁ v₂ r)
