-- Readings that ask alike: the same addresses, whatever the words are, and at the end the same refusal or related results.
use Rattle.std.proofs.Common.{ℕ, ◌+◌, ◌/◌, Bool, true, false, ltb, List, [], ◌∷◌, length, get_or}
use Rattle.memory.specs.declared.Fault.{Fault}
use Rattle.memory.specs.Word.{when◌then◌else◌}
use Rattle.memory.specs.Reading.{Ask, Reading, done, refuse, ask, ◌>>=◌, each, Outcome, given, refused, run_from}

pub data Rel {A B : Type 0} (R : A → B → Type 0) : Reading A → Reading B → Type 0 where
  dones : {a : A} {b : B} → R a b → Rel R (done a) (done b)
  refuses : {x : Fault} → Rel R (refuse x) (refuse x)
  asks : {q : Ask} {f : ℕ → Reading A} {g : ℕ → Reading B} → ((w : ℕ) → Rel R (f w) (g w)) → Rel R (ask q f) (ask q g)

-- one test for both: of readings, or of what they carry
pub if-rel : {A B : Type 0} (R : A → B → Type 0) (t : Bool) {a₁ a₂ : A} {b₁ b₂ : B} → R a₁ b₁ → R a₂ b₂
    → R (when t then a₁ else a₂) (when t then b₁ else b₂)
if-rel R true h k = h
if-rel R false h k = k

module _ {A B C D : Type 0} {R : A → B → Type 0} {S : C → D → Type 0} {k : A → Reading C} {h : B → Reading D} where
  pub bind : {p : Reading A} {q : Reading B} → Rel R p q → ((a : A) (b : B) → R a b → Rel S (k a) (h b)) → Rel S (p >>= k) (q >>= h)
  unfolding ◌>>=◌
  bind (dones {a} {b} r) f = f a b r
  bind refuses f = refuses
  bind (asks g) f = asks (λ w. bind (g w) f)

-- two that begin with one reading
module _ {A C D : Type 0} {S : C → D → Type 0} {k : A → Reading C} {h : A → Reading D} where
  pub bind-same : (p : Reading A) → ((a : A) → Rel S (k a) (h a)) → Rel S (p >>= k) (p >>= h)
  unfolding ◌>>=◌
  bind-same (done a) f = f a
  bind-same (refuse x) f = refuses
  bind-same (ask a g) f = asks (λ w. bind-same (g w) f)

pub each-rel : {X A B : Type 0} {R : A → B → Type 0} {k : X → A → Reading A} {h : X → B → Reading B}
    → ((x : X) (a : A) (b : B) → R a b → Rel R (k x a) (h x b))
    → (xs : List X) (a : A) (b : B) → R a b → Rel R (each k xs a) (each h xs b)
unfolding each
each-rel f [] a b r = dones r
each-rel f (x ∷ xs) a b r = bind (f x a b r) (each-rel f xs)

-- what they come to: the same count of words
pub data Ends {A B : Type 0} (R : A → B → Type 0) : Outcome A → Outcome B → Type 0 where
  givens : {n : ℕ} {a : A} {b : B} → R a b → Ends R (given n a) (given n b)
  refuseds : {x : Fault} → Ends R (refused x) (refused x)

pub run-rel : {A B : Type 0} {R : A → B → Type 0} (n : ℕ) (m : List ℕ) {p : Reading A} {q : Reading B}
    → Rel R p q → Ends R (run_from n m p) (run_from n m q)
unfolding run_from
run-rel n m (dones r) = givens r
run-rel n m refuses = refuseds
run-rel {R} n m (asks {q} g) =
    if-rel (Ends R) (ltb (q.address / 2) (length m)) (run-rel (n + 1) m (g (get_or m (q.address / 2) 0))) refuseds
