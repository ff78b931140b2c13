-- What holds of a reading: Q of each question that it asks, F of each refusal of its own, P of its result, where K is known of each word
-- that answers a question. One law for each way to make a reading of others.
use mathlib.Core.Path.{◌≡◌, refl}
use mathlib.Core.Bool.{Bool, true, false}
use mathlib.Core.List.{List, [], ◌∷◌}
use Prim.Native.Nat.{ℕ}
use Rattle.memory.specs.declared.Fault.{Fault}
use Rattle.memory.specs.declared.Pointer.{Pointer}
use Rattle.memory.specs.Word.{when◌then◌else◌}
use Rattle.memory.specs.Reading.{Role, Ask, Reading, done, refuse, ask, blaming, ◌>>=◌, in_role, read_as, check_of, each}
use Rattle.memory.proofs.ReadBounds.{if-cases}

-- a fact of each of a list
abbrev pub Each : {X : Type 0} → (X → Type 0) → List X → Type 0
Each S [] = Unit
Each S (x ∷ xs) = S x × Each S xs

pub data Holds {A : Type 0} (Q : Ask → Type 0) (K : Ask → ℕ → Type 0) (F : Fault → Type 0) (P : A → Type 0) : Reading A → Type 0 where
  dones : {a : A} → P a → Holds Q K F P (done a)
  refuses : {x : Fault} → F x → Holds Q K F P (refuse x)
  asks : {q : Ask} {f : ℕ → Reading A} → Q q → ((w : ℕ) → K q w → Holds Q K F P (f w)) → Holds Q K F P (ask q f)

module _ {Q : Ask → Type 0} {K : Ask → ℕ → Type 0} {F : Fault → Type 0} where
  pub bind : {A B : Type 0} {P : A → Type 0} {R : B → Type 0} {h : A → Reading B} {p : Reading A}
      → Holds Q K F P p → ((a : A) → P a → Holds Q K F R (h a)) → Holds Q K F R (p >>= h)
  unfolding ◌>>=◌
  bind (dones {a} x) f = f a x
  bind (refuses e) f = refuses e
  bind (asks x g) f = asks x λ w y. bind (g w y) f

  pub check-holds : {P : Unit {0} → Type 0} (n : ℕ) (p : Pointer) (b : Bool) → (b ≡ false → F (blaming n p)) → (b ≡ true → P tt) → Holds Q K F P (check_of n p b)
  check-holds n p true h f = dones (f refl)
  check-holds n p false h f = refuses (h refl)

  -- a check and what comes after it, which knows that the check was met
  pub check-then : {B : Type 0} {R : B → Type 0} (n : ℕ) (p : Pointer) (b : Bool) {k : Unit {0} → Reading B} → (b ≡ false → F (blaming n p))
      → ((u : Unit {0}) → b ≡ true → Holds Q K F R (k u)) → Holds Q K F R (check_of n p b >>= k)
  unfolding ◌>>=◌
  check-then n p true h f = f tt refl
  check-then n p false h f = refuses (h refl)

  -- what a word is read as is not looked at
  pub as-holds : ((q : Ask) (r : Role) → Q q → Q (in_role r q)) → ((q : Ask) (r : Role) (w : ℕ) → K (in_role r q) w → K q w)
      → {A : Type 0} {P : A → Type 0} (rs : List Role) {p : Reading A} → Holds Q K F P p → Holds Q K F P (read_as rs p)
  unfolding read_as
  as-holds a b [] h = h
  as-holds a b (r ∷ rs) (dones x) = dones x
  as-holds a b (r ∷ rs) (refuses e) = refuses e
  as-holds a b (r ∷ rs) (asks {q} x g) = asks (a q r x) λ w y. as-holds a b rs (g w (b q r w y))

  pub if-holds : {A : Type 0} {P : A → Type 0} (b : Bool) {p q : Reading A}
      → (b ≡ true → Holds Q K F P p) → (b ≡ false → Holds Q K F P q) → Holds Q K F P (when b then p else q)
  if-holds {P} b h k = if-cases (Holds Q K F P) b h k

  -- one for each of a list, where something holds of the list's own
  pub each_holds : {X A : Type 0} {S : X → Type 0} {P : A → Type 0} {f : X → A → Reading A}
      → ((x : X) → S x → (a : A) → P a → Holds Q K F P (f x a)) → (xs : List X) → Each S xs → (a : A) → P a → Holds Q K F P (each f xs a)
  unfolding each
  each_holds h [] s a k = dones k
  each_holds h (x ∷ xs) (s, ss) a k = bind (h x s a k) (each_holds h xs ss)
