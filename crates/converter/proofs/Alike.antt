-- Two readings, a segmented one and its linear one, on a segmented memory: they ask for the same words as long as none is read on over a
-- page end. Each word is the other's but for a pointer's first word, which the linear one has turned. One law for each way to make a
-- reading of others. The count is of the words asked for so far, which bounds the steps that a pointer in use has gone.
use mathlib.Core.Path.{◌≡◌, refl, ap, subst, fun_ext}
use mathlib.Core.Bool.{Bool, true, false}
use mathlib.Core.List.{List, [], ◌∷◌}
use Prim.Native.Nat.{ℕ, ◌+◌, ◌<◌, ◌≤◌}
use native.Mathlib.Nat.{le_refl}
use native.Mathlib.Omega.{arith}
use Rattle.memory.specs.declared.Fault.{Fault}
use Rattle.memory.specs.declared.Pointer.{Pointer}
use Rattle.memory.specs.Word.{when◌then◌else◌}
use Rattle.memory.specs.Reading.{Role, Ask, Reading, done, refuse, ask, ◌>>=◌, in_role, read_as, nobody, check_of, check, each}
use Rattle.holding.proofs.Holds.{Each}
use Rattle.converter.specs.Walk.{mark, word_of, read_on}
use Rattle.converter.specs.Converter.{turned}

-- the same result, of which something holds
pub record Same {A : Type 0} (P : A → Type 0) (c : ℕ) (a b : A) : Type 0 where
  pub equal : a ≡ b
  pub holds : P a

module _ (held : ℕ) (m : List ℕ) where
  pub data Alike {A B : Type 0} (R : ℕ → A → B → Type 0) : ℕ → Reading A → Reading B → Type 0 where
    dones : {c : ℕ} {a : A} {b : B} → R c a b → Alike R c (done a) (done b)
    refuses : {c : ℕ} {x : Fault} {q : Reading B} → Alike R c (refuse x) q
    asks : {c : ℕ} {q r : Ask} {f : ℕ → Reading A} {g : ℕ → Reading B}
        → (read_on held m q.address q.from ≡ false → r.address ≡ q.address)
        → (read_on held m q.address q.from ≡ false → c < 12000
        → Alike R (c + 1) (f (word_of m q.address)) (g (turned (mark q.role) (word_of m q.address))))
        → Alike R c (ask q f) (ask r g)

  -- one reading after another, more words on
  pub bind : {A B C D : Type 0} {R : ℕ → A → B → Type 0} {S : ℕ → C → D → Type 0} {k : A → Reading C} {h : B → Reading D} {c : ℕ}
      {p : Reading A} {q : Reading B} → Alike R c p q → ((n : ℕ) (a : A) (b : B) → c ≤ n → R n a b → Alike S n (k a) (h b))
      → Alike S c (p >>= k) (q >>= h)
  unfolding ◌>>=◌
  bind (dones {c} {a} {b} r) f = f c a b (le_refl c) r
  bind refuses f = refuses
  bind {c} (asks e g) f = asks e λ r l. bind (g r l) λ n a b i x. f n a b (omega arith) x

  -- .. that gives the same on both sides
  pub bind-same : {A C D : Type 0} {P : A → Type 0} {S : ℕ → C → D → Type 0} {k : A → Reading C} {h : A → Reading D} {c : ℕ}
      {p q : Reading A} → Alike (Same P) c p q → ((n : ℕ) (a : A) → c ≤ n → P a → Alike S n (k a) (h a)) → Alike S c (p >>= k) (q >>= h)
  bind-same {S} {k} {h} x f = bind x λ n a b l s. subst (λ y. Alike S n (k a) (h y)) s.equal (f n a l s.holds)

  -- a check and what comes after it, which knows that the check was met
  pub check-of-then : {C D : Type 0} {S : ℕ → C → D → Type 0} {c : ℕ} (n : ℕ) (p : Pointer) (b : Bool) {k : Unit {0} → Reading C} {h : Unit {0} → Reading D}
      → ((u : Unit {0}) → b ≡ true → Alike S c (k u) (h u)) → Alike S c (check_of n p b >>= k) (check_of n p b >>= h)
  unfolding ◌>>=◌
  check-of-then n p true f = f tt refl
  check-of-then n p false f = refuses

  pub check-then : {C D : Type 0} {S : ℕ → C → D → Type 0} {c : ℕ} (n : ℕ) (b : Bool) {k : Unit {0} → Reading C} {h : Unit {0} → Reading D}
      → ((u : Unit {0}) → b ≡ true → Alike S c (k u) (h u)) → Alike S c (check n b >>= k) (check n b >>= h)
  check-then n b f = check-of-then n nobody b f

  pub if-alike : {A B : Type 0} {R : ℕ → A → B → Type 0} {c : ℕ} (b : Bool) {p₁ p₂ : Reading A} {q₁ q₂ : Reading B}
      → (b ≡ true → Alike R c p₁ q₁) → (b ≡ false → Alike R c p₂ q₂) → Alike R c (when b then p₁ else p₂) (when b then q₁ else q₂)
  if-alike true h k = h refl
  if-alike false h k = k refl

  -- one for each of a list, where something holds of the list's own
  pub each-alike : {X A B : Type 0} {S : X → Type 0} {R : ℕ → A → B → Type 0} {k : X → A → Reading A} {h : X → B → Reading B}
      → ((x : X) → S x → (c : ℕ) (a : A) (b : B) → R c a b → Alike R c (k x a) (h x b))
      → (xs : List X) → Each S xs → (c : ℕ) (a : A) (b : B) → R c a b → Alike R c (each k xs a) (each h xs b)
  unfolding each
  each-alike f [] s c a b r = dones r
  each-alike f (x ∷ xs) (s, ss) c a b r = bind (f x s c a b r) λ n a₁ b₁ _ r₁. each-alike f xs ss n a₁ b₁ r₁

-- the roles of a reading whose result is then changed
pub as-map : {A B : Type 0} (rs : List Role) (p : Reading A) (g : A → B) → read_as rs (p >>= λ x. done (g x)) ≡ (read_as rs p >>= λ x. done (g x))
unfolding read_as ◌>>=◌
as-map [] p g = refl
as-map (r ∷ rs) (done a) g = refl
as-map (r ∷ rs) (refuse x) g = refl
as-map (r ∷ rs) (ask q f) g = ap (ask (in_role r q)) (fun_ext λ w. as-map rs (f w) g)
