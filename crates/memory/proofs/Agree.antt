-- A reading depends only on the words that it asked for: two memories of equal length that agree on the words read give
-- the same outcome and the same addresses.
use Rattle.std.proofs.Common.{◌≡◌, ℕ, ◌+◌, ◌/◌, Bool, true, false, ltb, List, [], ◌∷◌, length, get_or, refl, ap}
use Rattle.memory.specs.Word.{when◌then◌else◌}
use Rattle.memory.specs.Reading.{Reading, done, refuse, ask, absent, refused, run_from, asked}

pub data All (P : ℕ → Type 0) : List ℕ → Type 0 where
  none : All P []
  also : {x : ℕ} {xs : List ℕ} → P x → All P xs → All P (x ∷ xs)

-- both have the same word at an address
abbrev pub SameWord : List ℕ → List ℕ → ℕ → Type 0
SameWord m₁ m₂ a = get_or m₁ (a / 2) 0 ≡ get_or m₂ (a / 2) 0

module _ (m₁ m₂ : List ℕ) (len : length m₁ ≡ length m₂) where
  -- one turn, for any function f of the memory and the rest of the reading
  turn : {A B : Type 0} (b : Bool) (a : ℕ) (rest : ℕ → Reading A) (f : List ℕ → Reading A → B) (missing : B)
      → ((w : ℕ) → All (SameWord m₁ m₂) (asked m₁ (rest w)) → f m₁ (rest w) ≡ f m₂ (rest w))
      → All (SameWord m₁ m₂) (a ∷ (when b then asked m₁ (rest (get_or m₁ (a / 2) 0)) else []))
      → (when b then f m₁ (rest (get_or m₁ (a / 2) 0)) else missing) ≡ (when b then f m₂ (rest (get_or m₂ (a / 2) 0)) else missing)
  turn true a rest f missing same (also e h) = rw (← e) (same (get_or m₁ (a / 2) 0) h)
  turn false a rest f missing same h = refl

  pub same_outcome : {A : Type 0} (p : Reading A) (n : ℕ) → All (SameWord m₁ m₂) (asked m₁ p) → run_from n m₁ p ≡ run_from n m₂ p
  unfolding run_from asked
  same_outcome (done a) n h = refl
  same_outcome (refuse x) n h = refl
  same_outcome (ask q f) n h =
      rw (← len) (turn (ltb (q.address / 2) (length m₁)) q.address f (λ m p. run_from (n + 1) m p) (refused (absent q)) (λ w. same_outcome (f w) (n + 1)) h)

  pub same-addresses : {A : Type 0} (p : Reading A) → All (SameWord m₁ m₂) (asked m₁ p) → asked m₁ p ≡ asked m₂ p
  unfolding asked
  same-addresses (done a) h = refl
  same-addresses (refuse x) h = refl
  same-addresses (ask q f) h =
      rw (← len) (ap (◌∷◌ q.address) (turn (ltb (q.address / 2) (length m₁)) q.address f (λ m p. asked m p) [] (λ w. same-addresses (f w)) h))
