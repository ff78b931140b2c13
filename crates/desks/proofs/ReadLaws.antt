-- A reading depends on the words that it reads: a missing word is missing in both memories, as they have one length.
use mathlib.Core.Path.{◌≡◌, refl, sym, ap, ◌∙◌}
use mathlib.Core.Bool.{Bool, true, false}
use mathlib.Core.List.{List, [], ◌∷◌}
use Prim.Native.Nat.{ℕ, ◌+◌, ◌/◌, ◌≤◌}
use native.Mathlib.Omega.{arith}
use lib.ListN.{length, get_or, get_or-eq_default}
use lib.Dec.{ltb}
use borrow.Author.Tests.{ltb-false}
use Rattle.memory.specs.Word.{when◌then◌else◌}
use Rattle.memory.specs.declared.Fault.{Fault}
use Rattle.memory.specs.Reading.{Reading, done, refuse, ask, absent, Outcome, given, refused, run_from, asked}
use Rattle.memory.proofs.Agree.{All, none, also, SameWord, same_outcome, same-addresses}
use Rattle.desks.specs.Finds.{in_memory, words_read}

-- what holds of all addresses holds of those in memory
pub all_in : {P : ℕ → Type 0} (m : List ℕ) {l : List ℕ} → All P l → All P (in_memory m l)
unfolding in_memory
all_in m none = none
all_in {P} m (also {x = a} {xs = l} h hs) = by-test (ltb (a / 2) (length m)) (all_in m hs)
  where
    by-test : (t : Bool) → All P (in_memory m l) → All P (when t then a ∷ in_memory m l else in_memory m l)
    by-test true k = also h k
    by-test false k = k

module _ (m₁ m₂ : List ℕ) (len : length m₁ ≡ length m₂) where
  -- a word outside memory is the same in both
  outside : (a : ℕ) → ltb (a / 2) (length m₁) ≡ false → SameWord m₁ m₂ a
  outside a e =
      let h = ltb-false (a / 2) (length m₁) e in
      let k : length m₂ ≤ a / 2 = omega arith in
      get_or-eq_default m₁ 0 h ∙ sym (get_or-eq_default m₂ 0 k)

  pub read_all : (l : List ℕ) → All (SameWord m₁ m₂) (in_memory m₁ l) → All (SameWord m₁ m₂) l
  unfolding in_memory
  read_all [] = λ h. none
  read_all (a ∷ l) = by-test (ltb (a / 2) (length m₁)) refl (read_all l)
    where
      by-test : (t : Bool) → ltb (a / 2) (length m₁) ≡ t → (All (SameWord m₁ m₂) (in_memory m₁ l) → All (SameWord m₁ m₂) l)
          → All (SameWord m₁ m₂) (when t then a ∷ in_memory m₁ l else in_memory m₁ l) → All (SameWord m₁ m₂) (a ∷ l)
      by-test true e f (also h hs) = also h (f hs)
      by-test false e f h = also (outside a e) (f h)

  in-memory-same : (l : List ℕ) → in_memory m₁ l ≡ in_memory m₂ l
  unfolding in_memory
  in-memory-same [] = refl
  in-memory-same (a ∷ l) = rw (len, in-memory-same l)

  module _ {A : Type 0} (p : Reading A) (h : All (SameWord m₁ m₂) (words_read m₁ p)) where
    pub read-outcome : (n : ℕ) → run_from n m₁ p ≡ run_from n m₂ p
    read-outcome n = same_outcome m₁ m₂ len p n (read_all (asked m₁ p) h)

    pub read_asked : asked m₁ p ≡ asked m₂ p
    read_asked = same-addresses m₁ m₂ len p (read_all (asked m₁ p) h)

    pub read-words : words_read m₁ p ≡ words_read m₂ p
    read-words = ap (in_memory m₁) read_asked ∙ in-memory-same (asked m₂ p)

-- a reading that comes to a result reads every word that it asks for: an accepted call's list has the words read
if-given : {A : Type 0} (t : Bool) (m : List ℕ) (a : ℕ) (l : List ℕ) (x : Fault) {o : Outcome A} {n : ℕ} {r : A}
    → (o ≡ given n r → in_memory m l ≡ l) → (when t then o else refused x) ≡ given n r
    → (when t then a ∷ in_memory m (when t then l else []) else in_memory m (when t then l else [])) ≡ a ∷ (when t then l else [])
if-given true m a l x f e = ap (◌∷◌ a) (f e)
if-given false m a l x f e = let q : ◌≡◌ {A = ℕ} 0 1 = cc in absurd (omega arith)

pub given-read : {A : Type 0} (n : ℕ) (m : List ℕ) (p : Reading A) {i : ℕ} {r : A} → run_from n m p ≡ given i r → words_read m p ≡ asked m p
unfolding run_from asked in_memory
given-read n m (done a) e = refl
given-read n m (refuse x) e = refl
given-read n m (ask q f) e =
    if-given (ltb (q.address / 2) (length m)) m q.address (asked m (f (get_or m (q.address / 2) 0))) (absent q)
    (given-read (n + 1) m (f (get_or m (q.address / 2) 0))) e
