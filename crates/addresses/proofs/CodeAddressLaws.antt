-- The codes of a segment from some code on: the word in turn, and those after it; without a list, words one after the other.
use mathlib.Core.Path.{◌≡◌, refl, ap, subst, ◌∙◌}
use mathlib.Core.List.{List, [], ◌∷◌, ◌++◌}
use mathlib.Core.Bool.{Bool, true, false, ◌&&◌}
use Prim.Native.Nat.{ℕ, zero, suc, ◌+◌, ◌-◌, ◌/◌, ◌<◌}
use native.Mathlib.Omega.{arith}
use Rattle.memory.specs.Word.{high, low}
use Rattle.memory.specs.declared.Pointer.{Pointer}
use Rattle.memory.specs.Address.{onward}
use Rattle.codes.specs.declared.CodeSettings.{CodeSettings}
use Rattle.codes.specs.declared.AttributeList.{AttributeList}
use Rattle.codes.specs.Attribute.{invokes}
use Rattle.noting.specs.Noting.{in_turn}
use Rattle.addresses.specs.Addresses.{word_in, list_after, takes, code_after, pair, pair_after, single, code_addresses, code_list}

module _ (σ : CodeSettings) (m : List ℕ) (left : ℕ) (p : Pointer) (l : AttributeList) where
  pub pair-addresses : 1 < left
      → code_addresses σ m left p l
      ≡ pair σ p.address l (word_in m p.address) ++ code_addresses σ m (left - 2) (onward σ.linear p) (pair_after σ l (word_in m p.address))
  unfolding code_addresses
  pair-addresses h =
      let e : left ≡ suc (suc (left - 2)) = omega arith in
      ap (λ (k : ℕ). code_addresses σ m k p l) e

  pub pair-list : 1 < left → code_list σ m left p l ≡ code_list σ m (left - 2) (onward σ.linear p) (pair_after σ l (word_in m p.address))
  unfolding code_list
  pair-list h =
      let e : left ≡ suc (suc (left - 2)) = omega arith in
      ap (λ (k : ℕ). code_list σ m k p l) e

  pub single-addresses : left ≡ 1 → code_addresses σ m left p l ≡ single σ p.address l (word_in m p.address)
  unfolding code_addresses
  single-addresses e = ap (λ (k : ℕ). code_addresses σ m k p l) e

  pub single-list : left ≡ 1 → code_list σ m left p l ≡ code_after σ l (high (word_in m p.address))
  unfolding code_list
  single-list e = ap (λ (k : ℕ). code_list σ m k p l) e

  pub none-addresses : left ≡ 0 → code_addresses σ m left p l ≡ []
  unfolding code_addresses
  none-addresses e = ap (λ (k : ℕ). code_addresses σ m k p l) e

  pub none_list : left ≡ 0 → code_list σ m left p l ≡ l
  unfolding code_list
  none_list e = ap (λ (k : ℕ). code_list σ m k p l) e

-- a list that is taken from stays the same list
code-present : (linear b : Bool) (l : AttributeList) → (list_after linear b l).present ≡ l.present
code-present linear true l = refl
code-present linear false l = refl

pair-present : (σ : CodeSettings) (l : AttributeList) (w : ℕ) → (pair_after σ l w).present ≡ l.present
pair-present σ l w =
    let l₁ = code_after σ l (high w) in
    code-present σ.linear (takes σ l₁ (low w)) l₁ ∙ code-present σ.linear (takes σ l (high w)) l

-- .. so what holds of it holds of its parts put together again
pub pair_parts : (σ : CodeSettings) (l : AttributeList) (w : ℕ) (P : AttributeList → Type 0) → P (pair_after σ l w)
    → P (record { present = l.present; next = (pair_after σ l w).next })
pair_parts σ l w P h = subst (λ (b : Bool). P (record { present = b; next = (pair_after σ l w).next })) (pair-present σ l w) h

-- without a list no code takes a word
never : (b c : Bool) → c ≡ false → b && c ≡ false
never true c e = e
never false c e = refl

module _ (σ : CodeSettings) (m : List ℕ) (l : AttributeList) (no : l.present ≡ false) where
  no_takes : (code : ℕ) → takes σ l code ≡ false
  no_takes code = never (invokes σ.flag code) l.present no

  pub plain-addresses : (n : ℕ) (p : Pointer) → code_addresses σ m n p l ≡ in_turn σ.linear ((n + 1) / 2) p.address
  unfolding code_addresses in_turn
  plain-addresses zero p = refl
  plain-addresses (suc zero) p = rw (no_takes (high (word_in m p.address)))
  plain-addresses (suc (suc n)) p =
      let half : (suc (suc n) + 1) / 2 ≡ suc ((n + 1) / 2) = omega arith in
      rw (no_takes (high (word_in m p.address)), no_takes (low (word_in m p.address)), half) (ap (◌∷◌ p.address) (plain-addresses n (onward σ.linear p)))

  pub plain-list : (n : ℕ) (p : Pointer) → code_list σ m n p l ≡ l
  unfolding code_list
  plain-list zero p = refl
  plain-list (suc zero) p = rw (no_takes (high (word_in m p.address)))
  plain-list (suc (suc n)) p =
      rw (no_takes (high (word_in m p.address)), no_takes (low (word_in m p.address))) (plain-list n (onward σ.linear p))
