-- Words none of whose codes invokes: they take no word of the list, so their addresses stand one after the other.
use mathlib.Core.Path.{◌≡◌, refl, ap, ap₂, sym, ◌∙◌}
use mathlib.Core.List.{List, [], ◌∷◌, ◌++◌}
use mathlib.Core.Bool.{Bool, true, false, ◌||◌}
use Prim.Native.Nat.{ℕ, zero, suc, ◌+◌, ◌-◌, ◌*◌, ◌/◌, ◌<◌, ◌≤◌}
use native.Mathlib.Omega.{arith}
use native.Mathlib.Nat.{add-zero}
use lib.ListN.{length, get_or, length-append}
use lib.Seq.{sets}
use Rattle.memory.specs.Word.{high, low}
use Rattle.memory.specs.declared.Pointer.{Pointer}
use Rattle.memory.specs.Address.{next_word, ahead, onward, further}
use Rattle.memory.specs.Answers.{is_run}
use Rattle.memory.proofs.RunLaws.{run-ahead}
use Rattle.codes.specs.declared.CodeSettings.{CodeSettings}
use Rattle.codes.specs.declared.AttributeList.{AttributeList}
use Rattle.codes.specs.Attribute.{invokes}
use Rattle.noting.specs.Noting.{in_turn, some_invoke}
use Rattle.addresses.specs.declared.of_listed.Rest.{Rest}
use Rattle.addresses.specs.Addresses.{word_in, pair, pair_after, code_addresses, code_list}
use Rattle.addresses.specs.Listed.{list_from, left_addresses, left_written, past}
use Rattle.addresses.proofs.PlaceLaws.{sets-append, length-turn}
use Rattle.addresses.proofs.CodeAddressLaws.{pair-addresses, pair-list}

-- a list that is present
pub from_next : (l : AttributeList) → l.present ≡ true → l ≡ list_from l.next
from_next l e = ap (λ (b : Bool). record { present = b; next = l.next }) e

-- neither of two tests
or-none : (a b : Bool) → a || b ≡ false → (a ≡ false) × (b ≡ false)
or-none true b e = let q : ◌≡◌ {A = ℕ} 0 1 = cc in absurd (omega arith)
or-none false b e = (refl, e)

-- k words without a code that invokes: i is the number of the first
module _ (σ : CodeSettings) (m : List ℕ) (next : Pointer) where
  plain-pair : (a w : ℕ) → invokes σ.flag (high w) ≡ false → invokes σ.flag (low w) ≡ false
      → (pair σ a (list_from next) w ≡ a ∷ []) × (pair_after σ (list_from next) w ≡ list_from next)
  plain-pair a w e f = (rw (e, f), rw (e, f))

  plain-words : (k n i : ℕ) (p : Pointer) → ((j : ℕ) → j < k → ahead σ.linear j p.address / 2 ≡ i + j) → some_invoke σ.flag m i k ≡ false → 2 * k ≤ n
      → (code_addresses σ m n p (list_from next) ≡ in_turn σ.linear k p.address ++ code_addresses σ m (n - 2 * k) (further σ.linear k p) (list_from next))
      × (code_list σ m n p (list_from next) ≡ code_list σ m (n - 2 * k) (further σ.linear k p) (list_from next))
  unfolding ahead in_turn some_invoke
  plain-words zero n i p r e h =
      let left : n ≡ n - 2 * 0 = omega arith in
      (ap (λ (j : ℕ). code_addresses σ m j p (list_from next)) left, ap (λ (j : ℕ). code_list σ m j p (list_from next)) left)
  plain-words (suc k) n i p r e h =
      let number : p.address / 2 ≡ i = r 0 (omega arith) ∙ add-zero i in
      let w = word_in m p.address in
      let word : w ≡ get_or m i 0 = ap (λ (j : ℕ). get_or m j 0) number in
      let rest = or-none _ _ e in
      let two = or-none _ _ rest.0 in
      let one = plain-pair p.address w (ap (λ (x : ℕ). invokes σ.flag (high x)) word ∙ two.0) (ap (λ (x : ℕ). invokes σ.flag (low x)) word ∙ two.1) in
      let more = plain-words k (n - 2) (suc i) (onward σ.linear p) (λ (j : ℕ) (less : j < k). r (suc j) (omega arith) ∙ omega arith) rest.1 (omega arith) in
      let left : n - 2 - 2 * k ≡ n - 2 * suc k = omega arith in
      let there = further σ.linear (suc k) p in (
        pair-addresses σ m n p (list_from next) (omega arith)
            ∙ ap₂ (λ (xs : List ℕ) (l : AttributeList). xs ++ code_addresses σ m (n - 2) (onward σ.linear p) l) one.0 one.1
            ∙ ap (◌∷◌ p.address) (more.0 ∙ ap (λ (j : ℕ). in_turn σ.linear k (next_word σ.linear p.address) ++ code_addresses σ m j there (list_from next)) left),
        pair-list σ m n p (list_from next) (omega arith)
            ∙ ap (code_list σ m (n - 2) (onward σ.linear p)) one.1
            ∙ more.1
            ∙ ap (λ (j : ℕ). code_list σ m j there (list_from next)) left,
      )

-- .. of what is left to write
module _ (σ : CodeSettings) (m : List ℕ) (rest : Rest) (words k : ℕ)
    (run : is_run σ.linear (length m) rest.here.address words ≡ true) (few : k ≤ words) (fits : 2 * words ≤ rest.left)
    (none : some_invoke σ.flag m (rest.here.address / 2) k ≡ false) where
  numbers : (j : ℕ) → j < k → ahead σ.linear j rest.here.address / 2 ≡ rest.here.address / 2 + j
  numbers j h = ap (λ (a : ℕ). a / 2) (run-ahead (length m) rest.here.address words σ.linear j run (omega arith)) ∙ omega arith

  pub past-addresses : left_addresses σ m rest ≡ in_turn σ.linear k rest.here.address ++ left_addresses σ m (past σ.linear k rest)
  past-addresses = (plain-words σ m rest.next k rest.left (rest.here.address / 2) rest.here numbers none (omega arith)).0

  pub past-length : length (left_addresses σ m rest) ≡ k + length (left_addresses σ m (past σ.linear k rest))
  past-length =
      let turn = in_turn σ.linear k rest.here.address in
      ap length past-addresses ∙ omega (arith, length-append turn (left_addresses σ m (past σ.linear k rest)), length-turn σ.linear k rest.here.address)

  pub past-written : left_written σ m (past σ.linear k rest) ≡ left_written σ m rest
  past-written =
      let place : rest.at + k + length (left_addresses σ m (past σ.linear k rest)) ≡ rest.at + length (left_addresses σ m rest) = omega (arith, past-length) in
      let list = (plain-words σ m rest.next k rest.left (rest.here.address / 2) rest.here numbers none (omega arith)).1 in
      ap (λ (j : ℕ). record { at = j; list = code_list σ m (rest.left - 2 * k) (further σ.linear k rest.here) (list_from rest.next) }) place
      ∙ ap (λ (l : AttributeList). record { at = rest.at + length (left_addresses σ m rest); list = l }) (sym list)

  pub past-sets : (list : List ℕ)
      → sets (sets list rest.at (in_turn σ.linear k rest.here.address)) (rest.at + k) (left_addresses σ m (past σ.linear k rest))
      ≡ sets list rest.at (left_addresses σ m rest)
  past-sets list =
      let turn = in_turn σ.linear k rest.here.address in
      ap (λ (j : ℕ). sets (sets list rest.at turn) (rest.at + j) (left_addresses σ m (past σ.linear k rest))) (sym (length-turn σ.linear k rest.here.address))
      ∙ sym (sets-append list rest.at turn (left_addresses σ m (past σ.linear k rest)))
      ∙ ap (sets list rest.at) (sym past-addresses)
