-- Readings on a memory: what holds of each word asked for and of the result. One law for each way to make a reading of others.
use Rattle.std.proofs.Common.{Some, None}
use mathlib.Core.Path.{◌≡◌, refl, sym, ◌∙◌}
use mathlib.Core.Bool.{Bool, true, false, not, true≢false}
use mathlib.Core.List.{List}
use Prim.Native.Nat.{ℕ, ◌+◌, ◌/◌}
use lib.ListN.{length, get_or}
use lib.Dec.{ltb, eqb}
use borrow.Author.Tests.{eq-eqb}
use Rattle.memory.specs.declared.Fault.{Fault}
use Rattle.memory.specs.declared.Pointer.{Pointer}
use Rattle.memory.specs.Reading.{Ask, Reading, fetch, Outcome, given, refused, run_from}
use Rattle.memory.proofs.ReadBounds.{if-cases}
use Rattle.holding.proofs.Holds.{Holds, dones, refuses, asks}

-- the pointer of a question
abbrev pub due : Ask → Pointer
due q = record { address = q.address; from = q.from }

-- true ≡ false is no fact
pub apart : {A : Type 0} → true ≡ false → A
apart e = absurd (true≢false e)

pub not-true : (b : Bool) → not b ≡ true → b ≡ false
not-true true e = apart (sym e)
not-true false e = refl

-- on the memory m: Q holds of each pointer through which a word is asked for, P of the result, and no refusal of the rules is a 7
abbrev pub Asked : (Pointer → Type 0) → Ask → Type 0
Asked Q q = Q (due q)

abbrev pub Found : List ℕ → Ask → ℕ → Type 0
Found m q w = fetch m q.address ≡ Some w

abbrev pub Own : Fault → Type 0
Own x = eqb x.number 7 ≡ false

abbrev pub Tells : {A : Type 0} → List ℕ → (Pointer → Type 0) → (A → Type 0) → Reading A → Type 0
Tells m Q P p = Holds (Asked Q) (Found m) Own P p

-- what it comes to: a refusal 7 is the word that was not there
pub data Ends {A : Type 0} (m : List ℕ) (Q : Pointer → Type 0) (P : A → Type 0) : Outcome A → Type 0 where
  gives : {k : ℕ} {a : A} → P a → Ends m Q P (given k a)
  tells : {x : Fault} → (x.number ≡ 7 → Q (record { address = x.address; from = x.from }) × (fetch m x.address ≡ None)) → Ends m Q P (refused x)

pub run_ends : {A : Type 0} {Q : Pointer → Type 0} {P : A → Type 0} (m : List ℕ) (n : ℕ) {p : Reading A} → Tells m Q P p → Ends m Q P (run_from n m p)
unfolding run_from
run_ends m n (dones h) = gives h
run_ends m n (refuses {x} e) = tells λ h. apart (sym (eq-eqb x.number 7 h) ∙ e)
run_ends {Q} {P} m n (asks {q} {f} h g) =
    if-cases (Ends m Q P) (ltb (q.address / 2) (length m)) (λ e. run_ends {Q = Q} {P = P} m (n + 1) {p = f (get_or m (q.address / 2) 0)} (g (get_or m (q.address / 2) 0) (rw e))) λ e. tells λ _. (h, rw e)
