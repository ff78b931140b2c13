-- Words that are asked for through pointers of 32 bits, on a memory of 16-bit words: what a refusal tells has 32 bits, and so have the
-- pointers that such words give.
use mathlib.Core.Bool.{Bool, true, false}
use mathlib.Core.List.{List, [], ◌∷◌}
use Prim.Native.Nat.{ℕ, zero, suc, ◌*◌, ◌/◌, ◌%◌, ◌+◌, ◌<◌, ◌≤◌}
use native.Mathlib.Omega.{arith}
use lib.Dec.{eqb, lit<}
use Rattle.memory.specs.declared.Fault.{Fault}
use Rattle.memory.specs.declared.Pointer.{Pointer}
use Rattle.memory.specs.Reading.{Reading, ◌>>=◌, each}
use Rattle.memory.specs.Address.{to, pointer, next_word, ahead, onward, further, words}
use Rattle.memory.proofs.ReadBounds.{Words, if-cases}
use Rattle.numbers.specs.Places.{any}
use Rattle.holding.proofs.Holds.{Each}
use Rattle.blame.proofs.Comes.{Comes, dones, asks, bind}

abbrev pub Small : Pointer → Type 0
Small p = (p.address ≤ any) × (p.from ≤ any)

abbrev pub SmallFault : Fault → Type 0
SmallFault x = (x.address ≤ any) × (x.from ≤ any)

pub step_small : (linear : Bool) (a : ℕ) → a ≤ any → next_word linear a ≤ any
unfolding next_word
step_small true a h = omega arith
step_small false a h = omega arith

pub ahead_small : (linear : Bool) (k a : ℕ) → a ≤ any → ahead linear k a ≤ any
unfolding ahead
ahead_small linear zero a h = h
ahead_small linear (suc k) a h = ahead_small linear k (next_word linear a) (step_small linear a h)

pub onward-small : (linear : Bool) (p : Pointer) → Small p → Small (onward linear p)
onward-small linear p h = (step_small linear p.address h.0, h.1)

pub further-small : (linear : Bool) (k : ℕ) (p : Pointer) → Small p → Small (further linear k p)
further-small linear k p h = (ahead_small linear k p.address h.0, h.1)

to-small : (from a : ℕ) → from ≤ any → a ≤ any → Small (to from a)
to-small from a h k = (k, if-cases (λ (n : ℕ). n ≤ any) (eqb a 0) (λ _. omega arith) (λ _. h))

pub pointer-small : (linear : Bool) (from first second : ℕ) → from ≤ any → second < 65536 → Small (pointer linear from first second)
unfolding pointer
pointer-small true from first second h k = to-small from ((first % 256 * 65536 + second) / 2 * 2) h (omega arith)
pointer-small false from first second h k = to-small from ((first / 256 % 128 * 65536 + second) / 2 * 2) h (omega arith)

no_words : Words []
no_words i = lit< tt

more-words : (w : ℕ) (ws : List ℕ) → w < 65536 → Words ws → Words (w ∷ ws)
more-words w ws h k zero = h
more-words w ws h k (suc i) = k i

module _ (m : List ℕ) (b : Words m) where
  -- P holds of the result, and a refusal tells 32 bits
  abbrev pub Keeps : {A : Type 0} → (A → Type 0) → Reading A → Type 0
  Keeps P p = Comes m SmallFault P p

  pub words-keep : (linear : Bool) (k : ℕ) (p : Pointer) → Small p → Keeps Words (words linear k p)
  unfolding words ◌>>=◌
  words-keep linear zero p h = dones no_words
  words-keep linear (suc k) p h =
      asks h
      (bind m SmallFault (words-keep linear k (onward linear p) (onward-small linear p h)) λ ws hs. dones (more-words _ ws (b (p.address / 2)) hs))

  -- one after the other, each keeping what holds
  pub each_keeps : {X A : Type 0} {S : X → Type 0} {P : A → Type 0} {f : X → A → Reading A} → ((x : X) → S x → (a : A) → P a → Keeps P (f x a))
      → (xs : List X) → Each S xs → (a : A) → P a → Keeps P (each f xs a)
  unfolding each
  each_keeps h [] s a k = dones k
  each_keeps h (x ∷ xs) (s, ss) a k = bind m SmallFault (h x s a k) (each_keeps h xs ss)
