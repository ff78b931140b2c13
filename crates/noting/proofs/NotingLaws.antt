-- The laws by which a proof follows a reading whose addresses are noted: its parts one after the other, what it comes to, and the list.
use Rattle.std.proofs.Common.{Some, None}
use mathlib.Core.Path.{◌≡◌, refl, ap, sym, ◌∙◌}
use mathlib.Core.Bool.{Bool, true, false}
use mathlib.Core.List.{List, [], ◌∷◌}
use Prim.Native.Nat.{ℕ, ◌+◌, ◌/◌}
use native.Mathlib.Omega.{arith}
use native.Mathlib.Numerals.{add-one}
use lib.ListN.{length, get_or, set}
use lib.Seq.{sets}
use lib.Dec.{ltb}
use Rattle.memory.specs.Word.{when◌then◌else◌}
use Rattle.memory.specs.declared.Fault.{Fault}
use Rattle.memory.specs.declared.Pointer.{Pointer}
use Rattle.memory.specs.Reading.{Ask, Reading, done, refuse, ask, word, asking, ◌>>=◌, fetch, Outcome, given, refused, absent, run_from, asked}
use Rattle.noting.specs.Noting.{Noted, noted, noting}

-- a refusal is no result
not-refused : {A : Type 0} (x : Fault) (l : List ℕ) {k : ℕ} {a : A} {l₁ : List ℕ} → noted (refused x) l ≡ noted (given k a) l₁ → ⊥
not-refused {A} x l {k} {a} e =
    let o : refused x ≡ given k a = ap (λ (x : Noted A). x.outcome) e in
    let z : ◌≡◌ {A = ℕ} 0 1 = cc in
    omega arith

-- what a reading comes to is what it comes to where nothing is noted
pub noting-outcome : {A : Type 0} (n : ℕ) (m l : List ℕ) (p : Reading A) → (noting n m l p).outcome ≡ run_from n m p
unfolding noting run_from
noting-outcome n m l (done a) = refl
noting-outcome n m l (refuse x) = refl
noting-outcome n m l (ask q f) =
    turn (ltb (q.address / 2) (length m)) q l _ _ (noting-outcome (n + 1) m (set l n q.address) (f (get_or m (q.address / 2) 0)))
  where
    turn : {A : Type 0} (b : Bool) (q : Ask) (l : List ℕ) (x : Noted A) (o : Outcome A) → x.outcome ≡ o
        → (when b then x else noted (refused (absent q)) l).outcome ≡ (when b then o else refused (absent q))
    turn true q l x o e = e
    turn false q l x o e = refl

pub noting-run : {A : Type 0} (n : ℕ) (m l : List ℕ) (p : Reading A) {k : ℕ} {a : A} {l₁ : List ℕ} → noting n m l p ≡ noted (given k a) l₁
    → run_from n m p ≡ given k a
noting-run {A} n m l p e = sym (noting-outcome n m l p) ∙ ap (λ (x : Noted A). x.outcome) e

-- the list of one that is accepted has the addresses asked for, in order
pub noting-asked : {A : Type 0} (n : ℕ) (m l : List ℕ) (p : Reading A) {k : ℕ} {a : A} {l₁ : List ℕ} → noting n m l p ≡ noted (given k a) l₁
    → l₁ ≡ sets l n (asked m p)
unfolding noting asked
noting-asked {A} n m l (done b) e = sym (ap (λ (x : Noted A). x.list) e)
noting-asked n m l (refuse x) e = absurd (not-refused x l e)
noting-asked n m l (ask q f) e =
    turn (ltb (q.address / 2) (length m)) q n l (asked m (f (get_or m (q.address / 2) 0))) (λ e₁. noting-asked (n + 1) m (set l n q.address) (f (get_or m (q.address / 2) 0)) e₁) e
  where
    turn : {A : Type 0} (b : Bool) (q : Ask) (n : ℕ) (l xs : List ℕ) {x : Noted A} {k : ℕ} {a : A} {l₁ : List ℕ}
        → (x ≡ noted (given k a) l₁ → l₁ ≡ sets (set l n q.address) (n + 1) xs) → (when b then x else noted (refused (absent q)) l) ≡ noted (given k a) l₁
        → l₁ ≡ sets l n (q.address ∷ (when b then xs else []))
    turn true q n l xs rest e = rest e ∙ ap (λ (i : ℕ). sets (set l n q.address) i xs) (add-one n)
    turn false q n l xs rest e = absurd (not-refused (absent q) l e)

-- one reading, then what goes on from it
pub noting-bind : {A B : Type 0} (n : ℕ) (m l : List ℕ) (p : Reading A) (f : A → Reading B) {k : ℕ} {a : A} {l₁ : List ℕ} → noting n m l p ≡ noted (given k a) l₁
    → noting n m l (p >>= f) ≡ noting k m l₁ (f a)
unfolding noting ◌>>=◌
noting-bind {A} n m l (done b) f {k} {a} {l₁} e =
    let o : given n b ≡ given k a = ap (λ (x : Noted A). x.outcome) e in
    let same : b ≡ a = cc in
    let count : n ≡ k = cc in
    let list : l ≡ l₁ = ap (λ (x : Noted A). x.list) e in
    rw (same, count, list)
noting-bind n m l (refuse x) f e = absurd (not-refused x l e)
noting-bind n m l (ask q g) f e =
    turn (ltb (q.address / 2) (length m)) q l (λ e₁. noting-bind (n + 1) m (set l n q.address) (g (get_or m (q.address / 2) 0)) f e₁) e
  where
    turn : {A B : Type 0} (b : Bool) (q : Ask) (l : List ℕ) {x : Noted A} {y z : Noted B} {k : ℕ} {a : A} {l₁ : List ℕ}
        → (x ≡ noted (given k a) l₁ → y ≡ z) → (when b then x else noted (refused (absent q)) l) ≡ noted (given k a) l₁
        → (when b then y else noted (refused (absent q)) l) ≡ z
    turn true q l rest e = rest e
    turn false q l rest e = absurd (not-refused (absent q) l e)

-- a word that is there
pub noting-word : {B : Type 0} (n : ℕ) (m l : List ℕ) (p : Pointer) (f : ℕ → Reading B) {w : ℕ} → fetch m p.address ≡ Some w
    → noting n m l (word p >>= f) ≡ noting (n + 1) m (set l n p.address) (f w)
unfolding noting ◌>>=◌
noting-word n m l p f {w} e =
    turn (ltb (p.address / 2) (length m)) (λ (v : ℕ). noting (n + 1) m (set l n p.address) (f v)) (get_or m (p.address / 2) 0) (noted (refused (absent (asking p))) l) e
  where
    turn : {B : Type 0} (b : Bool) (g : ℕ → Noted B) (v : ℕ) (z : Noted B) {w : ℕ} → (when b then Some v else None) ≡ Some w → (when b then g v else z) ≡ g w
    turn true g v z {w} e = let same : v ≡ w = cc in ap g same
    turn false g v z e = let z : ◌≡◌ {A = ℕ} 0 1 = cc in absurd (omega arith)

pub noting-done : {A : Type 0} (n : ℕ) (m l : List ℕ) (a : A) → noting n m l (done a) ≡ noted (given n a) l
unfolding noting
noting-done n m l a = refl
