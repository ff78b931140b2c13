-- The laws by which a proof follows a walk, one step after the other: those of a run (memory's `Laws`), with marks.
use mathlib.Core.Path.{◌≡◌, refl, ap, ◌∙◌}
use mathlib.Core.Bool.{Bool, true, false}
use mathlib.Core.List.{List}
use Prim.Native.Nat.{ℕ, ◌/◌}
use lib.ListN.{length}
use lib.Dec.{ltb}
use Rattle.memory.specs.declared.Fault.{Fault}
use Rattle.memory.specs.Word.{when◌then◌else◌}
use Rattle.memory.specs.Reading.{Ask, Reading, done, refuse, ask, fault, absent, ◌>>=◌, check}
use Rattle.converter.specs.Walk.{word_of, read_on, over_page_end, shared, shared_word, marked, Walked, went, halted, walk}

-- go on from a walk
abbrev next : {A B : Type 0} → Walked A → (List ℕ → A → Walked B) → Walked B
next (went marks a) k = k marks a
next (halted x) k = halted x

if-next : {A B : Type 0} (r t s : Bool) (x y z : Fault) (w : Walked A) (k : List ℕ → A → Walked B)
    → (when r then halted x else when t then (when s then halted y else next w k) else halted z) ≡ next (when r then halted x else when t then (when s then halted y else w) else halted z) k
if-next true t s x y z w k = refl
if-next false true true x y z w k = refl
if-next false true false x y z w k = refl
if-next false false s x y z w k = refl

module _ (held : ℕ) (m : List ℕ) where
  walk-bind : {A B : Type 0} (marks : List ℕ) (p : Reading A) (k : A → Reading B)
      → walk held m marks (p >>= k) ≡ next (walk held m marks p) (λ marks₁ a. walk held m marks₁ (k a))
  unfolding walk ◌>>=◌
  walk-bind marks (done a) k = refl
  walk-bind marks (refuse x) k = refl
  walk-bind marks (ask q f) k =
      rw (walk-bind (marked marks q) (f (word_of m q.address)) k)
      (if-next (read_on held m q.address q.from) (ltb (q.address / 2) (length m)) (shared marks q) (over_page_end q) (shared_word q) (absent q)
      (walk held m (marked marks q) (f (word_of m q.address))) (λ marks₁ a. walk held m marks₁ (k a)))

  -- a step that is met, and what comes after it
  module _ {A B : Type 0} (marks : List ℕ) (p : Reading A) (k : A → Reading B) where
    pub step_went : {marks₁ : List ℕ} {a : A} → walk held m marks p ≡ went marks₁ a → walk held m marks (p >>= k) ≡ walk held m marks₁ (k a)
    step_went e = walk-bind marks p k ∙ ap (λ (w : Walked A). next w (λ marks₁ a. walk held m marks₁ (k a))) e

    pub step-halted : {x : Fault} → walk held m marks p ≡ halted x → walk held m marks (p >>= k) ≡ halted x
    step-halted e = walk-bind marks p k ∙ ap (λ (w : Walked A). next w (λ marks₁ a. walk held m marks₁ (k a))) e

  -- a word: 18, 7, 19, or it is marked
  module _ {A : Type 0} (marks : List ℕ) (q : Ask) (f : ℕ → Reading A) where
    pub word_on : read_on held m q.address q.from ≡ true → walk held m marks (ask q f) ≡ halted (over_page_end q)
    unfolding walk
    word_on e = rw e

    module _ (on : read_on held m q.address q.from ≡ false) where
      pub word-absent : ltb (q.address / 2) (length m) ≡ false → walk held m marks (ask q f) ≡ halted (absent q)
      unfolding walk
      word-absent e = rw (on, e)

      pub word-shared : ltb (q.address / 2) (length m) ≡ true → shared marks q ≡ true → walk held m marks (ask q f) ≡ halted (shared_word q)
      unfolding walk
      word-shared e s = rw (on, e, s)

      pub word-marked : ltb (q.address / 2) (length m) ≡ true → shared marks q ≡ false
          → walk held m marks (ask q f) ≡ walk held m (marked marks q) (f (word_of m q.address))
      unfolding walk
      word-marked e s = rw (on, e, s)

  -- a check that passes, and one that does not
  module _ {A : Type 0} (marks : List ℕ) (n : ℕ) (b : Bool) (k : Unit {0} → Reading A) where
    pub check-passed : b ≡ true → walk held m marks (check n b >>= k) ≡ walk held m marks (k tt)
    unfolding ◌>>=◌
    check-passed e = rw e

    pub check-failed : b ≡ false → walk held m marks (check n b >>= k) ≡ halted (fault n)
    unfolding walk ◌>>=◌
    check-failed e = rw e
