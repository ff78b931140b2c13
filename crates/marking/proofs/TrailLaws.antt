-- A walk is its trail with what the reading comes to; the trail of a reading is that of its parts, and of words that of each.
use mathlib.Core.Path.{◌≡◌, refl, ap, sym, fun_ext, ◌∙◌}
use mathlib.Core.List.{List, [], ◌∷◌}
use mathlib.Core.Bool.{Bool, true, false}
use Prim.Native.Nat.{ℕ, zero, suc, ◌+◌, ◌-◌, ◌/◌, ◌<◌}
use native.Mathlib.Omega.{arith}
use lib.ListN.{length, drop}
use lib.Dec.{ltb}
use Rattle.memory.specs.Word.{when◌then◌else◌}
use Rattle.memory.specs.declared.Fault.{Fault}
use Rattle.memory.specs.declared.Pointer.{Pointer}
use Rattle.memory.specs.Reading.{Role, Reading, done, refuse, ask, asking, in_role, read_as, absent, ◌>>=◌, Outcome, given, refused, run_from, run}
use Rattle.memory.specs.Address.{next_word, onward, words}
use Rattle.converter.specs.Walk.{word_of, read_on, over_page_end, shared, shared_word, marked, Walked, went, halted, walk}
use Rattle.converter.proofs.Alike.{as-map}
use Rattle.marking.specs.Answers.{Trail, passed, faulted, by_word, trail, role_at}

abbrev pub joined : {A : Type 0} → Trail → Outcome A → Walked A
joined (faulted x) o = halted x
joined (passed marks) (given n a) = went marks a
joined (passed marks) (refused x) = halted x

-- go on from a trail where the reading so far gives something
abbrev pub trail_on : {A : Type 0} → Trail → Outcome A → (List ℕ → A → Trail) → Trail
trail_on (faulted x) o k = faulted x
trail_on (passed marks) (given n a) k = k marks a
trail_on (passed marks) (refused x) k = passed marks

abbrev pub trail_then : Trail → (List ℕ → Trail) → Trail
trail_then (faulted x) k = faulted x
trail_then (passed marks) k = k marks

-- the three tests of a word, in each of which the walk may end
module _ {A : Type 0} (x y z : Fault) (marks : List ℕ) (w : ℕ) where
  tests-joined : (b₁ b₂ b₃ : Bool) (v : Walked A) (t : List ℕ → ℕ → Trail) (o : Outcome A) → v ≡ joined (t marks w) o
      → (when b₁ then halted x else when b₂ then (when b₃ then halted y else v) else halted z)
      ≡ joined (by_word (when b₁ then halted x else when b₂ then (when b₃ then halted y else went marks w) else halted z) t) (when b₂ then o else refused z)
  tests-joined true b₂ b₃ v t o e = refl
  tests-joined false true true v t o e = refl
  tests-joined false true false v t o e = e
  tests-joined false false b₃ v t o e = refl

  tests-bind : (b₁ b₂ b₃ : Bool) (s t : List ℕ → ℕ → Trail) (o : Outcome A) (k : List ℕ → A → Trail) → s marks w ≡ trail_on (t marks w) o k
      → by_word (when b₁ then halted x else when b₂ then (when b₃ then halted y else went marks w) else halted z) s
      ≡ trail_on (by_word (when b₁ then halted x else when b₂ then (when b₃ then halted y else went marks w) else halted z) t) (when b₂ then o else refused z) k
  tests-bind true b₂ b₃ s t o k e = refl
  tests-bind false true true s t o k e = refl
  tests-bind false true false s t o k e = e
  tests-bind false false b₃ s t o k e = refl

tests_then : (x y z : Fault) (marks : List ℕ) (w : ℕ) (b₁ b₂ b₃ : Bool) (s t : List ℕ → ℕ → Trail) (k : List ℕ → Trail) → s marks w ≡ trail_then (t marks w) k
    → by_word (when b₁ then halted x else when b₂ then (when b₃ then halted y else went marks w) else halted z) s
    ≡ trail_then (by_word (when b₁ then halted x else when b₂ then (when b₃ then halted y else went marks w) else halted z) t) k
tests_then x y z marks w true b₂ b₃ s t k e = refl
tests_then x y z marks w false true true s t k e = refl
tests_then x y z marks w false true false s t k e = e
tests_then x y z marks w false false b₃ s t k e = refl

-- the words that stand from an address on
unfoldable pub words_in : Bool → List ℕ → (n a : ℕ) → List ℕ
words_in l m zero a = []
words_in l m (suc n) a = word_of m a ∷ words_in l m n (next_word l a)

-- the grouping of two steps is free
pub bind-bind : {A B C : Type 0} (p : Reading A) (k : A → Reading B) (h : B → Reading C) → (p >>= k >>= h) ≡ (p >>= λ a. k a >>= h)
unfolding ◌>>=◌
bind-bind (done a) k h = refl
bind-bind (refuse x) k h = refl
bind-bind (ask q f) k h = ap (ask q) (fun_ext λ w. bind-bind (f w) k h)

-- the first word of some, in its role, and the rest
words-turn : (l : Bool) (n : ℕ) (p : Pointer) (rs : List Role)
    → read_as rs (words l (suc n) p) ≡ ask (in_role (role_at rs 0) (asking p)) (λ w. read_as (drop 1 rs) (words l n (onward l p)) >>= λ ws. done (w ∷ ws))
unfolding words read_as ◌>>=◌
words-turn l n p [] = refl
words-turn l n p (r ∷ rs) = ap (ask (in_role r (asking p))) (fun_ext λ w. as-map rs (words l n (onward l p)) (λ ws. w ∷ ws))

module _ (held : ℕ) (m : List ℕ) where
  walk-joined : {A : Type 0} (n : ℕ) (marks : List ℕ) (p : Reading A) → walk held m marks p ≡ joined (trail held m marks p) (run_from n m p)
  unfolding walk trail run_from
  walk-joined n marks (done a) = refl
  walk-joined n marks (refuse x) = refl
  walk-joined n marks (ask q f) =
      tests-joined (over_page_end q) (shared_word q) (absent q) (marked marks q) (word_of m q.address)
      (read_on held m q.address q.from) (ltb (q.address / 2) (length m)) (shared marks q)
      (walk held m (marked marks q) (f (word_of m q.address))) (λ marks₁ w. trail held m marks₁ (f w)) (run_from (n + 1) m (f (word_of m q.address)))
      (walk-joined (n + 1) (marked marks q) (f (word_of m q.address)))

  trail-from : {A B : Type 0} (n : ℕ) (marks : List ℕ) (p : Reading A) (k : A → Reading B)
      → trail held m marks (p >>= k) ≡ trail_on (trail held m marks p) (run_from n m p) (λ marks₁ a. trail held m marks₁ (k a))
  unfolding walk trail run_from ◌>>=◌
  trail-from n marks (done a) k = refl
  trail-from n marks (refuse x) k = refl
  trail-from n marks (ask q f) k =
      tests-bind (over_page_end q) (shared_word q) (absent q) (marked marks q) (word_of m q.address)
      (read_on held m q.address q.from) (ltb (q.address / 2) (length m)) (shared marks q)
      (λ marks₁ w. trail held m marks₁ (f w >>= k)) (λ marks₁ w. trail held m marks₁ (f w)) (run_from (n + 1) m (f (word_of m q.address))) (λ marks₁ a. trail held m marks₁ (k a))
      (trail-from (n + 1) (marked marks q) (f (word_of m q.address)) k)

  -- what a walk comes to, from its trail and what the reading comes to
  module _ {A : Type 0} (marks : List ℕ) (p : Reading A) where
    pub joined-faulted : {x : Fault} → trail held m marks p ≡ faulted x → walk held m marks p ≡ halted x
    joined-faulted e = walk-joined 0 marks p ∙ rw e

    pub joined-given : {marks₁ : List ℕ} (n : ℕ) {i : ℕ} {a : A} → trail held m marks p ≡ passed marks₁ → run_from n m p ≡ given i a → walk held m marks p ≡ went marks₁ a
    joined-given n e g = walk-joined n marks p ∙ rw (e, g)

    pub joined-refused : {marks₁ : List ℕ} (n : ℕ) {x : Fault} → trail held m marks p ≡ passed marks₁ → run_from n m p ≡ refused x → walk held m marks p ≡ halted x
    joined-refused n e g = walk-joined n marks p ∙ rw (e, g)

  -- the trail of a reading that goes on with another
  module _ {A B : Type 0} (marks : List ℕ) (p : Reading A) (k : A → Reading B) where
    pub trail-faulted : {x : Fault} → trail held m marks p ≡ faulted x → trail held m marks (p >>= k) ≡ faulted x
    trail-faulted e = trail-from 0 marks p k ∙ rw e

    pub trail-given : {marks₁ : List ℕ} {i : ℕ} {a : A} → trail held m marks p ≡ passed marks₁ → run m p ≡ given i a
        → trail held m marks (p >>= k) ≡ trail held m marks₁ (k a)
    trail-given e g = trail-from 0 marks p k ∙ rw (e, g)

    pub trail-refused : {marks₁ : List ℕ} {x : Fault} → trail held m marks p ≡ passed marks₁ → run m p ≡ refused x
        → trail held m marks (p >>= k) ≡ passed marks₁
    trail-refused e g = trail-from 0 marks p k ∙ rw (e, g)

  pub trail-done : {A : Type 0} (marks : List ℕ) (a : A) → trail held m marks (done a) ≡ passed marks
  unfolding trail
  trail-done marks a = refl

  -- .. that asks for nothing
  pub trail-quiet : {A B : Type 0} (marks : List ℕ) (p : Reading A) (k : A → Reading B)
      → ((a : A) (marks₁ : List ℕ) → trail held m marks₁ (k a) ≡ passed marks₁) → trail held m marks (p >>= k) ≡ trail held m marks p
  unfolding trail ◌>>=◌
  trail-quiet marks (done a) k h = h a marks
  trail-quiet marks (refuse x) k h = refl
  trail-quiet marks (ask q f) k h =
      ap (by_word (walk held m marks (ask q done))) (fun_ext λ marks₁. fun_ext λ w. trail-quiet marks₁ (f w) k h)

  -- words one after the other: a turn of the loop that marks them
  module _ (marks : List ℕ) (l : Bool) (left : ℕ) (p : Pointer) (rs : List Role) where
    turned : 0 < left → trail held m marks (read_as rs (words l left p))
        ≡ by_word (walk held m marks (ask (in_role (role_at rs 0) (asking p)) done)) (λ marks₁ w. trail held m marks₁ (read_as (drop 1 rs) (words l (left - 1) (onward l p))))
    unfolding trail
    turned h =
        let e : left ≡ suc (left - 1) = omega arith in
        ap (λ (i : ℕ). trail held m marks (read_as rs (words l i p))) e
        ∙ ap (trail held m marks) (words-turn l (left - 1) p rs)
        ∙ ap (by_word (walk held m marks (ask (in_role (role_at rs 0) (asking p)) done)))
        (fun_ext λ marks₁. fun_ext λ w. trail-quiet marks₁ (read_as (drop 1 rs) (words l (left - 1) (onward l p))) (λ ws. done (w ∷ ws)) (λ ws marks₂. refl))

    pub words-halted : {x : Fault} → 0 < left → walk held m marks (ask (in_role (role_at rs 0) (asking p)) done) ≡ halted x
        → trail held m marks (read_as rs (words l left p)) ≡ faulted x
    words-halted h e = turned h ∙ rw e

    pub words-went : {marks₁ : List ℕ} {w : ℕ} → 0 < left → walk held m marks (ask (in_role (role_at rs 0) (asking p)) done) ≡ went marks₁ w
        → trail held m marks (read_as rs (words l left p)) ≡ trail held m marks₁ (read_as (drop 1 rs) (words l (left - 1) (onward l p)))
    words-went h e = turned h ∙ rw e

  pub words-none : (marks : List ℕ) (l : Bool) (left : ℕ) (p : Pointer) (rs : List Role) → left ≡ 0 → trail held m marks (read_as rs (words l left p)) ≡ passed marks
  unfolding trail words read_as
  words-none marks l left p [] e = ap (λ (i : ℕ). trail held m marks (words l i p)) e
  words-none marks l left p (r ∷ rs) e = ap (λ (i : ℕ). trail held m marks (read_as (r ∷ rs) (words l i p))) e

  -- words, and what comes after them: it goes on from those that stand in memory
  pub trail-words : {A : Type 0} (marks : List ℕ) (l : Bool) (n : ℕ) (p : Pointer) (rs : List Role) (k : List ℕ → Reading A)
      → trail held m marks (read_as rs (words l n p) >>= k)
      ≡ trail_then (trail held m marks (read_as rs (words l n p))) (λ marks₁. trail held m marks₁ (k (words_in l m n p.address)))
  unfolding trail words read_as words_in ◌>>=◌ walk
  trail-words marks l zero p [] k = refl
  trail-words marks l zero p (r ∷ rs) k = refl
  trail-words marks l (suc n) p rs k =
      let q = in_role (role_at rs 0) (asking p) in
      let rest = read_as (drop 1 rs) (words l n (onward l p)) in
      ap (λ s. trail held m marks (s >>= k)) (words-turn l n p rs)
      ∙ tests_then (over_page_end q) (shared_word q) (absent q) (marked marks q) (word_of m q.address)
      (read_on held m q.address q.from) (ltb (q.address / 2) (length m)) (shared marks q)
      (λ marks₁ w. trail held m marks₁ (rest >>= (λ ws. done (w ∷ ws)) >>= k)) (λ marks₁ w. trail held m marks₁ (rest >>= λ ws. done (w ∷ ws)))
      (λ marks₁. trail held m marks₁ (k (word_of m p.address ∷ words_in l m n (next_word l p.address))))
      (ap (trail held m (marked marks q)) (bind-bind rest (λ ws. done (word_of m p.address ∷ ws)) k)
      ∙ trail-words (marked marks q) l n (onward l p) (drop 1 rs) (λ ws. k (word_of m p.address ∷ ws))
      ∙ ap (λ t. trail_then t (λ marks₁. trail held m marks₁ (k (word_of m p.address ∷ words_in l m n (next_word l p.address)))))
      (sym (trail-quiet (marked marks q) rest (λ ws. done (word_of m p.address ∷ ws)) (λ ws marks₂. refl))))
      ∙ ap (λ s. trail_then (trail held m marks s) (λ marks₁. trail held m marks₁ (k (word_of m p.address ∷ words_in l m n (next_word l p.address)))))
      (sym (words-turn l n p rs))
