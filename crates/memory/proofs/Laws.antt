-- The laws by which a proof follows a reading: what it comes to, one step after the other.
use Rattle.std.proofs.Common.{◌≡◌, ℕ, ◌+◌, ◌/◌, Bool, true, false, ltb, List, [], ◌∷◌, ◌++◌, length, get_or, sym, refl, ap, ◌∙◌, add-zero, add_assoc, arith, Some, None, Result, Ok, Err, IsErrAnd}
use Rattle.memory.specs.declared.Fault.{Fault}
use Rattle.memory.specs.declared.Pointer.{Pointer}
use Rattle.memory.specs.declared.Refusal.{Refusal}
use Rattle.memory.specs.Word.{when◌then◌else◌}
use Rattle.memory.specs.Reading.{Reading, done, refuse, ask, asking, blaming, fault, absent, missing, ◌>>=◌, check, check_of, nobody, each, fetch, Outcome, given, refused, run_from, run, refusal, told_in}

-- what the exit of a `?` returns: the refusal that it met
pub exit : {A E : Type 0} (r : Result A E) {x : E} → IsErrAnd r (λ y. y ≡ x) → r ≡ Err x
exit (Ok _) e = elim e [ ]
exit (Err y) e = ap Err e

-- what was read, and what refused, from what a call tells of it
pub told-ok : {T : Type 0} (row : ℕ) (r : Result T Fault) {t : T} → told_in row r ≡ Ok t → r ≡ Ok t
told-ok row (Ok s) {t} e = let k : s ≡ t = cc in ap Ok k
told-ok row (Err x) e = let z : ◌≡◌ {A = ℕ} 0 1 = cc in absurd (omega arith)

pub told-err : {T : Type 0} (row : ℕ) (r : Result T Fault) {y : Refusal} → told_in row r ≡ Err y → (x : Fault) × (r ≡ Err x) × (y ≡ refusal row x)
told-err row (Ok _) e = let z : ◌≡◌ {A = ℕ} 0 1 = cc in absurd (omega arith)
told-err row (Err x) e = (x, refl, cc)

-- go on from an outcome
abbrev next : {A B : Type 0} → Outcome A → (ℕ → A → Outcome B) → Outcome B
next (given n a) k = k n a
next (refused x) k = refused x

if-next : {A B : Type 0} (b : Bool) (x y : Outcome A) (k : ℕ → A → Outcome B)
    → (when b then next x k else next y k) ≡ next (when b then x else y) k
if-next true x y k = refl
if-next false x y k = refl

run_bind : {A B : Type 0} (n : ℕ) (m : List ℕ) (p : Reading A) (k : A → Reading B)
    → run_from n m (p >>= k) ≡ next (run_from n m p) (λ i a. run_from i m (k a))
unfolding run_from ◌>>=◌
run_bind n m (done a) k = refl
run_bind n m (refuse x) k = refl
run_bind n m (ask q f) k =
    rw (run_bind (n + 1) m (f (get_or m (q.address / 2) 0)) k)
    (if-next (ltb (q.address / 2) (length m)) (run_from (n + 1) m (f (get_or m (q.address / 2) 0))) (refused (absent q)) (λ i a. run_from i m (k a)))

-- a reading that goes on with another: from where the first came to, or refused with it
module _ {A B : Type 0} (n : ℕ) (m : List ℕ) (p : Reading A) (k : A → Reading B) where
  pub bind-given : {i : ℕ} {a : A} → run_from n m p ≡ given i a → run_from n m (p >>= k) ≡ run_from i m (k a)
  bind-given e = run_bind n m p k ∙ rw e

  pub bind-refused : {x : Fault} → run_from n m p ≡ refused x → run_from n m (p >>= k) ≡ refused x
  bind-refused e = run_bind n m p k ∙ rw e

  -- the grouping of two steps is free
  pub bind-bind : {C : Type 0} (h : B → Reading C) → run_from n m (p >>= k >>= h) ≡ run_from n m (p >>= λ a. k a >>= h)
  bind-bind h = run_bind n m (p >>= k) h ∙ rw (run_bind n m p k) (regroup (run_from n m p))
      ∙ sym (run_bind n m p (λ a. k a >>= h))
    where
      regroup : (o : Outcome A) → next (next o (λ i a. run_from i m (k a))) (λ i b. run_from i m (h b)) ≡ next o (λ i a. run_from i m (k a >>= h))
      regroup (given i a) = sym (run_bind i m (k a) h)
      regroup (refused x) = refl

-- a reading that ends as it is
pub bind_done : {A : Type 0} (n : ℕ) (m : List ℕ) (p : Reading A) → run_from n m p ≡ run_from n m (p >>= done)
unfolding run_from
bind_done n m p = same (run_from n m p) ∙ sym (run_bind n m p done)
  where
    same : {A : Type 0} (o : Outcome A) → o ≡ next o given
    same (given i a) = refl
    same (refused x) = refl

pub run-done : {A : Type 0} (n : ℕ) (m : List ℕ) (a : A) → run_from n m (done a) ≡ given n a
unfolding run_from
run-done n m a = refl

pub run-refuse : {A : Type 0} (n : ℕ) (m : List ℕ) (x : Fault) → run_from {A = A} n m (refuse x) ≡ refused x
unfolding run_from
run-refuse n m x = refl

-- a check that passes, and one that does not
module _ {A : Type 0} (n : ℕ) (m : List ℕ) (i : ℕ) (p : Pointer) (b : Bool) (k : Unit {0} → Reading A) where
  pub check-of-passed : b ≡ true → run_from n m (check_of i p b >>= k) ≡ run_from n m (k tt)
  unfolding ◌>>=◌
  check-of-passed e = rw e

  pub check-of-failed : b ≡ false → run_from n m (check_of i p b >>= k) ≡ refused (blaming i p)
  unfolding ◌>>=◌ run_from
  check-of-failed e = rw e

module _ {A : Type 0} (n : ℕ) (m : List ℕ) (i : ℕ) (b : Bool) (k : Unit {0} → Reading A) where
  pub check-passed : b ≡ true → run_from n m (check i b >>= k) ≡ run_from n m (k tt)
  check-passed e = check-of-passed n m i nobody b k e

  pub check-failed : b ≡ false → run_from n m (check i b >>= k) ≡ refused (fault i)
  check-failed e = check-of-failed n m i nobody b k e

-- what `word_at` says, of a reading that asks there
if_word : {A : Type 0} (b : Bool) (v x : ℕ) (y : ℕ → Outcome A) (z : Outcome A)
    → (when b then Some v else None) ≡ Some x → (when b then y v else z) ≡ y x
if_word true v x y z e = let q : v ≡ x = cc in rw q
if_word false v x y z e = let q : true ≡ false = cc in cc

if-absent : {A : Type 0} (b : Bool) (v : ℕ) (y z : Outcome A) → (when b then Some v else None) ≡ None → (when b then y else z) ≡ z
if-absent true v y z e = cc
if-absent false v y z e = refl

module _ {A : Type 0} (n : ℕ) (m : List ℕ) (p : Pointer) (f : ℕ → Reading A) where
  pub ask-word : (x : ℕ) → fetch m p.address ≡ Some x → run_from n m (ask (asking p) f) ≡ run_from (n + 1) m (f x)
  unfolding run_from
  ask-word x e =
      if_word (ltb (p.address / 2) (length m)) (get_or m (p.address / 2) 0) x (λ v. run_from (n + 1) m (f v)) (refused (missing p)) e

  pub ask-absent : fetch m p.address ≡ None → run_from n m (ask (asking p) f) ≡ refused (missing p)
  unfolding run_from
  ask-absent e = if-absent (ltb (p.address / 2) (length m)) (get_or m (p.address / 2) 0) _ _ e

-- what a reading comes to after n words, from what it comes to at the start: for a callee that counts from 0
abbrev pub after : {A : Type 0} → ℕ → Outcome A → Outcome A
after n (given i a) = given (n + i) a
after n (refused x) = refused x

if-after : {A : Type 0} (n : ℕ) (b : Bool) (x y : Outcome A) → (when b then after n x else after n y) ≡ after n (when b then x else y)
if-after n true x y = refl
if-after n false x y = refl

run-plus : {A : Type 0} (n i : ℕ) (m : List ℕ) (p : Reading A) → run_from (n + i) m p ≡ after n (run_from i m p)
unfolding run_from
run-plus n i m (done a) = refl
run-plus n i m (refuse x) = refl
run-plus n i m (ask q f) =
    rw (add_assoc n i 1, run-plus n (i + 1) m (f (get_or m (q.address / 2) 0)))
    (if-after n (ltb (q.address / 2) (length m)) (run_from (i + 1) m (f (get_or m (q.address / 2) 0))) (refused (absent q)))

pub run-after : {A : Type 0} (n : ℕ) (m : List ℕ) (p : Reading A) → run_from n m p ≡ after n (run m p)
run-after n m p = ap (λ (i : ℕ). run_from i m p) (sym (add-zero n)) ∙ run-plus n 0 m p

-- a step whose outcome was counted from 0, and what comes after it
module _ {A B : Type 0} (n : ℕ) (m : List ℕ) (p : Reading A) (k : A → Reading B) where
  pub step_given : {i : ℕ} {a : A} → run m p ≡ given i a → run_from n m (p >>= k) ≡ run_from (n + i) m (k a)
  step_given e = bind-given n m p k (run-after n m p ∙ ap (after n) e)

  pub step-refused : {x : Fault} → run m p ≡ refused x → run_from n m (p >>= k) ≡ refused x
  step-refused e = bind-refused n m p k (run-after n m p ∙ ap (after n) e)

-- the same step, and what comes after it with k more words read before
pub step_same : {A B : Type 0} (n k : ℕ) (m : List ℕ) (p : Reading A) (f g : A → Reading B)
    → ((i : ℕ) (a : A) → run_from i m (f a) ≡ run_from (i + k) m (g a)) → run_from n m (p >>= f) ≡ run_from (n + k) m (p >>= g)
unfolding run_from ◌>>=◌
step_same n k m (done a) f g h = h n a
step_same n k m (refuse x) f g h = refl
step_same {A} {B} n k m (ask r q) f g h =
    let w = get_or m (r.address / 2) 0 in
    let moved : n + 1 + k ≡ n + k + 1 = omega arith in
    ap (λ (o : Outcome B). when ltb (r.address / 2) (length m) then o else refused (absent r))
    (step_same (n + 1) k m (q w) f g h ∙ ap (λ (i : ℕ). run_from i m (q w >>= g)) moved)

-- readings for a list: those for its front, then those for the rest
pub each_append : {A B : Type 0} (n : ℕ) (m : List ℕ) (f : A → B → Reading B) (xs ys : List A) (b : B)
    → run_from n m (each f (xs ++ ys) b) ≡ run_from n m (each f xs b >>= each f ys)
unfolding each ◌>>=◌
each_append n m f [] ys b = refl
each_append n m f (x ∷ xs) ys b =
    step_same n 0 m (f x b) (each f (xs ++ ys)) (λ c. each f xs c >>= each f ys)
    (λ i c. each_append i m f xs ys c ∙ ap (λ (j : ℕ). run_from j m (each f xs c >>= each f ys)) (sym (add-zero i)))
    ∙ ap (λ (j : ℕ). run_from j m (f x b >>= λ c. each f xs c >>= each f ys)) (add-zero n)
    ∙ sym (bind-bind n m (f x b) (each f xs) (each f ys))
