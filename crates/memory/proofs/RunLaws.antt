-- Words that stand one after the other in memory: the address some words further as one sum, and what such a run reads.
use Rattle.std.proofs.Common.{◌≡◌, ℕ, zero, suc, ◌+◌, ◌-◌, ◌*◌, ◌/◌, ◌<◌, ◌≤◌, Bool, true, false, leb, List, [], ◌∷◌, length, get_or, take, drop, sym, refl, ap, ◌∙◌, ap₂, add-zero, zero-add, add-one, arith, length-drop, length-take-le, drop-cons, lt-ltb, le-leb, leb-false, leb-true, Some}
use borrow.Author.Tests.{lt-leb}
use Rattle.memory.specs.declared.Pointer.{Pointer}
use Rattle.memory.specs.Reading.{done, ◌>>=◌, fetch, given, run_from, run}
use Rattle.memory.specs.Address.{forward, next_word, ahead, onward, words}
use Rattle.memory.specs.Answers.{is_run}
use Rattle.memory.proofs.ReadBounds.{both}
use Rattle.memory.proofs.Laws.{bind_done, bind-given}
use Rattle.memory.proofs.WordLaws.{words-word}
use Rattle.memory.proofs.Step.{forward-forward, forward-sum}

-- whether k places from i on end by a place, without the sum
pub ends_by : (i k end : ℕ) → i ≤ end → leb k (end - i) ≡ leb (i + k) end
ends_by i k end h = cases (leb k (end - i)) refl
  where
    cases : (b : Bool) → leb k (end - i) ≡ b → leb k (end - i) ≡ leb (i + k) end
    cases true e = e ∙ sym (le-leb (i + k) end (omega (arith, leb-true k (end - i) e)))
    cases false e = e ∙ sym (lt-leb (i + k) end (omega (arith, leb-false k (end - i) e)))

-- the address k words further: one move, 2 bytes a word
pub ahead-forward : (l : Bool) (k a : ℕ) → ahead l (suc k) a ≡ forward l (2 * suc k) a
unfolding ahead next_word
ahead-forward l zero a = refl
ahead-forward l (suc k) a =
    let sum : 2 + 2 * suc k ≡ 2 * suc (suc k) = omega arith in
    ahead-forward l k (next_word l a) ∙ forward-forward l 2 (2 * suc k) a ∙ ap (λ (n : ℕ). forward l n a) sum

pub ahead-next : (l : Bool) (k a : ℕ) → next_word l (ahead l k a) ≡ ahead l (suc k) a
unfolding ahead
ahead-next l zero a = refl
ahead-next l (suc k) a = ahead-next l k (next_word l a)

-- j words and then k words further
pub ahead-add : (l : Bool) (j k a : ℕ) → ahead l k (ahead l j a) ≡ ahead l (j + k) a
unfolding ahead
ahead-add l zero k a = ap (λ (i : ℕ). ahead l i a) (sym (zero-add k))
ahead-add l (suc j) k a =
    let sum : suc (j + k) ≡ suc j + k = omega arith in
    ahead-add l j k (next_word l a) ∙ ap (λ (i : ℕ). ahead l i a) sum

pub ahead_more : (l : Bool) (k a : ℕ) → ahead l (k + 1) a ≡ next_word l (ahead l k a)
ahead_more l k a = ap (λ (i : ℕ). ahead l i a) (add-one k) ∙ sym (ahead-next l k a)

-- what a run is: it ends in memory, and no address before its end wraps
module _ (len a k : ℕ) where
  pub run_ends : (l : Bool) → is_run l len a k ≡ true → a / 2 + k ≤ len
  unfolding is_run
  run_ends l h = leb-true _ _ (both (leb (a / 2 + k) len) _ h).0

  pub run-ahead : (l : Bool) (j : ℕ) → is_run l len a k ≡ true → j < k → ahead l j a ≡ a + 2 * j
  unfolding is_run ahead
  run-ahead l zero h i = omega arith
  run-ahead l (suc j) h i =
      ahead-forward l j a ∙ forward-sum l (suc j) k a (leb-true _ _ (both (leb (a / 2 + k) len) _ h).1) i

-- the words of a run are there
pub run-fetch : (l : Bool) (m : List ℕ) (a k j : ℕ) → is_run l (length m) a k ≡ true → j < k
    → fetch m (ahead l j a) ≡ Some (get_or m (a / 2 + j) 0)
run-fetch l m a k j h i =
    let end = run_ends (length m) a k l h in
    let at : (a + 2 * j) / 2 ≡ a / 2 + j = omega arith in
    ap (fetch m) (run-ahead (length m) a k l j h i) ∙ rw (at, lt-ltb (a / 2 + j) (length m) (omega arith))

-- reading a run: its words, as many as asked for
pub run-words : (l : Bool) (m : List ℕ) (p : Pointer) (k : ℕ) → is_run l (length m) p.address k ≡ true
    → run m (words l k p) ≡ given k (take k (drop (p.address / 2) m))
unfolding ahead words run_from
run-words l m p k h = rest 0 0 k p refl (zero-add k) ∙ ap₂ given (zero-add k) (ap (λ (o : ℕ). take k (drop o m)) (add-zero (p.address / 2)))
  where
    rest : (n j i : ℕ) (q : Pointer) → q.address ≡ ahead l j p.address → j + i ≡ k
        → run_from n m (words l i q) ≡ given (n + i) (take i (drop (p.address / 2 + j) m))
    rest n j zero q a e = ap (λ (i : ℕ). given i []) (sym (add-zero n))
    rest n j (suc i) q a e =
        let x = get_or m (p.address / 2 + j) 0 in
        let end = run_ends (length m) p.address k l h in
        let there : fetch m q.address ≡ Some x = ap (fetch m) a ∙ run-fetch l m p.address k j h (omega arith) in
        let left : suc i - 1 ≡ i = omega arith in
        let count : n + 1 + i ≡ n + suc i = omega arith in
        let next = rest (n + 1) (suc j) i (onward l q) (ap (next_word l) a ∙ ahead-next l j p.address) (omega arith) in
        let place : p.address / 2 + suc j ≡ suc (p.address / 2 + j) = omega arith in
        bind_done n m (words l (suc i) q)
        ∙ words-word n m l (suc i) q done x (omega arith) there
        ∙ ap (λ (o : ℕ). run_from (n + 1) m (words l o (onward l q) >>= λ ws. done (x ∷ ws))) left
        ∙ bind-given (n + 1) m (words l i (onward l q)) (λ ws. done (x ∷ ws)) next
        ∙ ap₂ given count (ap (λ (o : ℕ). x ∷ take i (drop o m)) place ∙ ap (take (suc i)) (sym (drop-cons m (p.address / 2 + j) 0 (omega arith))))

-- what a copy of a run is, and a slice of no words
module _ (l : Bool) (m : List ℕ) (p : Pointer) (ys : List ℕ) where
  pub run-copied : (k : ℕ) → is_run l (length m) p.address k ≡ true → ys ≡ take k (drop (p.address / 2) m)
      → given (length ys) ys ≡ run m (words l k p)
  run-copied k h e =
      let end = run_ends (length m) p.address k l h in
      let len : length ys ≡ k = ap length e ∙ length-take-le k (drop (p.address / 2) m) (simp length-drop (omega arith)) in
      ap (λ (i : ℕ). given i ys) len ∙ ap (given k) e ∙ sym (run-words l m p k h)

  pub no_words : length ys ≡ 0 → given (length ys) ys ≡ run m (words l (length ys) p)
  unfolding words run_from
  no_words e = none ys e
    where
      none : (xs : List ℕ) → length xs ≡ 0 → given (length xs) xs ≡ run m (words l (length xs) p)
      none [] h = refl
      none (x ∷ xs) h = absurd (omega arith)
