-- Words one after the other: a turn of the loop that reads them, and the address some words further.
use Rattle.std.proofs.Common.{◌≡◌, ℕ, suc, ◌+◌, ◌-◌, ◌<◌, Bool, List, [], ◌∷◌, length, Result, Ok, Err, Some, None, sym, ap, ◌∙◌, arith}
use Rattle.memory.specs.declared.Fault.{Fault}
use Rattle.memory.specs.declared.Pointer.{Pointer}
use Rattle.memory.specs.Reading.{Reading, done, ask, asking, missing, ◌>>=◌, fetch, given, refused, run_from, run}
use Rattle.memory.specs.Address.{onward, ahead, words}
use Rattle.memory.specs.Answers.{words_read}
use Rattle.memory.proofs.Laws.{bind-bind, ask-word, ask-absent}

module _ (n : ℕ) (m : List ℕ) (l : Bool) (left : ℕ) (p : Pointer) {A : Type 0} (k : List ℕ → Reading A) where
  words-turn : 0 < left → words l left p ≡ ask (asking p) (λ w. words l (left - 1) (onward l p) >>= λ ws. done (w ∷ ws))
  unfolding words ◌>>=◌
  words-turn h =
      let e : left ≡ suc (left - 1) = omega arith in
      ap (λ (i : ℕ). words l i p) e

  pub words-none : left ≡ 0 → run_from n m (words l left p >>= k) ≡ run_from n m (k [])
  unfolding words ◌>>=◌
  words-none e = ap (λ (i : ℕ). run_from n m (words l i p >>= k)) e

  pub words-word : (x : ℕ) → 0 < left → fetch m p.address ≡ Some x
      → run_from n m (words l left p >>= k) ≡ run_from (n + 1) m (words l (left - 1) (onward l p) >>= λ ws. k (x ∷ ws))
  unfolding ◌>>=◌
  words-word x h e =
      ap (λ (q : Reading (List ℕ)). run_from n m (q >>= k)) (words-turn h)
      ∙ ask-word n m p _ x e
      ∙ bind-bind (n + 1) m (words l (left - 1) (onward l p)) (λ ws. done (x ∷ ws)) k

  pub words-absent : 0 < left → fetch m p.address ≡ None → run_from n m (words l left p >>= k) ≡ refused (missing p)
  unfolding ◌>>=◌
  words-absent h e = ap (λ (q : Reading (List ℕ)). run_from n m (q >>= k)) (words-turn h) ∙ ask-absent n m p _ e

pub ahead_none : (l : Bool) (left a : ℕ) → left ≡ 0 → ahead l left a ≡ a
unfolding ahead
ahead_none l left a e = ap (λ (i : ℕ). ahead l i a) e

-- what `read_words` says, of the words it was asked for
module _ (m : List ℕ) (l : Bool) (k : ℕ) (p : Pointer) (r : Result (Unit {0}) Fault) (ws : List ℕ) where
  pub read_whole : words_read r ws ≡ run m (words l k p) → r ≡ Ok tt → length ws ≡ k → run m (words l k p) ≡ given k ws
  read_whole e h len = sym e ∙ ap (λ (x : Result (Unit {0}) Fault). words_read x ws) h ∙ ap (λ (i : ℕ). given i ws) len

  pub read-refused : {x : Fault} → words_read r ws ≡ run m (words l k p) → r ≡ Err x → run m (words l k p) ≡ refused x
  read-refused e h = sym e ∙ ap (λ (y : Result (Unit {0}) Fault). words_read y ws) h
