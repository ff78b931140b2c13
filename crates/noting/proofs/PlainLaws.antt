-- Codes that have the latch: words none of whose codes invokes, and what the codes of such words come to.
use Rattle.std.proofs.Common.{Some}
use mathlib.Core.Path.{◌≡◌, refl, ap, ap₂, sym, fun_ext, ◌∙◌}
use mathlib.Core.List.{List, [], ◌∷◌}
use mathlib.Core.Bool.{Bool, true, false, ◌&&◌, ◌||◌, not, or_assoc}
use Prim.Native.Nat.{ℕ, zero, suc, ◌+◌, ◌-◌, ◌*◌, ◌/◌, ◌<◌, ◌≤◌}
use native.Mathlib.Omega.{arith}
use native.Mathlib.Nat.{add-zero, zero-add}
use native.Mathlib.Numerals.{add-one}
use lib.ListN.{length, get_or, drop, set}
use lib.Seq.{sets}
use lib.Dec.{ltb}
use Rattle.memory.specs.Word.{high, low}
use Rattle.memory.specs.declared.Pointer.{Pointer}
use Rattle.memory.specs.Address.{next_word, ahead, onward, further}
use Rattle.memory.specs.Reading.{Reading, done, refuse, ask, asking, ◌>>=◌, each, fetch, given}
use Rattle.memory.specs.Answers.{is_run}
use Rattle.memory.proofs.RunLaws.{run_ends, run-ahead, run-fetch}
use Rattle.memory.proofs.ReadBounds.{if-cases}
use Rattle.codes.specs.declared.CodeSettings.{CodeSettings}
use Rattle.codes.specs.declared.Source.{Source}
use Rattle.codes.specs.declared.AttributeList.{AttributeList}
use Rattle.codes.specs.Attribute.{invokes, ignores}
use Rattle.codes.specs.Codes.{Drawing, put, character, examine, word_codes, codes}
use Rattle.runs.specs.Runs.{codes_in, characters}
use Rattle.runs.proofs.RunLaws.{codes-last, codes-both}
use Rattle.noting.specs.Noting.{pointing, noted, noting, in_turn, some_invoke}
use Rattle.noting.proofs.NotingLaws.{noting-bind, noting-word, noting-done}

-- tests joined by "or"
or-join : (a b c d : Bool) → a || (b || c || d) ≡ a || (b || c) || d
or-join true b c d = refl
or-join false b c d = refl

or-false : (b : Bool) → b || false ≡ b
or-false true = refl
or-false false = refl

-- whether one of the words invokes: the next word, and two parts of them
module _ (flag : ℕ) (m : List ℕ) where
  pub some_more : (b : Bool) (from n i : ℕ) → i < n
      → b || some_invoke flag m (from + i) (n - i)
      ≡ b || (invokes flag (high (get_or m (from + i) 0)) || invokes flag (low (get_or m (from + i) 0)))
      || some_invoke flag m (from + (i + 1)) (n - (i + 1))
  unfolding some_invoke
  some_more b from n i h =
      let left : n - i ≡ suc (n - (i + 1)) = omega arith in
      let place : suc (from + i) ≡ from + (i + 1) = omega arith in
      let first = invokes flag (high (get_or m (from + i) 0)) in
      let second = invokes flag (low (get_or m (from + i) 0)) in
      ap (λ (k : ℕ). b || some_invoke flag m (from + i) k) left
      ∙ or-join b first second (some_invoke flag m (suc (from + i)) (n - (i + 1)))
      ∙ ap (λ (k : ℕ). b || (first || second) || some_invoke flag m k (n - (i + 1))) place

  pub some-begun : (from n : ℕ) → some_invoke flag m from n ≡ false || some_invoke flag m (from + 0) (n - 0)
  some-begun from n =
      let left : n ≡ n - 0 = omega arith in
      ap (λ (k : ℕ). some_invoke flag m k n) (sym (add-zero from)) ∙ ap (λ (k : ℕ). some_invoke flag m (from + 0) k) left

  pub some-done : (b : Bool) (from n i : ℕ) → n ≤ i → b || some_invoke flag m (from + i) (n - i) ≡ b
  unfolding some_invoke
  some-done b from n i h =
      let left : n - i ≡ 0 = omega arith in
      ap (λ (k : ℕ). b || some_invoke flag m (from + i) k) left ∙ or-false b

  some-append : (from j k : ℕ) → some_invoke flag m from (j + k) ≡ some_invoke flag m from j || some_invoke flag m (from + j) k
  unfolding some_invoke
  some-append from zero k =
      ap (λ (n : ℕ). some_invoke flag m from n) (zero-add k) ∙ ap (λ (n : ℕ). some_invoke flag m n k) (sym (add-zero from))
  some-append from (suc j) k =
      let sum : suc j + k ≡ suc (j + k) = omega arith in
      let place : suc from + j ≡ from + suc j = omega arith in
      let here = invokes flag (high (get_or m from 0)) || invokes flag (low (get_or m from 0)) in
      ap (λ (n : ℕ). some_invoke flag m from n) sum
      ∙ ap (λ (b : Bool). here || b) (some-append (suc from) j k)
      ∙ sym (or_assoc here (some_invoke flag m (suc from) j) (some_invoke flag m (suc from + j) k))
      ∙ ap (λ (n : ℕ). here || some_invoke flag m (suc from) j || some_invoke flag m n k) place

  pub some-none : (from j k : ℕ) → some_invoke flag m from j ≡ false → some_invoke flag m (from + j) k ≡ false
      → some_invoke flag m from (j + k) ≡ false
  some-none from j k e f = some-append from j k ∙ ap₂ (◌||◌) e f

  -- .. of one word
  pub some_one : (k : ℕ) → invokes flag (high (get_or m k 0)) || invokes flag (low (get_or m k 0)) ≡ false → some_invoke flag m k 1 ≡ false
  unfolding some_invoke
  some_one k e = none (invokes flag (high (get_or m k 0))) (invokes flag (low (get_or m k 0))) e
    where
      none : (a b : Bool) → a || b ≡ false → a || b || false ≡ false
      none true b e = e
      none false true e = e
      none false false e = refl

-- one reading, then another, then a third
bind-bind : {A B C : Type 0} (p : Reading A) (f : A → Reading B) (g : B → Reading C) → p >>= f >>= g ≡ p >>= λ a. f a >>= g
unfolding ◌>>=◌
bind-bind (done a) f g = refl
bind-bind (refuse x) f g = refl
bind-bind (ask q h) f g = ap (ask q) (fun_ext λ w. bind-bind (h w) f g)

-- the codes of k words, and then those that are left
module _ (σ : CodeSettings) (source : Source) (end : ℕ) where
  codes-parts : (k left : ℕ) (p : Pointer) (d : Drawing)
      → codes σ source end (2 * k + left) p d ≡ codes σ source end (2 * k) p d >>= codes σ source end left (further σ.linear k p)
  unfolding codes ahead ◌>>=◌
  codes-parts zero left p d =
      let sum : 2 * 0 + left ≡ left = omega arith in
      ap (λ (i : ℕ). codes σ source end i p d) sum
  codes-parts (suc k) left p d =
      let sum : 2 * suc k + left ≡ suc (suc (2 * k + left)) = omega arith in
      let two : suc (suc (2 * k)) ≡ 2 * suc k = omega arith in
      let rest = codes σ source end left (further σ.linear k (onward σ.linear p)) in
      let next = codes σ source end (2 * k) (onward σ.linear p) in
      let same = fun_ext λ d₁. codes-parts k left (onward σ.linear p) d₁ in
      ap (λ (i : ℕ). codes σ source end i p d) sum
      ∙ ap (ask (asking p)) (fun_ext λ w.
      ap (λ (f : Drawing → Reading Drawing). word_codes σ source end 2 w d >>= f) same
      ∙ sym (bind-bind (word_codes σ source end 2 w d) next rest))
      ∙ ap (λ (i : ℕ). codes σ source end i p d >>= rest) two

  codes-split : (n : ℕ) (m l : List ℕ) (k left : ℕ) (p : Pointer) (d : Drawing) {n₁ : ℕ} {d₁ : Drawing} {l₁ : List ℕ}
      → noting n m l (codes σ source end (2 * k) p d) ≡ noted (given n₁ d₁) l₁
      → noting n m l (codes σ source end (2 * k + left) p d) ≡ noting n₁ m l₁ (codes σ source end left (further σ.linear k p) d₁)
  codes-split n m l k left p d e =
      ap (noting n m l) (codes-parts k left p d)
      ∙ noting-bind n m l (codes σ source end (2 * k) p d) (codes σ source end left (further σ.linear k p)) e

  -- .. of a run
  codes-from : (left : ℕ) (p q : Pointer) (d : Drawing) → (0 < left → p ≡ q) → codes σ source end left p d ≡ codes σ source end left q d
  unfolding codes
  codes-from zero p q d e = refl
  codes-from (suc left) p q d e = ap (λ (p : Pointer). codes σ source end (suc left) p d) (e (omega arith))

  pub run-split : (n : ℕ) (m l : List ℕ) (k count a from : ℕ) (d : Drawing) {n₁ : ℕ} {d₁ : Drawing} {l₁ : List ℕ}
      → is_run σ.linear (length m) a ((count + 1) / 2) ≡ true → 2 * k ≤ count
      → noting n m l (codes σ source end (2 * k) (pointing a from) d) ≡ noted (given n₁ d₁) l₁
      → noting n m l (codes σ source end count (pointing a from) d)
      ≡ noting n₁ m l₁ (codes σ source end (count - 2 * k) (pointing (a + 2 * k) from) d₁)
  run-split n m l k count a from d {n₁} {d₁} {l₁} h few e =
      let sum : count ≡ 2 * k + (count - 2 * k) = omega arith in
      ap (λ (i : ℕ). noting n m l (codes σ source end i (pointing a from) d)) sum
      ∙ codes-split n m l k (count - 2 * k) (pointing a from) d e
      ∙ ap (noting n₁ m l₁)
      (codes-from (count - 2 * k) (further σ.linear k (pointing a from)) (pointing (a + 2 * k) from) d₁ (λ some.
      ap (λ (b : ℕ). pointing b from) (run-ahead (length m) a ((count + 1) / 2) σ.linear k h (omega arith))))

  -- no codes
  pub codes-none : (n : ℕ) (m l : List ℕ) (count : ℕ) (p : Pointer) (d : Drawing) → count ≡ 0
      → noting n m l (codes σ source end count p d) ≡ noted (given n d) l
  unfolding codes
  codes-none n m l count p d e = ap (λ (i : ℕ). noting n m l (codes σ source end i p d)) e ∙ noting-done n m l d

-- characters with the latch leave the list in use and the latch
module _ (hidden : Bool) (source : Source) (end a : ℕ) where
  character-list : (code : ℕ) (d : Drawing)
      → ((character hidden source end a code d).pen.list ≡ d.pen.list)
      × ((character hidden source end a code d).pen.latch ≡ d.pen.latch)
  unfolding character put
  character-list code d =
      if-cases (λ (e : Drawing). (e.pen.list ≡ d.pen.list) × (e.pen.latch ≡ d.pen.latch))
      ((hidden || not (ignores a)) && ltb d.pen.column end) (λ _. (refl, refl)) (λ _. (refl, refl))

  pub characters-list : (cs : List ℕ) (d : Drawing) → (characters hidden source end a cs d).pen.list ≡ d.pen.list
  unfolding characters
  characters-list [] d = refl
  characters-list (c ∷ cs) d = characters-list cs (character hidden source end a c d) ∙ (character-list c d).0

-- a word none of whose codes takes a word of a list, and the words after it
plain-parts : (b x y z : Bool) → b && (x || y || z) ≡ false → (x && b ≡ false) × (y && b ≡ false) × (b && z ≡ false)
plain-parts true true y z e = let q : ◌≡◌ {A = ℕ} 0 1 = cc in absurd (omega arith)
plain-parts true false true z e = let q : ◌≡◌ {A = ℕ} 0 1 = cc in absurd (omega arith)
plain-parts true false false z e = (refl, refl, e)
plain-parts false true true z e = (refl, refl, refl)
plain-parts false true false z e = (refl, refl, refl)
plain-parts false false true z e = (refl, refl, refl)
plain-parts false false false z e = (refl, refl, refl)

module _ (m : List ℕ) (σ : CodeSettings) (source : Source) (end : ℕ) where
  -- one code that has the latch
  plain_code : (n : ℕ) (l : List ℕ) (code : ℕ) (d : Drawing) → invokes σ.flag code && d.pen.list.present ≡ false
      → noting n m l (examine σ source end code d) ≡ noted (given n (character σ.hidden source end d.pen.latch code d)) l
  unfolding examine
  plain_code n l code d t = rw t (noting-done n m l (character σ.hidden source end d.pen.latch code d))

  -- codes whose words are there: none takes a word of a list
  plain-there : (n : ℕ) (l : List ℕ) (count p : ℕ) (q : Pointer) (d : Drawing) (present : Bool) (latch : ℕ) → p + (count + 1) / 2 ≤ length m
      → ((j : ℕ) → j < (count + 1) / 2 → fetch m (ahead σ.linear j q.address) ≡ Some (get_or m (p + j) 0))
      → d.pen.list.present ≡ present → d.pen.latch ≡ latch → present && some_invoke σ.flag m p ((count + 1) / 2) ≡ false
      → noting n m l (codes σ source end count q d)
      ≡ noted (given (n + (count + 1) / 2) (characters σ.hidden source end latch (codes_in (drop p m) count) d))
      (sets l n (in_turn σ.linear ((count + 1) / 2) q.address))
  unfolding codes word_codes codes_in each ahead characters in_turn some_invoke
  plain-there n l zero p q d present latch h f e g t =
      let half : 0 ≡ (0 + 1) / 2 = omega arith in
      let count : n ≡ n + (0 + 1) / 2 = omega arith in
      noting-done n m l d
      ∙ ap₂ (λ (i k : ℕ). noted (given i d) (sets l n (in_turn σ.linear k q.address))) count half
  plain-there n l (suc zero) p q d present latch h f e g t =
      let w = get_or m p 0 in
      let first : fetch m q.address ≡ Some w = f 0 (omega arith) ∙ ap (λ (i : ℕ). Some (get_or m i 0)) (omega arith) in
      let parts = plain-parts present (invokes σ.flag (high w)) (invokes σ.flag (low w)) (some_invoke σ.flag m (suc p) 0) t in
      let none : invokes σ.flag (high w) && d.pen.list.present ≡ false =
      ap (λ (b : Bool). invokes σ.flag (high w) && b) e ∙ parts.0 in
      let l₁ = set l n q.address in
      noting-word n m l q (λ w. word_codes σ source end 1 w d) first
      ∙ noting-bind (n + 1) m l₁ (examine σ source end (high w) d) (each (examine σ source end) []) (plain_code (n + 1) l₁ (high w) d none)
      ∙ noting-done (n + 1) m l₁ (character σ.hidden source end d.pen.latch (high w) d)
      ∙ ap₂ (λ (a : ℕ) (cs : List ℕ). noted (given (n + 1) (characters σ.hidden source end a cs d)) l₁) g
      (sym (codes-last m p (omega arith)))
  plain-there n l (suc (suc k)) p q d present latch h f e g t =
      let w = get_or m p 0 in
      let first : fetch m q.address ≡ Some w = f 0 (omega arith) ∙ ap (λ (i : ℕ). Some (get_or m i 0)) (omega arith) in
      let half : suc ((k + 1) / 2) ≡ (suc (suc k) + 1) / 2 = omega arith in
      let parts =
      plain-parts present (invokes σ.flag (high w)) (invokes σ.flag (low w)) (some_invoke σ.flag m (suc p) ((k + 1) / 2))
      (ap (λ (i : ℕ). present && some_invoke σ.flag m p i) half ∙ t) in
      let l₁ = set l n q.address in
      let d₁ = character σ.hidden source end d.pen.latch (high w) d in
      let kept₁ = character-list σ.hidden source end d.pen.latch (high w) d in
      let list₁ : d₁.pen.list.present ≡ present = ap (λ (x : AttributeList). x.present) kept₁.0 ∙ e in
      let latch₁ : d₁.pen.latch ≡ latch = kept₁.1 ∙ g in
      let d₂ = character σ.hidden source end d₁.pen.latch (low w) d₁ in
      let kept₂ = character-list σ.hidden source end d₁.pen.latch (low w) d₁ in
      let list₂ : d₂.pen.list.present ≡ present = ap (λ (x : AttributeList). x.present) kept₂.0 ∙ list₁ in
      let latch₂ : d₂.pen.latch ≡ latch = kept₂.1 ∙ latch₁ in
      let none₁ : invokes σ.flag (high w) && d.pen.list.present ≡ false =
      ap (λ (b : Bool). invokes σ.flag (high w) && b) e ∙ parts.0 in
      let none₂ : invokes σ.flag (low w) && d₁.pen.list.present ≡ false =
      ap (λ (b : Bool). invokes σ.flag (low w) && b) list₁ ∙ parts.1 in
      let pair : noting (n + 1) m l₁ (word_codes σ source end 2 w d) ≡ noted (given (n + 1) d₂) l₁ =
      noting-bind (n + 1) m l₁ (examine σ source end (high w) d) (each (examine σ source end) (low w ∷ []))
      (plain_code (n + 1) l₁ (high w) d none₁)
      ∙ noting-bind (n + 1) m l₁ (examine σ source end (low w) d₁) (each (examine σ source end) []) (plain_code (n + 1) l₁ (low w) d₁ none₂)
      ∙ noting-done (n + 1) m l₁ d₂ in
      let rest =
      plain-there (n + 1) l₁ k (suc p) (onward σ.linear q) d₂ present latch (omega arith)
      (λ j less. f (suc j) (omega arith) ∙ ap (λ (i : ℕ). Some (get_or m i 0)) (omega arith)) list₂ latch₂ parts.2 in
      let two : ℕ → ℕ → Drawing = λ (a b : ℕ). character σ.hidden source end a (low w) (character σ.hidden source end b (high w) d) in
      let cs = codes_in (drop (suc p) m) k in
      let turn = in_turn σ.linear ((k + 1) / 2) (next_word σ.linear q.address) in
      let all = characters σ.hidden source end latch (codes_in (drop p m) (suc (suc k))) d in
      let same : characters σ.hidden source end latch cs d₂ ≡ all =
      ap₂ (λ (a b : ℕ). characters σ.hidden source end latch cs (two a b)) latch₁ g
      ∙ ap (λ (xs : List ℕ). characters σ.hidden source end latch xs d) (sym (codes-both m p (omega arith) k)) in
      let count : n + 1 + (k + 1) / 2 ≡ n + (suc (suc k) + 1) / 2 = omega arith in
      noting-word n m l q (λ w. word_codes σ source end 2 w d >>= codes σ source end k (onward σ.linear q)) first
      ∙ noting-bind (n + 1) m l₁ (word_codes σ source end 2 w d) (codes σ source end k (onward σ.linear q)) pair
      ∙ rest
      ∙ ap₂ (λ (i : ℕ) (x : Drawing). noted (given i x) (sets l₁ (n + 1) turn)) count same
      ∙ ap (λ (i : ℕ). noted (given (n + (suc (suc k) + 1) / 2) all) (sets l₁ i turn)) (add-one n)
      ∙ ap (λ (i : ℕ). noted (given (n + (suc (suc k) + 1) / 2) all) (sets l n (in_turn σ.linear i q.address))) half

  -- .. of a run
  pub plain-run : (n : ℕ) (l : List ℕ) (count : ℕ) (q : Pointer) (d : Drawing)
      → is_run σ.linear (length m) q.address ((count + 1) / 2) ≡ true
      → d.pen.list.present && some_invoke σ.flag m (q.address / 2) ((count + 1) / 2) ≡ false
      → noting n m l (codes σ source end count q d)
      ≡ noted (given (n + (count + 1) / 2) (characters σ.hidden source end d.pen.latch (codes_in (drop (q.address / 2) m) count) d))
      (sets l n (in_turn σ.linear ((count + 1) / 2) q.address))
  plain-run n l count q d h t =
      plain-there n l count (q.address / 2) q d d.pen.list.present d.pen.latch
      (run_ends (length m) q.address ((count + 1) / 2) σ.linear h)
      (λ j. run-fetch σ.linear m q.address ((count + 1) / 2) j h) refl refl t
