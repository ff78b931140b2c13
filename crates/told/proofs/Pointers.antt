-- Pointers that are held. What is read through one stands in memory word for word, so that the pointers among these words are held too.
use Rattle.std.proofs.Common.{Some}
use mathlib.Core.Path.{◌≡◌, refl, ap, sym, ◌∙◌}
use mathlib.Core.Bool.{Bool, true, false}
use mathlib.Core.List.{List, ◌∷◌}
use Prim.Native.Nat.{ℕ, zero, suc, ◌+◌, ◌<◌}
use native.Mathlib.Omega.{arith}
use lib.ListN.{drop}
use lib.Seq.{get_or-drop}
use lib.Dec.{ltb}
use borrow.Author.Tests.{ltb-true, ltb-false}
use Rattle.memory.specs.declared.Pointer.{Pointer}
use Rattle.memory.specs.Word.{when◌then◌else◌, at}
use Rattle.memory.specs.Reading.{◌>>=◌, fetch}
use Rattle.memory.specs.Address.{pointer, null, next_word, ahead, onward, further, words}
use Rattle.memory.proofs.ReadBounds.{if-cases}
use Rattle.memory.proofs.RunLaws.{ahead-add, ahead_more}
use Rattle.settings.specs.declared.PointerWords.{PointerWords}
use Rattle.settings.specs.declared.Settings.{Settings}
use Rattle.start.specs.Top.{registered}
use Rattle.told.specs.Told.{Held, by_memory, Leads, Reached}
use Rattle.holding.proofs.Holds.{dones, asks, bind}
use Rattle.told.proofs.Tells.{apart, Tells}

-- a pointer begins where its first word was read, unless it is null
begins-at : (linear : Bool) (from first second : ℕ)
    → (pointer linear from first second).from ≡ (when null (pointer linear from first second) then 0 else from)
unfolding pointer
begins-at true from first second = refl
begins-at false from first second = refl

begins : (linear : Bool) (from first second : ℕ) → null (pointer linear from first second) ≡ false → (pointer linear from first second).from ≡ from
begins linear from first second e = begins-at linear from first second ∙ ap (λ (b : Bool). when b then 0 else from) e

-- "0 when a register held it"
pub register-begins : (linear : Bool) (w : PointerWords) → (registered linear w).from ≡ 0
register-begins linear w =
    begins-at linear 0 w.first w.second ∙ if-cases (λ (n : ℕ). n ≡ 0) (null (registered linear w)) (λ _. refl) (λ _. refl)

-- two words that are 0 point at nothing
pub no_words : (linear : Bool) (from : ℕ) → null (pointer linear from 0 0) ≡ true
unfolding pointer
no_words true from = refl
no_words false from = refl

-- a word that is there leads one word further
module _ (linear : Bool) (m : List ℕ) (a b : ℕ) (h : Leads linear m a b) {w : ℕ} (f : fetch m b ≡ Some w) where
  there-too : (j : ℕ) (c : Bool) → ltb j h.steps ≡ c → j < h.steps + 1 → (v : ℕ) × (fetch m (ahead linear j a) ≡ Some v)
  there-too j true e l = h.before j (ltb-true j h.steps e)
  there-too j false e l =
      let last : j ≡ h.steps = omega (arith, ltb-false j h.steps e) in
      (w, ap (λ (i : ℕ). fetch m (ahead linear i a)) last ∙ ap (fetch m) h.there ∙ f)

  leads-on : Leads linear m a (next_word linear b)
  leads-on = record {
    steps = h.steps + 1;
    there = ahead_more linear h.steps a ∙ ap (next_word linear) h.there;
    before = λ j l. there-too j (ltb j h.steps) refl l;
  }

module _ (σ : Settings) (m : List ℕ) where
  -- a pointer that a block, the state or a list has: null, or held
  abbrev pub Stands : Pointer → Type 0
  Stands p = null p ≡ false → Held σ m p

  pub null-stands : (p : Pointer) → null p ≡ true → Stands p
  null-stands p e h = apart (sym e ∙ h)

  -- the word that it points to, and those after it
  pub first : (p : Pointer) → Stands p → null p ≡ false → Reached σ m p
  unfolding ahead
  first p s e = record {
    in_use = p;
    not_null = e;
    held = s e;
    begins = refl;
    leads = record { steps = 0; there = refl; before = λ j l. absurd (omega arith) };
  }

  -- one word further, where the word is there
  pub onward-reached : (p : Pointer) {w : ℕ} → Reached σ m p → fetch m p.address ≡ Some w → Reached σ m (onward σ.linear p)
  onward-reached p r h = record {
    in_use = r.in_use;
    not_null = r.not_null;
    held = r.held;
    begins = r.begins;
    leads = leads-on σ.linear m r.in_use.address p.address r.leads h;
  }

  -- k words of a list stand in memory, the first at the address a
  abbrev pub Copied : ℕ → ℕ → List ℕ → Type 0
  Copied a k ws = (i : ℕ) → i < k → fetch m (ahead σ.linear i a) ≡ Some (at ws i)

  -- k words from a pointer on: they stand there, and the word after them is reached
  pub record Passed (p : Pointer) (k : ℕ) (ws : List ℕ) : Type 0 where
    pub copied : Copied p.address k ws
    pub after : Reached σ m (further σ.linear k p)

  pub words-tell : (k : ℕ) (p : Pointer) → Reached σ m p → Tells m (Reached σ m) (Passed p k) (words σ.linear k p)
  unfolding words ahead ◌>>=◌
  words-tell zero p r = dones (record { copied = λ i l. absurd (omega arith); after = r })
  words-tell (suc k) p r =
      asks r λ w h.
      bind (words-tell k (onward σ.linear p) (onward-reached p r h)) λ ws c.
      dones (record { copied = more w ws h c.copied; after = c.after })
    where
      more : (w : ℕ) (ws : List ℕ) → fetch m p.address ≡ Some w → Copied (next_word σ.linear p.address) k ws → Copied p.address (suc k) (w ∷ ws)
      more w ws h c zero l = h
      more w ws h c (suc i) l = c i (omega arith)

  -- the rest of the words, from word j on
  pub copied-drop : (a j k : ℕ) (ws : List ℕ) → Copied a (j + k) ws → Copied (ahead σ.linear j a) k (drop j ws)
  copied-drop a j k ws c i l =
      ap (fetch m) (ahead-add σ.linear j i a) ∙ c (j + i) (omega arith) ∙ ap Some (sym (get_or-drop j ws i 0))

  -- the pointer whose two words are word i and the next of a list that stands in memory
  pub pointer-stands : (a i k : ℕ) (ws : List ℕ) → Copied a k ws → i + 1 < k
      → Stands (pointer σ.linear (ahead σ.linear i a) (at ws i) (at ws (i + 1)))
  pointer-stands a i k ws c l e =
      let p = pointer σ.linear (ahead σ.linear i a) (at ws i) (at ws (i + 1)) in
      let b : p.from ≡ ahead σ.linear i a = begins σ.linear _ _ _ e in
      by_memory (at ws i) (at ws (i + 1))
      (ap (fetch m) b ∙ c i (omega arith))
      (ap (λ (x : ℕ). fetch m (next_word σ.linear x)) b ∙ ap (fetch m) (sym (ahead_more σ.linear i a)) ∙ c (i + 1) l)
      (ap (λ (x : ℕ). pointer σ.linear x (at ws i) (at ws (i + 1))) (sym b))
