-- Pointers that stand in memory: of one that is not null, the two words where it begins are not both 0. A pointer that was read stands, and
-- so do those of the words after a pointer.
use mathlib.Core.Path.{◌≡◌, refl, ap, ◌∙◌}
use mathlib.Core.Bool.{Bool, true, false, ◌&&◌, ◌||◌, not}
use mathlib.Core.List.{List, ◌∷◌}
use Prim.Native.Nat.{ℕ, zero, suc, ◌+◌, ◌*◌, ◌/◌, ◌%◌, ◌<◌}
use native.Mathlib.Omega.{arith}
use lib.ListN.{get_or, drop}
use lib.Seq.{get_or-drop}
use lib.Dec.{eqb}
use borrow.Author.Tests.{eq-eqb, lt-ltb, eqb-false}
use Rattle.memory.specs.declared.Fault.{Fault}
use Rattle.memory.specs.declared.Pointer.{Pointer}
use Rattle.memory.specs.Word.{when◌then◌else◌, at}
use Rattle.memory.specs.Reading.{◌>>=◌}
use Rattle.memory.specs.Address.{to, nothing, pointer, null, is_address, next_word, ahead, onward, words}
use Rattle.memory.proofs.ReadBounds.{Words, both}
use Rattle.memory.proofs.Step.{step-address}
use Rattle.state.specs.State.{pointer_in_range}
use Rattle.blame.proofs.Comes.{Comes, dones, asks, bind}

-- the address of a pointer that two words give
pub pointer-address : (linear : Bool) (from w v : ℕ) → v < 65536 → is_address (pointer linear from w v).address ≡ true
unfolding pointer
pointer-address true from w v h =
    let a = (w % 256 * 65536 + v) / 2 * 2 in rw (eq-eqb (a % 2) 0 (omega arith), lt-ltb a 16777216 (omega arith))
pointer-address false from w v h =
    let a = (w / 256 % 128 * 65536 + v) / 2 * 2 in rw (eq-eqb (a % 2) 0 (omega arith), lt-ltb a 16777216 (omega arith))

-- .. both of which are not 0 where it is not null
pub pointer-words : (linear : Bool) (from w v : ℕ) → null (pointer linear from w v) ≡ false → w ≡ 0 → v ≡ 0 → ⊥
unfolding pointer
pointer-words true from w v h e f = eqb-false ((w % 256 * 65536 + v) / 2 * 2) 0 h (omega arith)
pointer-words false from w v h e f = eqb-false ((w / 256 % 128 * 65536 + v) / 2 * 2) 0 h (omega arith)

to-from : (from a : ℕ) → is_address a ≡ true → is_address from ≡ true
    → (pointer_in_range (to from a) ≡ true) × (null (to from a) ≡ false → (to from a).from ≡ from)
to-from from a h k = by (eqb a 0) refl
  where
    by : (b : Bool) → eqb a 0 ≡ b → (is_address a && is_address (when b then 0 else from) && (not b || eqb (when b then 0 else from) 0) ≡ true)
        × (b ≡ false → (when b then 0 else from) ≡ from)
    by true e = (rw h, λ f. let q : ◌≡◌ {A = ℕ} 0 1 = cc in absurd (omega arith))
    by false e = (rw (h, k), λ _. refl)

pub pointer-to : (linear : Bool) (from w v : ℕ) → v < 65536 → is_address from ≡ true
    → (pointer_in_range (pointer linear from w v) ≡ true) × (null (pointer linear from w v) ≡ false → (pointer linear from w v).from ≡ from)
unfolding pointer
pointer-to true from w v h k = to-from from ((w % 256 * 65536 + v) / 2 * 2) (pointer-address true from w v h) k
pointer-to false from w v h k = to-from from ((w / 256 % 128 * 65536 + v) / 2 * 2) (pointer-address false from w v h) k

module _ (m : List ℕ) (b : Words m) (linear : Bool) where
  -- the words of a pointer that begins at an address are not both 0
  abbrev pub Held : ℕ → Type 0
  Held a = get_or m (a / 2) 0 ≡ 0 → get_or m (next_word linear a / 2) 0 ≡ 0 → ⊥

  pub record Stands (p : Pointer) : Type 0 where
    pub range : pointer_in_range p ≡ true
    pub held : null p ≡ false → Held p.from

  pub address : (p : Pointer) → Stands p → is_address p.address ≡ true
  address p h = (both (is_address p.address) (is_address p.from) (both (is_address p.address && is_address p.from) _ h.range).0).0

  -- one that memory holds at an address
  pub stands : (a w v : ℕ) → is_address a ≡ true → w ≡ get_or m (a / 2) 0 → v ≡ get_or m (next_word linear a / 2) 0 → Stands (pointer linear a w v)
  stands a w v h e f =
      let small : v < 65536 = omega (arith, b (next_word linear a / 2)) in
      let k = pointer-to linear a w v small h in
      record {
        range = k.0;
        held = λ n. rw (k.1 n) (λ x y. pointer-words linear a w v n (e ∙ x) (f ∙ y));
      }

  -- a null one
  pub null-stands : (a : ℕ) → Stands (pointer linear a 0 0)
  unfolding pointer
  null-stands a = by linear
    where
      by : (l : Bool) → Stands (pointer l a 0 0)
      by true = record { range = refl; held = λ e. let q : ◌≡◌ {A = ℕ} 0 1 = cc in absurd (omega arith) }
      by false = record { range = refl; held = λ e. let q : ◌≡◌ {A = ℕ} 0 1 = cc in absurd (omega arith) }

  pub nothing-stands : Stands nothing
  nothing-stands = record { range = refl; held = λ e. let q : ◌≡◌ {A = ℕ} 0 1 = cc in absurd (omega arith) }

  -- ---- words from an address on ----
  abbrev pub From : ℕ → ℕ → List ℕ → Type 0
  From k a ws = (i : ℕ) → i < k → at ws i ≡ get_or m (ahead linear i a / 2) 0

  more : (k a w : ℕ) (ws : List ℕ) → w ≡ get_or m (a / 2) 0 → From k (next_word linear a) ws → From (suc k) a (w ∷ ws)
  unfolding ahead
  more k a w ws e h zero l = e
  more k a w ws e h (suc i) l = h i (omega arith)

  pub words-come : (Q : Fault → Type 0) (k : ℕ) (p : Pointer) → ((a : ℕ) → Q (record { number = 7; address = a; from = p.from }))
      → Comes m Q (From k p.address) (words linear k p)
  unfolding words ◌>>=◌
  words-come Q zero p h = dones λ i l. absurd (omega arith)
  words-come Q (suc k) p h =
      asks (h p.address)
      (bind m Q (words-come Q k (onward linear p) h) λ ws e. dones (more k p.address _ ws refl e))

  -- the words after the first five
  pub later : (k a : ℕ) (ws : List ℕ) → From (5 + k) a ws → From k (ahead linear 5 a) (drop 5 ws)
  unfolding ahead
  later k a ws h i l =
      let five : 5 + i ≡ suc (suc (suc (suc (suc i)))) = omega arith in
      get_or-drop 5 ws i 0 ∙ h (5 + i) (omega arith) ∙ ap (λ (j : ℕ). get_or m (ahead linear j a / 2) 0) five

  pub ahead-address : (k a : ℕ) → is_address a ≡ true → is_address (ahead linear k a) ≡ true
  unfolding ahead
  ahead-address zero a h = h
  ahead-address (suc k) a h = ahead-address k (next_word linear a) (step-address linear a h)
