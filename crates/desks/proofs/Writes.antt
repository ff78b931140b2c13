-- The statement of specs/Depends.antt holds: a frame depends on the words that it read (`frame-each`), and writes to other words leave
-- these as they were at each call.
use mathlib.Core.Path.{◌≡◌, refl, sym, ap, ◌∙◌}
use mathlib.Core.List.{List, [], ◌∷◌, ◌++◌}
use Prim.Native.Nat.{ℕ, zero, suc, ◌/◌}
use lib.ListN.{length, get_or, set, length-set}
use lib.Seq.{get_or-set_other}
use Rattle.memory.proofs.Agree.{All, none, also, SameWord}
use Rattle.settings.specs.declared.Settings.{Settings}
use Rattle.frame.specs.Frame.{Frame, blank, frame}
use Rattle.desks.specs.Finds.{frame_over, lists, joined, reads_of, Cut, last_of, beside_after, beside_list}
use Rattle.desks.specs.Depends.{◌∈◌, here, there, Write, written, Between, found, Spare, Depends}
use Rattle.desks.proofs.Same.{frame-stays}
use Rattle.desks.proofs.Depends.{all_left, all_right, frame-each, frame-over, frame-depends, beside-depends}

-- at every address of a list
pub every : {P : ℕ → Type 0} (l : List ℕ) → ((a : ℕ) → a ∈ l → P a) → All P l
every [] h = none
every (a ∷ l) h = also (h a here) (every l λ b i. h b (there i))

pub every-also : {P Q : ℕ → Type 0} {l : List ℕ} → ((a : ℕ) → P a → Q a) → All P l → All Q l
every-also f none = none
every-also f (also {x = a} h hs) = also (f a h) (every-also f hs)

-- ---- writes to other words ----

pub written-length : (m : List ℕ) (ws : List Write) → length (written m ws) ≡ length m
unfolding written
written-length m [] = refl
written-length m (w ∷ ws) = written-length (set m (w.address / 2) w.word) ws ∙ length-set m (w.address / 2) w.word

found-length : (n : ℕ) (m : List ℕ) (ws : Between) → length (found m ws n) ≡ length m
unfolding found
found-length zero m ws = written-length m (ws 0)
found-length (suc n) m ws = found-length n (written m (ws 0)) (λ i. ws (suc i)) ∙ written-length m (ws 0)

pub written-other : (a : ℕ) (m : List ℕ) (ws : List Write) → ((w : Write) → w ∈ ws → a / 2 ≡ w.address / 2 → ⊥)
    → get_or (written m ws) (a / 2) 0 ≡ get_or m (a / 2) 0
unfolding written
written-other a m [] h = refl
written-other a m (w ∷ ws) h =
    written-other a (set m (w.address / 2) w.word) ws (λ v i. h v (there i))
    ∙ get_or-set_other m (w.address / 2) (a / 2) w.word 0 (h w here)

found-other : (a : ℕ) (n : ℕ) (m : List ℕ) (ws : Between) → ((n : ℕ) (w : Write) → w ∈ ws n → a / 2 ≡ w.address / 2 → ⊥)
    → get_or (found m ws n) (a / 2) 0 ≡ get_or m (a / 2) 0
unfolding found
found-other a zero m ws h = written-other a m (ws 0) (h 0)
found-other a (suc n) m ws h =
    found-other a n (written m (ws 0)) (λ i. ws (suc i)) (λ i. h (suc i)) ∙ written-other a m (ws 0) (h 0)

-- the words of a list stay, at each call
module _ (m : List ℕ) (ws : Between) (reads : List ℕ) (h : Spare ws reads) (n : ℕ) where
  pub spared : All (SameWord m (found m ws n)) reads
  spared = every reads λ a i. sym (found-other a n m ws λ k w j. h k w j a i)

  pub spared-back : All (SameWord (found m ws n) m) reads
  spared-back = every-also (λ a e. sym e) spared

-- ---- the row beside the cut of one frame ----

module _ (latch : ℕ) (σ : Settings) (c : Cut) (m₁ m₂ : List ℕ) (len : length m₁ ≡ length m₂) where
  pub beside_same : (f₁ f₂ : Frame) → f₁ ≡ f₂ → All (SameWord m₁ m₂) (beside_list latch σ m₁ c f₁)
      → (beside_after latch σ m₁ c f₁ ≡ beside_after latch σ m₂ c f₂) × (beside_list latch σ m₁ c f₁ ≡ beside_list latch σ m₂ c f₂)
  beside_same f₁ f₂ e h =
      let k = beside-depends m₁ m₂ len σ c.shift c.soft latch (last_of c.other f₁.state) c.buffer h in
      (k.frames ∙ ap (beside_after latch σ m₂ c) e, k.addresses ∙ ap (beside_list latch σ m₂ c) e)

-- ---- the statement ----

pub depends : Depends
depends = record {
  reads = λ latch σ m₁ m₂ b₁ b₂ len size h.
      let k = frame-each latch σ (λ _. m₁) (λ _. m₂) (λ _. len) b₁ b₂ size (λ _. every (reads_of latch σ m₁) h) in
      (k.frames, k.addresses);
  right = λ latch σ m b size.
      let k = frame-each latch σ (λ _. m) (λ _. m) (λ _. refl) b (λ _. blank) size (λ _. every (reads_of latch σ m) λ a i. refl) in
      k.frames ∙ frame-stays σ latch m;
  beside = λ latch σ c m₁ m₂ len h.
      let all = every (reads_of latch σ m₁ ++ beside_list latch σ m₁ c (frame latch σ m₁)) h in
      beside_same latch σ c m₁ m₂ len (frame latch σ m₁) (frame latch σ m₂)
      (frame-depends m₁ m₂ len latch σ (all_left (reads_of latch σ m₁) (beside_list latch σ m₁ c (frame latch σ m₁)) all)).frames
      (all_right (reads_of latch σ m₁) (beside_list latch σ m₁ c (frame latch σ m₁)) all);
  writes = λ latch σ m ws h.
      let k = frame-over latch σ (λ _. m) (found m ws) (λ n. sym (found-length n m ws)) (spared m ws (reads_of latch σ m) h) in
      (sym k.frames ∙ frame-stays σ latch m, sym k.addresses);
  writes_found = λ latch σ m ws h.
      let k = frame-over latch σ (found m ws) (λ _. m) (λ n. found-length n m ws) (spared-back m ws (joined (lists latch σ (found m ws))) h) in
      (k.frames ∙ frame-stays σ latch m, k.addresses);
  writes_beside = λ latch σ c m ws n h.
      let r = reads_of latch σ m in
      let b = beside_list latch σ m c (frame latch σ m) in
      let k = frame-over latch σ (λ _. m) (found m ws) (λ i. sym (found-length i m ws)) (λ i. all_left r b (spared m ws (r ++ b) h i)) in
      let s = beside_same latch σ c m (found m ws n) (sym (found-length n m ws)) (frame latch σ m) (frame_over latch σ (found m ws))
      (sym (frame-stays σ latch m) ∙ k.frames) (all_right r b (spared m ws (r ++ b) h n))
      in
      (sym s.0, sym s.1);
}
