-- One step: each change leaves fewer words that are not 0, registers counted, and words of 16 bits; so as many changes as there are such
-- words are enough, and mending is its first step and the mending of what that leaves.
use mathlib.Core.Path.{◌≡◌, refl, sym, ap, subst, ◌∙◌}
use mathlib.Core.List.{List}
use Prim.Native.Nat.{ℕ, zero, suc, ◌+◌, ◌/◌, ◌<◌, ◌≤◌}
use native.Mathlib.Omega.{arith}
use native.Mathlib.Nat.{le_refl}
use lib.ListN.{set}
use lib.Dec.{lit<}
use Rattle.memory.specs.Address.{next_word}
use Rattle.memory.proofs.ReadBounds.{Words}
use Rattle.settings.specs.declared.Settings.{Settings}
use Rattle.blame.specs.declared.Place.{Place}
use Rattle.blame.specs.declared.Place.TheVariants.{Register, Memory}
use Rattle.blame.specs.declared.Verdict.{Verdict}
use Rattle.blame.specs.Blame.{verdict}
use Rattle.blame.proofs.RowStands.{HeldAt}
use Rattle.blame.proofs.Frames.{Registers, whole, blames, Fair, judged, as-it-is, verdict-fair}
use Rattle.mending.specs.Mending.{settings_after, memory_after, change_of, by_verdict, mend_step, Mended, unchanged, with_change, by_step, mended_within, one, count, mended}
use Rattle.mending.specs.Answers.{Fewer}
use Rattle.mending.proofs.Counts.{one_word, nonzero-fewer, set_words}

-- settings and memory of 16-bit words
pub record Sixteen (σ : Settings) (m : List ℕ) : Type 0 where
  pub words : Words m
  pub registers : Registers σ

-- a pointer that is not null, set to 0
module _ (σ : Settings) (m : List ℕ) (w : Sixteen σ m) where
  some_word : (a b : ℕ) → (a ≡ 0 → b ≡ 0 → ⊥) → 0 < one a + one b
  some_word zero b h = omega (arith, one_word b (h refl))
  some_word (suc a) b h = omega (arith, one_word (suc a) (λ (e : suc a ≡ 0). omega arith))

  pub place-fewer : (p : Place) → HeldAt σ m w.words p → count (settings_after p σ) (memory_after p σ.linear m) < count σ m
  unfolding settings_after memory_after
  place-fewer Register h = omega (arith, some_word σ.tow.first σ.tow.second h)
  place-fewer (Memory a) h = omega (arith, nonzero-fewer m (a / 2) (next_word σ.linear a / 2) h)

  pub place-sixteen : (p : Place) → Sixteen (settings_after p σ) (memory_after p σ.linear m)
  unfolding settings_after memory_after
  place-sixteen Register = record { words = w.words; registers = record { top = w.registers.top; tow = lit< tt } }
  place-sixteen (Memory a) = record {
    words = set_words (set m (a / 2) 0) (next_word σ.linear a / 2) (set_words m (a / 2) w.words);
    registers = w.registers;
  }

  -- "Each change leaves fewer nonzero words, registers counted"
  pub fewer : (latch : ℕ) → Fewer σ m (mend_step latch σ m).answer (mend_step latch σ m).memory
  unfolding mend_step
  fewer latch = by (verdict-fair σ m w.words w.registers latch)
    where
      by : {v : Verdict} → Fair σ m w.words w.registers latch v → Fewer σ m (by_verdict σ m v).answer (by_verdict σ m v).memory
      by (judged whole) = tt
      by (judged (blames {p} h k)) = place-fewer p k
      by (as-it-is e) = tt

  pub blamed-fewer : (latch : ℕ) {p : Place} {n : ℕ} → Verdict.Blamed p n ≡ verdict latch σ m
      → count (settings_after p σ) (memory_after p σ.linear m) < count σ m
  unfolding mend_step
  blamed-fewer latch e = subst (λ (v : Verdict). Fewer σ m (by_verdict σ m v).answer (by_verdict σ m v).memory) (sym e) (fewer latch)

-- ---- mending ----
module _ (latch : ℕ) where
  -- two ways to go on that agree wherever fewer words are not 0
  agree : (f g : Settings → List ℕ → Mended) (σ : Settings) (m : List ℕ) (w : Sixteen σ m) {v : Verdict} → Fair σ m w.words w.registers latch v
      → ((σ₁ : Settings) (m₁ : List ℕ) → Sixteen σ₁ m₁ → count σ₁ m₁ < count σ m → f σ₁ m₁ ≡ g σ₁ m₁)
      → by_step f σ (by_verdict σ m v) ≡ by_step g σ (by_verdict σ m v)
  agree f g σ m w (judged whole) h = refl
  agree f g σ m w (judged (blames {p} {n} _ k)) h =
      ap (with_change (change_of p n σ m)) (h (settings_after p σ) (memory_after p σ.linear m) (place-sixteen σ m w p) (place-fewer σ m w p k))
  agree f g σ m w (as-it-is e) h = refl

  -- where no word is left there is nothing to change
  none_left : (f : Settings → List ℕ → Mended) (σ : Settings) (m : List ℕ) (w : Sixteen σ m) {v : Verdict} → Fair σ m w.words w.registers latch v
      → count σ m ≤ 0 → by_step f σ (by_verdict σ m v) ≡ unchanged σ m
  none_left f σ m w (judged whole) h = refl
  none_left f σ m w (judged (blames {p} _ k)) h = absurd (omega (arith, h, place-fewer σ m w p k))
  none_left f σ m w (as-it-is e) h = refl

  pub enough : (n k : ℕ) (σ : Settings) (m : List ℕ) → Sixteen σ m → count σ m ≤ n → count σ m ≤ k
      → mended_within n latch σ m ≡ mended_within k latch σ m
  unfolding mended_within mend_step
  enough zero zero σ m w h l = refl
  enough zero (suc k) σ m w h l = sym (none_left (mended_within k latch) σ m w (verdict-fair σ m w.words w.registers latch) h)
  enough (suc n) zero σ m w h l = none_left (mended_within n latch) σ m w (verdict-fair σ m w.words w.registers latch) l
  enough (suc n) (suc k) σ m w h l =
      agree (mended_within n latch) (mended_within k latch) σ m w (verdict-fair σ m w.words w.registers latch)
      λ σ₁ m₁ w₁ less. enough n k σ₁ m₁ w₁ (omega (arith, less, h)) (omega (arith, less, l))

  -- mending is its first step, and the mending of what that leaves
  pub mended-step : (σ : Settings) (m : List ℕ) → Sixteen σ m → mended latch σ m ≡ by_step (mended latch) σ (mend_step latch σ m)
  unfolding mended mended_within mend_step
  mended-step σ m w =
      let n = count σ m in
      enough n (suc n) σ m w (le_refl n) (omega arith)
      ∙ agree (mended_within n latch) (mended latch) σ m w (verdict-fair σ m w.words w.registers latch)
      λ σ₁ m₁ w₁ less. enough n _ σ₁ m₁ w₁ (omega (arith, less)) (le_refl _)
