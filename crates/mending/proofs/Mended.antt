-- What holds of every mended list (`Mendings.Mends`): its chain of changes by the verdicts, and from the chain all else.
use mathlib.Core.Path.{◌≡◌, refl, sym, ap, ◌∙◌}
use mathlib.Core.Logic.{◌⊎◌, inl, inr}
use mathlib.Core.List.{List}
use mathlib.Core.Option.{Option, none, some}
use Prim.Native.Nat.{ℕ, zero, suc, ◌/◌, ◌<◌}
use native.Mathlib.Omega.{arith}
use native.Mathlib.Nat.{le_refl}
use lib.ListN.{length, get_or, set, length-set}
use Rattle.memory.specs.declared.Fault.{Fault}
use Rattle.memory.specs.declared.Refusal.{Refusal}
use Rattle.memory.specs.Reading.{Outcome, given, refused, refusal, run}
use Rattle.memory.specs.Address.{next_word}
use Rattle.settings.specs.declared.Settings.{Settings}
use Rattle.blocks.specs.declared.MainBlock.{MainBlock}
use Rattle.frame.specs.Frame.{frame}
use Rattle.blame.specs.declared.Place.{Place}
use Rattle.blame.specs.declared.Place.TheVariants.{Register, Memory}
use Rattle.blame.specs.declared.Verdict.{Verdict}
use Rattle.blame.specs.declared.Verdict.TheVariants.{Blamed, Refused}
use Rattle.blame.specs.Blame.{main_of, verdict}
use Rattle.blame.proofs.VerdictLaws.{main-refused}
use Rattle.blame.proofs.Frames.{Fair, judged, as-it-is, whole, blames, verdict-fair, main-numbers}
use Rattle.mending.specs.Mending.{settings_after, memory_after, by_verdict, mend_step, Mended, unchanged, by_step, mended_within, count, mended}
use Rattle.mending.specs.Mendings.{GivenAsItIs, Cut, Chain, draws, refuses, changes, Apart, Untouched, AllMend}
use Rattle.mending.proofs.Counts.{set-stays}
use Rattle.mending.proofs.Steps.{Sixteen, place-fewer, place-sixteen, enough, mended-step}
use Rattle.mending.proofs.StartKept.{Given, is-given, given-not, main-kept}
use Rattle.mending.proofs.Verdicts.{SameAs, same_whole, same-blamed, same-refused, frame_same}

module _ (latch : ℕ) where
  as-given : (σ : Settings) (m : List ℕ) → Sixteen σ m → {x : Fault} → run m (main_of σ) ≡ refused x → (frame latch σ m).refusal ≡ some (refusal 0 x)
      → GivenAsItIs latch σ m
  as-given σ m w e h = record { fault = _; main = e; number = main-numbers σ m w.words w.registers e; refuses = h }

  -- by the verdict, which is the frame's
  by-verdict : (rest : Settings → List ℕ → Mended) (σ : Settings) (m : List ℕ) (w : Sixteen σ m) {v : Verdict} {o : Option Refusal}
      → verdict latch σ m ≡ v → (frame latch σ m).refusal ≡ o → Fair σ m w.words w.registers latch v → SameAs v o
      → ((σ₁ : Settings) (m₁ : List ℕ) → Sixteen σ₁ m₁ → count σ₁ m₁ < count σ m → Chain latch σ₁ m₁ (rest σ₁ m₁))
      → Chain latch σ m (by_step rest σ (by_verdict σ m v))
  by-verdict rest σ m w j e (judged whole) same_whole h = draws e
  by-verdict rest σ m w j e (judged (blames {p} _ k)) (same-blamed {r} i t) h =
      let less = place-fewer σ m w p k in
      let cut : Cut latch σ m p r = record { refuses = e; blames = j ∙ ap (Blamed p) (sym i); told = t; holds = k; fewer = less } in
      rw (← i) (changes cut (h (settings_after p σ) (memory_after p σ.linear m) (place-sixteen σ m w p) less))
  by-verdict rest σ m w j e (as-it-is i) same-refused h = refuses (as-given σ m w i e)

  chain-within : (n : ℕ) (σ : Settings) (m : List ℕ) → Sixteen σ m → count σ m < n → Chain latch σ m (mended_within n latch σ m)
  unfolding mended_within mend_step
  chain-within zero σ m w h = absurd (omega arith)
  chain-within (suc n) σ m w h =
      by-verdict (mended_within n latch) σ m w refl refl (verdict-fair σ m w.words w.registers latch) (frame_same σ m latch w)
      λ σ₁ m₁ w₁ less. chain-within n σ₁ m₁ w₁ (omega (arith, less, h))

  mended-chain : (σ : Settings) (m : List ℕ) → Sixteen σ m → Chain latch σ m (mended latch σ m)
  unfolding mended
  mended-chain σ m w =
      let n = count σ m in rw (enough latch n (suc n) σ m w (le_refl n) (omega arith)) (chain-within (suc n) σ m w (omega arith))

  -- a start that is accepted up to its main block stays so: the list draws to its end
  chain-draws : {σ : Settings} {m : List ℕ} {d : Mended} → Chain latch σ m d → Given (run m (main_of σ)) → (frame latch d.settings d.memory).refusal ≡ none
  chain-draws (draws e) h = e
  chain-draws (refuses g) h = absurd (given-not h g.main)
  chain-draws (changes {σ} {m} {p} e c) h = chain-draws c (main-kept p σ m h)

  refusal-of : {r : Refusal} {o : Option Refusal} → SameAs (Refused r) o → o ≡ some r
  refusal-of same-refused = refl

  mended-draws : (σ : Settings) (m : List ℕ) → Sixteen σ m
      → ((frame latch (mended latch σ m).settings (mended latch σ m).memory).refusal ≡ none)
      ⊎ ((mended latch σ m ≡ unchanged σ m) × GivenAsItIs latch σ m)
  unfolding mend_step
  mended-draws σ m w = by (run m (main_of σ)) refl
    where
      by : (o : Outcome MainBlock) → run m (main_of σ) ≡ o
          → ((frame latch (mended latch σ m).settings (mended latch σ m).memory).refusal ≡ none)
          ⊎ ((mended latch σ m ≡ unchanged σ m) × GivenAsItIs latch σ m)
      by (given n k) e = inl (chain-draws (mended-chain σ m w) (rw e is-given))
      by (refused x) e =
          let v = main-refused latch σ m e in
          inr (
            mended-step latch σ m w ∙ ap (λ (v : Verdict). by_step (mended latch) σ (by_verdict σ m v)) v,
            as-given σ m w e (refusal-of (rw v at (frame_same σ m latch w))),
          )

  some-none : {r : Refusal} {o : Option Refusal} → o ≡ some r → o ≡ none → ⊥
  some-none e f = let q : ◌≡◌ {A = ℕ} 0 1 = cc in omega arith

  -- a good list
  chain-good : {σ : Settings} {m : List ℕ} {d : Mended} → Chain latch σ m d → (frame latch σ m).refusal ≡ none → d ≡ unchanged σ m
  chain-good (draws e) h = refl
  chain-good (refuses g) h = refl
  chain-good (changes t c) h = absurd (some-none t.refuses h)

  good-unchanged : (σ : Settings) (m : List ℕ) → Sixteen σ m → (frame latch σ m).refusal ≡ none → mended latch σ m ≡ unchanged σ m
  good-unchanged σ m w h = chain-good (mended-chain σ m w) h

  -- words that no pointer of a change holds stay
  place-stays : (p : Place) (σ : Settings) (m : List ℕ) (i : ℕ) → Apart σ.linear i p → get_or (memory_after p σ.linear m) i 0 ≡ get_or m i 0
  unfolding memory_after
  place-stays Register σ m i h = refl
  place-stays (Memory a) σ m i h = set-stays m (a / 2) (next_word σ.linear a / 2) i h.0 h.1

  same-mode : (p : Place) (σ : Settings) → (settings_after p σ).linear ≡ σ.linear
  unfolding settings_after
  same-mode Register σ = refl
  same-mode (Memory a) σ = refl

  chain-stays : {σ : Settings} {m : List ℕ} {d : Mended} → Chain latch σ m d → (i : ℕ) → Untouched σ.linear i d.changes
      → get_or d.memory i 0 ≡ get_or m i 0
  chain-stays (draws e) i h = refl
  chain-stays (refuses g) i h = refl
  chain-stays (changes {σ} {m} {p} e c) i h = chain-stays c i (rw (same-mode p σ) h.1) ∙ place-stays p σ m i h.0

  words-stay : (σ : Settings) (m : List ℕ) → Sixteen σ m → (i : ℕ) → Untouched σ.linear i (mended latch σ m).changes
      → get_or (mended latch σ m).memory i 0 ≡ get_or m i 0
  words-stay σ m w = chain-stays (mended-chain σ m w)

  place-size : (p : Place) (σ : Settings) (m : List ℕ) → length (memory_after p σ.linear m) ≡ length m
  unfolding memory_after
  place-size Register σ m = refl
  place-size (Memory a) σ m = length-set (set m (a / 2) 0) (next_word σ.linear a / 2) 0 ∙ length-set m (a / 2) 0

  chain-size : {σ : Settings} {m : List ℕ} {d : Mended} → Chain latch σ m d → length d.memory ≡ length m
  chain-size (draws e) = refl
  chain-size (refuses g) = refl
  chain-size (changes {σ} {m} {p} e c) = chain-size c ∙ place-size p σ m

pub all-mend : AllMend
all-mend latch σ m h =
    let w : Sixteen σ m = record { words = h.0; registers = record { top = h.1; tow = h.2 } } in
    record {
      chain = mended-chain latch σ m w;
      step = mended-step latch σ m w;
      draws = mended-draws latch σ m w;
      good = good-unchanged latch σ m w;
      stays = words-stay latch σ m w;
      size = chain-size latch (mended-chain latch σ m w);
    }
