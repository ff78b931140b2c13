-- 02: "A frame starts with the latch that the frame before ended with, the first after reset with 0. A refused frame hands on the latch
-- it was started with." The state that a frame ended with tells which; and in a list of frames a refused one leaves the others as they
-- would be without it.
use Rattle.std.proofs.Common.{Result, Ok, Err}
use mathlib.Core.Path.{◌≡◌, refl, sym, ap, ◌∙◌}
use mathlib.Core.List.{List, [], ◌∷◌}
use mathlib.Core.Option.{Option, none, some}
use Prim.Native.Nat.{ℕ}
use native.Mathlib.Omega.{arith}
use borrow.Author.Tests.{eq-eqb, ne_eqb}
use Rattle.memory.specs.declared.Refusal.{Refusal}
use Rattle.memory.proofs.ReadBounds.{Words}
use Rattle.settings.specs.declared.Settings.{Settings}
use Rattle.state.specs.declared.State.{State}
use Rattle.frame.specs.declared.Progress.{Progress}
use Rattle.frame.specs.Step.{begin}
use Rattle.frame.specs.Frame.{Frame, stopped, from_begin, frame, handed_on_by, handed_on, Screen, frames, from_reset}
use Rattle.frame.specs.HandedOn.{latch_after, if_refused, accepted, kept}
use Rattle.frame.proofs.Frames.{induction}

module _ (latch : ℕ) where
  -- what a state says of a frame that ended with it
  abbrev Says : Frame → Type 0
  Says f = (s : State) → f.state ≡ some s → latch_after latch s ≡ handed_on latch f

  ended : (p : Progress) → p.state.fields.left ≡ 0 → Says (stopped none p)
  ended p h s e =
      let k : p.state ≡ s = cc in
      rw (← k, eq-eqb _ 0 h)

  refuses : (p : Progress) (r : Refusal) → (p.state.fields.left ≡ 0 → ⊥) → Says (stopped (some r) p)
  refuses p r h s e =
      let k : p.state ≡ s = cc in
      rw (← k, ne_eqb _ 0 h)

  pub state-says : (σ : Settings) (m : List ℕ) → Words m → Says (frame latch σ m)
  unfolding frame
  state-says σ m w = by-start (begin latch σ m)
    where
      by-start : (x : Result Progress Refusal) → Says (from_begin σ m x)
      by-start (Ok p) = induction σ m w (λ p f. Says f) ended refuses (λ p q r cells f h i. i) p
      by-start (Err r) = λ s e. let z : ◌≡◌ {A = ℕ} 0 1 = cc in absurd (omega arith)

module _ {A : Type 0} {x : Option Refusal} (a b : A) where
  if_none : x ≡ none → if_refused x a b ≡ b
  if_none e = rw e

  if_some : {r : Refusal} → x ≡ some r → if_refused x a b ≡ a
  if_some e = rw e

-- frames in a row, refused ones included: those that are not refused are the frames of the list without the refused ones
pub refused-leave : (latch : ℕ) (ds : List Screen) → accepted (frames latch ds) ≡ frames latch (kept latch ds)
unfolding frames accepted kept
refused-leave latch [] = refl
refused-leave latch (d ∷ ds) =
    by-refusal f.refusal refl (refused-leave latch ds) (refused-leave (handed_on latch f) ds)
  where
    f : Frame
    f = frame latch d.settings d.memory

    by-refusal : (r : Option Refusal) → f.refusal ≡ r
        → accepted (frames latch ds) ≡ frames latch (kept latch ds)
        → accepted (frames (handed_on latch f) ds) ≡ frames (handed_on latch f) (kept (handed_on latch f) ds)
        → if_refused f.refusal (accepted (frames (handed_on latch f) ds)) (f ∷ accepted (frames (handed_on latch f) ds))
        ≡ frames latch (if_refused f.refusal (kept latch ds) (d ∷ kept (handed_on latch f) ds))
    by-refusal none e h k = if_none _ _ e ∙ ap (◌∷◌ f) k ∙ sym (ap (frames latch) (if_none _ _ e))
    by-refusal (some r) e h k =
        let same : handed_on latch f ≡ latch = ap (λ (x : Option Refusal). handed_on_by latch x f.state) e in
        if_some _ _ e ∙ ap (λ (l : ℕ). accepted (frames l ds)) same ∙ h ∙ sym (ap (frames latch) (if_some _ _ e))

-- the first frame after reset
pub first_frame : (d : Screen) (ds : List Screen) → let f = frame 0 d.settings d.memory in from_reset (d ∷ ds) ≡ f ∷ frames (handed_on 0 f) ds
unfolding frames
first_frame d ds = refl
