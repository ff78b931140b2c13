-- What follows a frame, and how a frame ends, by the answers of the calls.
use Rattle.std.proofs.Common.{◌≡◌, ℕ, zero, suc, ◌-◌, Bool, true, false, ◌||◌, eqb, List, refl, ap, ◌∙◌, arith, ne_eqb, Ok, Err}
use mathlib.Core.Option.{none, some}
use Rattle.memory.specs.Word.{when◌then◌else◌}
use Rattle.memory.specs.declared.Refusal.{Refusal}
use Rattle.settings.specs.declared.Settings.{Settings}
use Rattle.state.specs.declared.State.{State}
use Rattle.frame.specs.declared.Progress.{Progress}
use Rattle.frame.specs.Step.{begin}
use Rattle.frame.specs.Frame.{Frame, frame}
use Rattle.finding.specs.Finding.{rest_of}
use Rattle.finding.proofs.WalkLaws.{rest-words}
use Rattle.lines.specs.Lines.{refusal_line}
use Rattle.glide_lines.specs.GlideLines.{end_frames}
use Rattle.glide_text.specs.declared.Glide.{Glide}
use Rattle.glide_text.specs.GlideText.{after_frame, frame_end, draw_text, at_rest, ending}

-- frames that end, and frames that go on
if-true : (t : Bool) (x y : List ℕ) → t ≡ true → x ≡ (when t then x else y)
if-true true x y h = refl
if-true false x y h = let z : ◌≡◌ {A = ℕ} 0 1 = cc in absurd (omega arith)

if-false : (t : Bool) (x y : List ℕ) → t ≡ false → y ≡ (when t then x else y)
if-false true x y h = let z : ◌≡◌ {A = ℕ} 0 1 = cc in absurd (omega arith)
if-false false x y h = refl

pub ends : (n : ℕ) (g : Glide) (m : List ℕ) → (eqb n 0 || at_rest g.scroll) ≡ true → end_frames g.frames ≡ ending n g m
unfolding ending
ends zero g m h = refl
ends (suc n) g m h = if-true (at_rest g.scroll) (end_frames g.frames) _ (rw (ne_eqb (suc n) 0 (λ e. omega arith)) at h)

pub goes_on : (n : ℕ) (g : Glide) (m : List ℕ) → (eqb n 0 || at_rest g.scroll) ≡ false
    → draw_text (λ (h : Glide). ending (n - 1) h m) g m ≡ ending n g m
unfolding ending
goes_on zero g m h = let z : ◌≡◌ {A = ℕ} 0 1 = cc in absurd (omega arith)
goes_on (suc n) g m h =
    let e : suc n - 1 ≡ n = omega arith in
    ap (λ (k : ℕ). draw_text (λ (h : Glide). ending k h m) g m) e
    ∙ if-false (at_rest g.scroll) (end_frames g.frames) (draw_text (λ (h : Glide). ending n h m) g m)
    (rw (ne_eqb (suc n) 0 (λ e. omega arith)) at h)

-- the end of a frame
module _ (next : Glide → List ℕ) (g : Glide) (m : List ℕ) where
  abbrev σ : Settings
  σ = g.script.settings

  pub not-begun : {r : Refusal} → begin g.latch σ m ≡ Err r → refusal_line r ≡ frame_end next g m
  unfolding frame_end frame
  not-begun e = rw e

  module _ {p : Progress} (e : begin g.latch σ m ≡ Ok p) where
    refusal_is : (frame g.latch σ m).refusal ≡ (rest_of σ m p.state).refusal
    unfolding frame
    refusal_is = rw e (ap (λ (f : Frame). f.refusal) (rest-words σ m p.state p.words 0))

    state-is : (frame g.latch σ m).state ≡ (rest_of σ m p.state).state
    unfolding frame
    state-is = rw e (ap (λ (f : Frame). f.state) (rest-words σ m p.state p.words 0))

    pub refused_end : {r : Refusal} → (rest_of σ m p.state).refusal ≡ some r → refusal_line r ≡ frame_end next g m
    unfolding frame_end
    refused_end h = rw (refusal_is, h)

    pub whole-end : {s : State} → (rest_of σ m p.state).refusal ≡ none → (rest_of σ m p.state).state ≡ some s
        → next (after_frame g s.latch) ≡ frame_end next g m
    unfolding frame_end
    whole-end h k = rw (refusal_is, state-is, h, k)
