-- Frames in a row: what `handed_on` gives, and what refused frames among them leave. No rules of their own.
use Rattle.std.specs.Prelude.{ℕ, ◌<◌, ◌≡◌, List, [], ◌∷◌, get_or, eqb}
use Rattle.std.proofs.Math.Option.{Option, none, some}
use Rattle.memory.specs.Word.{when◌then◌else◌}
use Rattle.settings.specs.declared.Settings.{Settings}
use Rattle.state.specs.declared.State.{State}
use Rattle.memory.specs.declared.Refusal.{Refusal}
use Rattle.frame.specs.Frame.{Frame, frame, handed_on, Screen}

-- the latch that is handed on, from the state that a frame ended with: one that ran to its end has no line left, a refused one has
abbrev pub latch_after : ℕ → State → ℕ
latch_after latch s = when eqb s.fields.left 0 then s.latch else latch

-- it is the frame's, for every frame that was started with the latch and ended with the state
abbrev pub HandsOn : ℕ → State → ℕ → Type 0
HandsOn latch s r =
    (σ : Settings) (m : List ℕ) → ((i : ℕ) → get_or m i 0 < 65536) → (frame latch σ m).state ≡ some s → r ≡ handed_on latch (frame latch σ m)

-- one of two, by whether there is a refusal
abbrev pub if_refused : {A : Type 0} → Option Refusal → A → A → A
if_refused none a b = b
if_refused (some r) a b = a

-- the frames of a list that are not refused
unfoldable pub accepted : List Frame → List Frame
accepted [] = []
accepted (f ∷ fs) = if_refused f.refusal (accepted fs) (f ∷ accepted fs)

-- the screens of a list whose frames, in their turn, are not refused
unfoldable pub kept : ℕ → List Screen → List Screen
kept latch [] = []
kept latch (d ∷ ds) =
    let f : Frame = frame latch d.settings d.memory in
    if_refused f.refusal (kept latch ds) (d ∷ kept (handed_on latch f) ds)
