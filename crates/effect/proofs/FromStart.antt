-- Demand 3 for the rows of a frame: a start's state has the start latch, any 16-bit word, and the rows above are those since the start.
use mathlib.Core.Path.{◌≡◌, ap, ◌∙◌}
use mathlib.Core.List.{List}
use Prim.Native.Nat.{ℕ}
use Rattle.memory.specs.Reading.{given, run}
use Rattle.memory.proofs.ReadBounds.{Words, reads-given}
use Rattle.settings.specs.declared.Settings.{Settings}
use Rattle.state.specs.declared.State.{State}
use Rattle.start.specs.Start.{start_from}
use Rattle.start.proofs.StartBound.{start-reads}
use Rattle.joining.specs.Join.{empty}
use Rattle.effect.specs.Demand.{Call, in_turn, drawn_alone}
use Rattle.effect.proofs.Alone.{demand-3}

pub frame-alone : (latch : ℕ) (σ : Settings) (m : List ℕ) → Words m → {n : ℕ} {s : State} → run m (start_from latch σ) ≡ given n s
    → (calls : List Call) → in_turn σ m s calls ≡ drawn_alone σ m latch s.fields empty calls
frame-alone latch σ m w {s = s} e calls =
    demand-3.rows σ m s calls
    ∙ ap (λ (l : ℕ). drawn_alone σ m l s.fields empty calls) (reads-given 0 m w (start-reads latch σ) e).1.latched
