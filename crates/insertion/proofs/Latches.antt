-- The latch of each row of a chain is what the joined effects of the rows above make of the first one's (demand 3, of the rows of a frame).
use Rattle.std.proofs.Common.{Result, Ok}
use mathlib.Core.Path.{◌≡◌, ap, sym, ◌∙◌}
use mathlib.Core.List.{List}
use mathlib.Core.Option.{some}
use Prim.Native.Nat.{ℕ, zero, suc}
use lib.ListN.{take, get_elem?, length-replicate}
use Rattle.memory.specs.Reading.{given, run}
use Rattle.memory.specs.declared.Refusal.{Refusal}
use Rattle.settings.specs.declared.Settings.{Settings}
use Rattle.state.specs.declared.State.{State}
use Rattle.row.specs.Row.{Row, row, Called}
use Rattle.frame.specs.Frame.{FrameRow, blank}
use Rattle.joining.specs.Join.{apply}
use Rattle.joining.proofs.Joining.{then_apply, apply-join, apply-empty}
use Rattle.effect.specs.Effect.{effect_call}
use Rattle.effect.proofs.Alone.{latch_made, row-latch}
use Rattle.insertion.specs.Followed.{called_on}
use Rattle.insertion.specs.Insertion.{joined_effects}
use Rattle.insertion.proofs.Chains.{next_of, Chain, ended, drawn, right-buffer}

module _ (σ : Settings) (m : List ℕ) where
  -- one row
  pub latch-next : (s : State) {n : ℕ} {r : Row} → run m (row σ s) ≡ given n r
      → apply (effect_call σ m s.fields).effect s.latch ≡ Ok r.drawing.pen.latch
  latch-next s e =
      sym (row-latch σ m s.fields s.latch blank (length-replicate {A = ℕ} 132 0))
      ∙ ap (λ (c : Called). latch_made c.answer) (right-buffer σ m s) ∙ rw e

  pub chain-latch : {s : State} {rs : List FrameRow} → Chain σ m s rs → (j : ℕ) (t : State) → get_elem? (called_on s rs) j ≡ some t
      → apply (joined_effects σ m (take j (called_on s rs))) s.latch ≡ Ok t.latch
  unfolding called_on joined_effects
  chain-latch (ended {s} e) zero t k = let z : ◌≡◌ {A = ℕ} 0 1 = cc in cc
  chain-latch (ended {s} e) (suc j) t k = let z : ◌≡◌ {A = ℕ} 0 1 = cc in cc
  chain-latch (drawn {s} l e c) zero t k = let same : s ≡ t = cc in apply-empty s.latch ∙ ap (λ (s : State). Ok s.latch) same
  chain-latch (drawn {s} {r} {rs} l e c) (suc j) t k =
      apply-join (effect_call σ m s.fields).effect _ s.latch
      ∙ ap (λ (a : Result ℕ Refusal). then_apply a (joined_effects σ m (take j (called_on (next_of r) rs)))) (latch-next s e) ∙ chain-latch c j t k
