-- How many words a plan reads at most, and what holds of it.
use mathlib.Core.Path.{◌≡◌, refl}
use mathlib.Core.Bool.{Bool, true}
use Prim.Native.Nat.{◌+◌, ◌≤◌, ◌<◌}
use native.Mathlib.Omega.{arith}
use lib.Dec.{ltb}
use borrow.Author.Tests.{ltb-true}
use Rattle.memory.proofs.ReadBounds.{Reads, dones, bind, check-reads}
use Rattle.settings.specs.declared.Settings.{Settings}
use Rattle.settings.proofs.CheckLaws.{settings-read}
use Rattle.blocks.proofs.BlockBounds.{Few}
use Rattle.windows.proofs.WindowBounds.{Placed, After, after-trans, due-reads}
use Rattle.state.specs.declared.Fields.{Fields}
use Rattle.state.specs.State.{in_range}
use Rattle.state.proofs.StateLaws.{placed, lines-within, has-line}
use Rattle.layout.specs.Layout.{total, edges_fit}
use Rattle.layout.proofs.OverlayBounds.{Inside, Shows, overlaid-reads}
use Rattle.background.proofs.BackgroundBounds.{background-reads}
use Rattle.plan.specs.Plan.{Plan, next_fields, plan, from_state}

-- what the cells need of a plan, and how the next row stands: one number further, within 4095, with fewer lines left, the same fill, and
-- the window in hand that this row shows, if it shows one
pub record Sound (hidden : Bool) (f : Fields) (p : Plan) : Type 0 where
  pub few : Few 15 p.segments
  pub narrow : total hidden p.segments ≤ 132
  pub inside : Inside hidden p.overlay
  pub edges : edges_fit hidden p.overlay p.segments ≡ true
  pub within : f.row + f.left ≤ 4095
  pub numbered : p.next.row ≡ f.row + 1
  pub fewer : p.next.left < f.left
  pub fill : p.next.fill ≡ f.fill
  pub placed : Placed p.next.window
  pub after : After f.window p.next.window
  pub shows : Shows f.row p.next.window p.overlay

-- below its checks on the settings
pub state-reads : (σ : Settings) (f : Fields) → Reads (Sound σ.hidden f) 167 (from_state σ f)
unfolding next_fields
state-reads σ f =
    bind {n = 0} {k = 167} (omega arith) (check-reads 3 (in_range f)) λ _ h₃.
    bind {n = 0} {k = 167} (omega arith) (check-reads 4 (ltb 0 f.left)) λ _ h₄.
    bind {n = 6} {k = 161} (omega arith) (due-reads σ.linear f.row f.window (placed f h₃)) λ w hw.
    bind {n = 83} {k = 78} (omega arith) (background-reads σ f) λ g hg.
    bind {n = 78} {k = 0} (omega arith) (overlaid-reads σ f.row w hw.0) λ o ho.
    bind {n = 0} {k = 0} (omega arith) (check-reads 12 (edges_fit σ.hidden o.overlay g.block.segments)) λ _ h₁₂.
    let some = ltb-true 0 f.left h₄ in
    dones
    (record {
      few = hg.few;
      narrow = hg.narrow;
      inside = ho.inside;
      edges = h₁₂;
      within = lines-within f h₃;
      numbered = refl;
      fewer = omega (arith, hg.tall (has-line f h₃));
      fill = refl;
      placed = ho.placed;
      after = after-trans hw.1 ho.after;
      shows = ho.shows;
    })

pub plan-reads : (σ : Settings) (f : Fields) → Reads (Sound σ.hidden f) 167 (plan σ f)
unfolding plan
plan-reads σ f = bind {n = 0} {k = 167} (omega arith) (settings-read σ) λ _ _. state-reads σ f
