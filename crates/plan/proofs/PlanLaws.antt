-- What the plan of a row comes to: a law for each way through its definitions, from what the readings in it come to.
use Rattle.std.proofs.Common.{Option}
use mathlib.Core.Path.{◌≡◌, ◌∙◌}
use mathlib.Core.Bool.{true, false}
use mathlib.Core.List.{List}
use Prim.Native.Nat.{ℕ, ◌+◌, ◌<◌, ◌≤◌}
use native.Mathlib.Omega.{arith}
use lib.Dec.{ltb}
use borrow.Author.Tests.{lt-ltb, le-ltb}
use Rattle.memory.specs.declared.Fault.{Fault}
use Rattle.memory.specs.Reading.{done, fault, ◌>>◌, check, given, refused, run_from, run}
use Rattle.memory.proofs.Laws.{bind-given, bind-refused, step_given, step-refused, check-passed, check-failed, run-done}
use Rattle.memory.proofs.ReadBounds.{Words, reads-given}
use Rattle.settings.specs.declared.Settings.{Settings}
use Rattle.settings.specs.Good.{check_settings}
use Rattle.windows.specs.Window.{due_window}
use Rattle.windows.proofs.WindowBounds.{due-reads}
use Rattle.windows.specs.declared.Window.{Window}
use Rattle.state.specs.declared.Fields.{Fields}
use Rattle.state.specs.State.{in_range}
use Rattle.state.proofs.StateLaws.{placed}
use Rattle.layout.specs.Layout.{edges_fit}
use Rattle.layout.specs.Overlay.{Overlaid, overlaid}
use Rattle.layout.proofs.OverlayBounds.{overlaid-reads}
use Rattle.background.specs.Background.{BackgroundRow, background_row}
use Rattle.background.proofs.BackgroundBounds.{background-reads}
use Rattle.plan.specs.Plan.{planned, from_blocks, from_state, plan}

-- the blocks of a row one after the other, then check 12
module _ (m : List ℕ) (σ : Settings) (f : Fields) where
  pub window-refused : {x : Fault}
      → run m (due_window σ.linear f.row f.window) ≡ refused x → run m (from_blocks σ f) ≡ refused x
  window-refused e = bind-refused 0 m (due_window σ.linear f.row f.window) _ e

  module _ {i : ℕ} {w : Option Window} (e : run m (due_window σ.linear f.row f.window) ≡ given i w) where
    pub background-refused : {x : Fault} → run m (background_row σ f) ≡ refused x → run m (from_blocks σ f) ≡ refused x
    background-refused d = bind-given 0 m (due_window σ.linear f.row f.window) _ e ∙ step-refused i m (background_row σ f) _ d

    module _ {j : ℕ} {g : BackgroundRow} (d : run m (background_row σ f) ≡ given j g) where
      pub overlay-refused : {x : Fault} → run m (overlaid σ f.row w) ≡ refused x → run m (from_blocks σ f) ≡ refused x
      overlay-refused u =
          bind-given 0 m (due_window σ.linear f.row f.window) _ e ∙ step_given i m (background_row σ f) _ d
          ∙ step-refused (i + j) m (overlaid σ f.row w) _ u

      module _ {k : ℕ} {o : Overlaid} (u : run m (overlaid σ f.row w) ≡ given k o) where
        edges-checked : run m (from_blocks σ f)
            ≡ run_from (i + j + k) m (check 12 (edges_fit σ.hidden o.overlay g.block.segments) >> done (planned f g o))
        edges-checked =
            bind-given 0 m (due_window σ.linear f.row f.window) _ e ∙ step_given i m (background_row σ f) _ d
            ∙ step_given (i + j) m (overlaid σ f.row w) _ u

        pub edges-off : edges_fit σ.hidden o.overlay g.block.segments ≡ false
            → run m (from_blocks σ f) ≡ refused (fault 12)
        edges-off h = edges-checked ∙ check-failed _ m 12 _ _ h

        pub edges-on : edges_fit σ.hidden o.overlay g.block.segments ≡ true
            → run m (from_blocks σ f) ≡ given (i + j + k) (planned f g o)
        edges-on h = edges-checked ∙ check-passed _ m 12 _ _ h ∙ run-done _ m _

        pub plan-words : Words m → in_range f ≡ true → i + j + k ≤ 167
        plan-words b h =
            let due = reads-given 0 m b (due-reads σ.linear f.row f.window (placed f h)) e in
            omega (
              arith,
              (reads-given 0 m b (background-reads σ f) d).0,
              (reads-given 0 m b (overlaid-reads σ f.row w due.1.0) u).0,
            )

-- checks 2 and 17, and checks 3 and 4
module _ (m : List ℕ) (σ : Settings) (f : Fields) where
  pub settings-refused : {x : Fault} → run m (check_settings σ) ≡ refused x → run m (plan σ f) ≡ refused x
  unfolding plan
  settings-refused e = bind-refused 0 m (check_settings σ) _ e

  pub settings-passed : run m (check_settings σ) ≡ given 0 tt → run m (plan σ f) ≡ run m (from_state σ f)
  unfolding plan
  settings-passed e = bind-given 0 m (check_settings σ) _ e

  pub state-out : in_range f ≡ false → run m (from_state σ f) ≡ refused (fault 3)
  state-out e = check-failed 0 m 3 (in_range f) _ e

  module _ (s : in_range f ≡ true) where
    pub no_lines : f.left ≡ 0 → run m (from_state σ f) ≡ refused (fault 4)
    no_lines e =
        check-passed 0 m 3 (in_range f) _ s ∙ check-failed 0 m 4 (ltb 0 f.left) _ (le-ltb 0 f.left (omega arith))

    module _ (l : 0 < f.left) where
      pub all-checked : run m (from_state σ f) ≡ run m (from_blocks σ f)
      all-checked = check-passed 0 m 3 (in_range f) _ s ∙ check-passed 0 m 4 (ltb 0 f.left) _ (lt-ltb 0 f.left l)
