-- The laws by which a proof follows a start.
use Rattle.std.proofs.Common.{Option, Result, Ok, Err, refl}
use mathlib.Core.Path.{◌≡◌, ap, ◌∙◌}
use mathlib.Core.Bool.{Bool, true, false, not, ◌&&◌}
use mathlib.Core.List.{List}
use Prim.Native.Nat.{ℕ, ◌+◌}
use borrow.Author.Tests.{eq-eqb, ne_eqb}
use Rattle.memory.specs.declared.Fault.{Fault}
use Rattle.memory.specs.Reading.{done, fault, ◌>>◌, check, given, refused, run_from, run, told_in}
use Rattle.memory.proofs.Laws.{check-passed, check-failed, bind-given, bind-refused, step_given, step-refused, run-done}
use Rattle.settings.specs.declared.PointerWords.{PointerWords}
use Rattle.settings.specs.declared.Settings.{Settings}
use Rattle.settings.specs.Good.{check_settings}
use Rattle.blocks.specs.declared.MainBlock.{MainBlock}
use Rattle.blocks.specs.Main.{main_block_at}
use Rattle.windows.specs.Window.{first_window}
use Rattle.windows.specs.declared.Window.{Window}
use Rattle.state.specs.State.{state_of}
use Rattle.start.specs.declared.Started.{Started}
use Rattle.start.specs.Top.{registered, enabled, of_window, top_block}
use Rattle.start.specs.Start.{first_fields, window_start, main_start, start_from, started}
use Rattle.start.specs.Answers.{start_read}

-- a start is told as its reading's outcome is
pub told-started : (r : Result Started Fault) → told_in 0 r ≡ started (start_read r)
told-started (Ok s) = refl
told-started (Err x) = refl

module _ (n : ℕ) (m : List ℕ) (latch : ℕ) (σ : Settings) (main : MainBlock) where
  pub window-refused : {x : Fault} → run m (first_window σ.linear (registered σ.linear σ.tow)) ≡ refused x
      → run_from n m (window_start latch σ main) ≡ refused x
  unfolding window_start
  window-refused e = step-refused n m _ _ e

  pub window-started : {i : ℕ} {w : Option Window} → run m (first_window σ.linear (registered σ.linear σ.tow)) ≡ given i w
      → run_from n m (window_start latch σ main) ≡ given (n + i) (state_of latch (first_fields σ main w))
  unfolding window_start
  window-started e = step_given n m _ _ e ∙ run-done _ _ _

module _ (m : List ℕ) (latch : ℕ) (σ : Settings) where
  pub settings-refused : {x : Fault} → run m (check_settings σ) ≡ refused x → run m (start_from latch σ) ≡ refused x
  unfolding start_from
  settings-refused e = bind-refused 0 m (check_settings σ) _ e

  pub settings-passed : run m (check_settings σ) ≡ given 0 tt → run m (start_from latch σ) ≡ run m (main_start latch σ)
  unfolding start_from
  settings-passed e = bind-given 0 m (check_settings σ) _ e

  pub main-refused : {x : Fault} → run m (top_block σ.linear σ.top) ≡ refused x → run m (main_start latch σ) ≡ refused x
  main-refused e = bind-refused 0 m (top_block σ.linear σ.top) _ e

  pub main-read : {main : MainBlock} → run m (top_block σ.linear σ.top) ≡ given 7 main
      → run m (main_start latch σ) ≡ run_from 7 m (window_start latch σ main)
  main-read e = bind-given 0 m (top_block σ.linear σ.top) _ e

-- the main block of a top register
module _ (m : List ℕ) (linear : Bool) (top : PointerWords) where
  pub top-null : (registered linear top).address ≡ 0 → run m (top_block linear top) ≡ refused (fault 6)
  unfolding top_block
  top-null t = check-failed 0 m 6 _ _ (ap not (eq-eqb _ 0 t))

  module _ (t : (registered linear top).address ≡ 0 → ⊥) where
    pub top-absent : {x : Fault} → run m (main_block_at linear (registered linear top)) ≡ refused x → run m (top_block linear top) ≡ refused x
    unfolding top_block
    top-absent e = check-passed 0 m 6 _ _ (ap not (ne_eqb _ 0 t)) ∙ bind-refused 0 m (main_block_at linear (registered linear top)) _ e

    module _ {main : MainBlock} (e : run m (main_block_at linear (registered linear top)) ≡ given 7 main) where
      m4-checked : run m (top_block linear top) ≡ run_from 7 m (check 14 (not (enabled main && of_window main)) >> done main)
      unfolding top_block
      m4-checked = check-passed 0 m 6 _ _ (ap not (ne_eqb _ 0 t)) ∙ bind-given 0 m (main_block_at linear (registered linear top)) _ e

      pub top-of-window : enabled main && of_window main ≡ true → run m (top_block linear top) ≡ refused (fault 14)
      top-of-window h = m4-checked ∙ check-failed 7 m 14 _ _ (ap not h)

      pub top_read : enabled main && of_window main ≡ false → run m (top_block linear top) ≡ given 7 main
      top_read h = m4-checked ∙ check-passed 7 m 14 _ _ (ap not h) ∙ run-done 7 m main
