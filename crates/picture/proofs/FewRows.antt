-- A frame has no more rows than lines, of which row 0 takes its height or all: its rows and a shift below that height are within 4095.
use Rattle.std.proofs.Common.{Result, Ok, Err}
use mathlib.Core.Path.{◌≡◌, refl, ap, sym, subst}
use mathlib.Core.Bool.{Bool, true}
use mathlib.Core.List.{List}
use mathlib.Core.Option.{some}
use Prim.Native.Nat.{ℕ, ◌+◌, ◌-◌, ◌<◌, ◌≤◌, min}
use native.Mathlib.Omega.{arith}
use lib.ListN.{length, length-replicate}
use lib.Dec.{eqb, leb, ltb}
use borrow.Author.Tests.{leb-true}
use Rattle.memory.specs.declared.Pointer.{Pointer}
use Rattle.memory.specs.Address.{null, words}
use Rattle.memory.specs.Reading.{nobody, check, check_of, Outcome, given, refused, run}
use Rattle.memory.proofs.ReadBounds.{Words, both, if-cases}
use Rattle.memory.proofs.Gives.{Gives, dones, bind, check-gives, if-gives, run-gives}
use Rattle.memory.specs.declared.Refusal.{Refusal}
use Rattle.settings.specs.declared.Settings.{Settings}
use Rattle.settings.specs.Good.{check_settings}
use Rattle.blocks.specs.declared.RowFormat.{RowFormat}
use Rattle.blocks.specs.RowBlock.{row_block_at, format_of, redefined}
use Rattle.windows.specs.Window.{due_window}
use Rattle.state.specs.declared.Fields.{Fields}
use Rattle.state.specs.declared.State.{State}
use Rattle.state.specs.State.{pointer_in_range, window_in_range, format_in_range, in_range}
use Rattle.layout.specs.Layout.{total, all_fit, edges_fit}
use Rattle.layout.specs.Overlay.{overlaid}
use Rattle.background.specs.Background.{background_block, background_row}
use Rattle.plan.specs.Plan.{next_fields, plan}
use Rattle.codes.specs.Codes as Codes
use Rattle.cells.specs.Cells.{row_cells}
use Rattle.row.specs.Row.{Row, code_settings, row, answered, row_call}
use Rattle.row.proofs.RowBound.{row-drawn}
use Rattle.frame.specs.declared.Progress.{Progress}
use Rattle.frame.specs.Step.{begin, row_step, Stepped, step}
use Rattle.frame.specs.Frame.{Frame, by_answer, by_step, blank, rest, from_begin, frame}
use Rattle.frame.proofs.Frames.{next-step, rest-rows}
use Rattle.picture.specs.Picture.{PictureRow, picture_row, picture_rows, begun_rows, frame_rows, first}
use Rattle.picture.specs.Beside.{ShiftFits}
use Rattle.picture.proofs.Made.{row_from}
use Rattle.picture.proofs.Clear.{any}

-- ---- the height of a row ----

low-format : (f : Fields) → in_range f ≡ true → f.format.lines ≤ 32
unfolding in_range
low-format f h =
    let t = f.format in
    let ranged = (both (leb (f.row + f.left) 4095) (format_in_range t) (both _ (pointer_in_range f.next) (both _ (window_in_range f.window) h).0).0).1 in
    leb-true t.lines 32 (both (leb 1 t.lines) _ (both _ (leb t.curs 31) (both _ (leb t.cure 31) (both _ (leb t.attributes 1023) ranged).0).0).0).1

redefined-low : (linear : Bool) (p : Pointer) (t : RowFormat) → t.lines ≤ 32 → Gives (λ u. u.lines ≤ 32) (redefined linear p t)
unfolding redefined format_of
redefined-low linear p t h = if-gives (null p) (λ _. dones h) (λ _. bind (any (words linear 3 p)) λ b _. dones (omega arith))

module _ (σ : Settings) where
  background-low : (f : Fields) → f.format.lines ≤ 32 → Gives (λ g. g.format.lines ≤ 32) (background_row σ f)
  unfolding background_row background_block
  background-low f h =
      bind (bind (any (row_block_at σ.linear f.next)) λ b _. bind (redefined-low σ.linear b.redefinition f.format h) λ t k. dones k) λ g k.
      bind (any (check_of 9 f.next (all_fit g.block.segments))) λ _ _.
      bind (any (check_of 10 f.next (leb (total σ.hidden g.block.segments) 132))) λ _ _. dones k

  -- a row of at most 32 scan lines, which takes them all or the lines left
  abbrev Takes : ℕ → Fields → Type 0
  Takes left next = (next.format.lines ≤ 32) × (next.left ≡ left - min next.format.lines left)

  plan-takes : (f : Fields) → Gives (λ p. Takes f.left p.next) (plan σ f)
  unfolding plan next_fields
  plan-takes f =
      bind (any (check_settings σ)) λ _ _.
      bind (check-gives 3 nobody (in_range f)) λ _ h.
      bind (any (check 4 (ltb 0 f.left))) λ _ _.
      bind (any (due_window σ.linear f.row f.window)) λ w _.
      bind (background-low f (low-format f h)) λ g k.
      bind (any (overlaid σ f.row w)) λ o _.
      bind (any (check 12 (edges_fit σ.hidden o.overlay g.block.segments))) λ _ _. dones (k, refl)

  row-takes : (s : State) → Gives (λ r. Takes s.fields.left r.next) (row σ s)
  unfolding row
  row-takes s =
      bind (plan-takes s.fields) λ p h.
      bind (any (row_cells (code_settings σ) s.fields.fill p.overlay p.segments (Codes.blank s.latch))) λ d _. dones h

-- ---- the rows of a frame ----

module _ (σ : Settings) (m : List ℕ) (w : Words m) (r : PictureRow) (n : ℕ) (l : n < r.height) where
  abbrev Fits : State → Frame → Type 0
  Fits s f = first (picture_rows σ m s f.rows) ≡ some r → length f.rows + n ≤ 4095

  by-outcome : (p : Progress) (o : Outcome Row) → run m (row σ p.state) ≡ o
      → Fits p.state (by_answer (rest σ m) p (row_step p (answered σ p.state.fields blank o).answer) (answered σ p.state.fields blank o).buffer)
  unfolding picture_rows picture_row
  by-outcome p (given k d) e h =
      let q : Progress = record { state = (row_from σ p.state k d).answer.next; words = p.words + k } in
      let same : picture_row σ m p.state (row_from σ p.state k d) ≡ r = cc in
      let height : d.next.format.lines ≡ r.height = ap (λ (r : PictureRow). r.height) same in
      omega (arith, run-gives 0 m w (row-takes σ p.state) e, (rest-rows σ m w q).0, (row-drawn σ m w p.state e).1.within)
  by-outcome p (refused x) e h = let z : ◌≡◌ {A = ℕ} 0 1 = cc in absurd (omega arith)

  by-step : (p : Progress) → Fits p.state (by_step (rest σ m) p (step σ m p blank))
  unfolding step row_call picture_rows
  by-step p =
      if-cases (λ (s : Stepped). Fits p.state (by_step (rest σ m) p s)) (eqb p.state.fields.left 0)
      (λ _ h. let z : ◌≡◌ {A = ℕ} 0 1 = cc in absurd (omega arith)) (λ _. by-outcome p (run m (row σ p.state)) refl)

  from_start : (x : Result Progress Refusal) → first (begun_rows σ m x) ≡ some r → length (from_begin σ m x).rows + n ≤ 4095
  from_start (Ok p) h = subst (Fits p.state) (sym (next-step σ m w p blank (length-replicate {A = ℕ} 132 0))) (by-step p) h
  from_start (Err x) h = let z : ◌≡◌ {A = ℕ} 0 1 = cc in absurd (omega arith)

pub shift_fits : ShiftFits
unfolding frame_rows frame
shift_fits latch σ m w r e n l = from_start σ m w r n l (begin latch σ m) e
