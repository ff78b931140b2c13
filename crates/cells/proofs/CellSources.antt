-- What every cell of fill and of a source keeps of a row in the making, segments of that source keep. So what holds of every cell of fill,
-- of the background and of the window on a row holds of every cell of the row.
use mathlib.Core.Bool.{◌&&◌}
use mathlib.Core.List.{List}
use Prim.Native.Nat.{ℕ, ◌-◌, ◌<◌}
use lib.Dec.{ltb}
use Rattle.memory.specs.Reading.{◌>>=◌}
use Rattle.memory.proofs.Gives.{Gives, dones, refuses, asks, bind, if-gives, each-gives}
use Rattle.blocks.specs.declared.FillMode.{FillMode}
use Rattle.blocks.specs.declared.Segment.{Segment}
use Rattle.layout.specs.Layout.{Overlay, none, over}
use Rattle.codes.specs.declared.CodeSettings.{CodeSettings}
use Rattle.codes.specs.declared.Source.{Source}
use Rattle.codes.specs.Attribute.{Fill, Background, Window, latches}
use Rattle.codes.specs.Codes.{Drawing, drawing, list_at, no_list, with_list, taking}
use Rattle.codes.proofs.CodeCells.{Kept, AnyPen, codes-keep, Makes, Cells, cells-kept, any-pen}
use Rattle.cells.specs.Cells.{code_count, filled, fill_by_word, fill_to, segment, segments_to, row_cells}

module _ (K : Drawing → Type 0) (pens : AnyPen K) (σ : CodeSettings) (fill : FillMode) (byte : fill.code < 256) (fills : Kept K Fill) where
  filled_keeps : (end : ℕ) (d : Drawing) → K d → K (filled fill end d)
  unfolding filled
  filled_keeps end d h = fills (end - d.pen.column) d.pen.latch fill.code d byte h

  fill-keeps : (end : ℕ) (d : Drawing) → K d → Gives K (fill_to σ fill end d)
  unfolding fill_to fill_by_word ◌>>=◌
  fill-keeps end d h =
      if-gives (ltb d.pen.column end)
      (λ _. if-gives (fill.flag && d.pen.list.present)
      (λ _. asks λ w _.
      let p = taking σ.linear w d.pen in
      if-gives (latches w) (λ _. dones (filled_keeps end (drawing p d.cells) (pens p d h))) (λ _. refuses))
      (λ _. dones (filled_keeps end d h)))
      (λ _. dones h)

  segment-keeps : (source : Source) → Kept K source → (g : Segment) (d : Drawing) → K d → Gives K (segment σ fill source g d)
  unfolding segment
  segment-keeps source kept g d h =
      let listed = with_list (list_at g.attributes) d in
      bind (codes-keep K pens σ source kept _ (code_count g) g.codes listed (pens listed.pen d h)) (fill-keeps _)

  pub run-keeps : (source : Source) → Kept K source → (gs : List Segment) (end : ℕ) (d : Drawing) → K d
      → Gives K (segments_to σ fill source gs end d)
  unfolding segments_to
  run-keeps source kept gs end d h = bind (each-gives (segment-keeps source kept) gs d h) (fill-keeps end)

-- what the window on a row makes
abbrev pub WindowMakes : (ℕ → Type 0) → Overlay → Type 0
WindowMakes P none = Unit
WindowMakes P (over number first end ws) = Makes P (Window number)

module _ (P : ℕ → Type 0) (σ : CodeSettings) (fill : FillMode) (byte : fill.code < 256) (fills : Makes P Fill) where
  run-cells : (source : Source) → Makes P source → (gs : List Segment) (end : ℕ) (d : Drawing) → Cells P d
      → Gives (Cells P) (segments_to σ fill source gs end d)
  run-cells source makes = run-keeps (Cells P) (any-pen P) σ fill byte (cells-kept P Fill fills) source (cells-kept P source makes)

  pub row-cells : Makes P Background → (o : Overlay) → WindowMakes P o → (gs : List Segment) (d : Drawing) → Cells P d
      → Gives (Cells P) (row_cells σ fill o gs d)
  unfolding row_cells
  row-cells back none w gs d h = run-cells Background back gs 132 d h
  row-cells back (over number first end ws) w gs d h =
      bind (run-cells Background back _ first d h) λ d₁ h₁.
      bind (run-cells (Window number) w ws end (with_list no_list d₁) h₁) λ d₂ h₂. run-cells Background back _ 132 (with_list d₁.pen.list d₂) h₂
