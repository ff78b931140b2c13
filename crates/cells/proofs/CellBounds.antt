-- How many words the cells of a row read at most, and how many cells there are.
use mathlib.Core.Path.{◌≡◌, refl}
use mathlib.Core.Bool.{true, ◌&&◌}
use mathlib.Core.List.{List, [], ◌∷◌}
use Prim.Native.Nat.{ℕ, ◌+◌, ◌-◌, ◌*◌, ◌/◌, ◌≤◌, zero-le}
use native.Mathlib.Omega.{arith}
use native.Mathlib.Nat.{le_refl}
use lib.ListN.{length}
use lib.Dec.{ltb}
use borrow.Author.Tests.{ltb-false}
use Rattle.memory.specs.Reading.{◌>>=◌, each}
use Rattle.memory.specs.Address.{null}
use Rattle.memory.proofs.ReadBounds.{Reads, dones, refuses, asks, weaken, bind, if-cases, if-reads, both}
use Rattle.blocks.specs.declared.FillMode.{FillMode}
use Rattle.blocks.specs.declared.Segment.{Segment}
use Rattle.blocks.proofs.BlockBounds.{Short, Few}
use Rattle.layout.specs.declared.Side.TheVariants.{Before, After}
use Rattle.layout.specs.Layout.{width, total, boundary, Overlay, none, over, edges_fit, segments_on}
use Rattle.layout.proofs.LayoutLaws.{clear, before-total, after-total, sides-length, side-short}
use Rattle.layout.proofs.OverlayBounds.{Inside}
use Rattle.codes.specs.declared.CodeSettings.{CodeSettings}
use Rattle.codes.specs.declared.Source.{Source}
use Rattle.codes.specs.Attribute.{Background, Window, latches}
use Rattle.codes.specs.Codes.{Drawing, drawing, list_at, no_list, with_list, taking}
use Rattle.codes.proofs.CodeBounds.{Even, Inked, At, put-at, codes-read}
use Rattle.cells.specs.Cells.{code_count, filled, fill_by_word, fill_to, segment, segments_to, row_cells}

filled_at : (fill : FillMode) (end : ℕ) (d : Drawing) → Inked end d → At end (filled fill end d)
unfolding filled
filled_at fill end d h = put-at (end - d.pen.column) _ end d h.0 (omega arith)

module _ (σ : CodeSettings) (fill : FillMode) where
  pub fill-reads : (end : ℕ) (d : Drawing) → Inked end d → Reads (At end) 1 (fill_to σ fill end d)
  unfolding fill_to fill_by_word ◌>>=◌ taking
  fill-reads end d h =
      if-reads (ltb d.pen.column end)
      (λ _. if-reads (fill.flag && d.pen.list.present)
      (λ _. asks {n = 1} {k = 0} (le_refl 1) λ w _.
      if-reads (latches w) (λ _. dones (filled_at fill end (drawing (taking σ.linear w d.pen) d.cells) h)) (λ _. refuses))
      (λ _. dones (filled_at fill end d h)))
      (λ e. dones (h.0, omega (arith, ltb-false d.pen.column end e)))

  pub segment_reads : (source : Source) (g : Segment) (d : Drawing) → g.length ≤ 255 → Even d
      → Reads (At (d.pen.column + width σ.hidden g)) 384 (segment σ fill source g d)
  unfolding segment
  segment_reads source g d l h =
      let end = d.pen.column + width σ.hidden g in
      let count = code_count g in
      let k : count ≤ 255 = if-cases (λ n. n ≤ 255) (null g.codes) (λ _. zero-le) (λ _. l) in
      bind {n = (3 * count + 1) / 2} {k = 1} (omega arith)
      (codes-read σ source end count g.codes (with_list (list_at g.attributes) d) (h, omega arith)) (fill-reads end)

  -- segments one after the other, up to a column
  pub segments-read : (source : Source) (gs : List Segment) (end : ℕ) (d : Drawing) → Short gs → Even d
      → d.pen.column + total σ.hidden gs ≡ end → Reads (At end) (384 * length gs) (each (segment σ fill source) gs d)
  unfolding each total
  segments-read source [] end d s h e = dones (h, omega arith)
  segments-read source (g ∷ gs) end d (l, s) h e =
      bind {n = 384} {k = 384 * length gs} (omega arith) (segment_reads source g d l h) λ d₁ h₁.
      segments-read source gs end d₁ s h₁.0 (omega arith)

  -- .. and the fill run after them
  pub segments-to-read : (source : Source) (gs : List Segment) (end : ℕ) (d : Drawing) → Short gs → Even d
      → d.pen.column + total σ.hidden gs ≤ end → Reads (At end) (384 * length gs + 1) (segments_to σ fill source gs end d)
  unfolding segments_to
  segments-to-read source gs end d s h l =
      bind {n = 384 * length gs} {k = 1} (omega arith)
      (segments-read source gs (d.pen.column + total σ.hidden gs) d s h refl) λ d₁ h₁.
      fill-reads end d₁ (h₁.0, omega arith)

  pub cells-read : (o : Overlay) (gs : List Segment) (d : Drawing) → Few 15 gs → total σ.hidden gs ≤ 132 → Inside σ.hidden o
      → edges_fit σ.hidden o gs ≡ true → At 0 d → Reads (At 132) 11523 (row_cells σ fill o gs d)
  unfolding row_cells edges_fit
  cells-read none gs d few n inside e h = weaken (omega arith) (segments-to-read Background gs 132 d few.0 h.0 (omega arith))
  cells-read (over number first end ws) gs d few n inside e h =
      let hidden = σ.hidden in
      let edge = both (boundary hidden 0 gs first) (boundary hidden 0 gs end) e in
      let before = segments_on (Before first) hidden 0 gs in
      let after = segments_on (After first end) hidden 0 gs in
      let x = before-total hidden first 0 gs (clear hidden first gs edge.0) in
      let y = after-total hidden 132 first end 0 gs (clear hidden end gs edge.1) (omega arith) (omega arith) in
      let z = sides-length hidden first end 0 gs in
      let k = 384 * length after + 1 in
      bind {n = 384 * length before + 1} {k = k + 5761} (omega arith)
      (segments-to-read Background before first d (side-short hidden (Before first) 0 gs few.0) h.0 (omega arith)) λ d₁ h₁.
      bind {n = 5761} {k = k} (omega arith)
      (weaken (omega arith) (segments-to-read (Window number) ws end (with_list no_list d₁) inside.0.0 h₁.0 (omega arith))) λ d₂ h₂.
      segments-to-read Background after 132 (with_list d₁.pen.list d₂) (side-short hidden (After first end) 0 gs few.0) h₂.0 (omega arith)
