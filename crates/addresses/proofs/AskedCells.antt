-- The cells of an accepted row ask for the addresses of the walk: a segment has a fill run where its last cell is fill.
use mathlib.Core.Path.{◌≡◌, refl, ap, sym, ◌∙◌}
use mathlib.Core.List.{List, [], ◌∷◌, ◌++◌}
use mathlib.Core.Bool.{Bool, true, false, ◌&&◌}
use Prim.Native.Nat.{ℕ, ◌+◌, ◌-◌, ◌<◌, ◌≤◌}
use native.Mathlib.Omega.{arith}
use native.Mathlib.Nat.{le_refl, add-zero}
use lib.ListN.{length, get_or, replicate, length-append, length-replicate, get_or-replicate, get_or-append}
use lib.Seq.{get_or-append-add}
use lib.Dec.{ltb, eqb}
use borrow.Author.Tests.{ltb-true, ltb-false, lt-ltb, ne_eqb}
use Rattle.memory.specs.Reading.{each}
use Rattle.memory.proofs.ReadBounds.{Words}
use Rattle.blocks.specs.declared.FillMode.{FillMode}
use Rattle.blocks.specs.declared.Segment.{Segment}
use Rattle.layout.specs.declared.Side.TheVariants.{Before, After}
use Rattle.layout.specs.Layout.{width, total, Overlay, none, over, segments_on}
use Rattle.layout.proofs.LayoutLaws.{whole-all}
use Rattle.codes.specs.declared.CodeSettings.{CodeSettings}
use Rattle.codes.specs.declared.Source.{Source}
use Rattle.codes.specs.Attribute.{Background, Window, source_number, source_of}
use Rattle.codes.specs.Codes.{Drawing, list_at, no_list, with_list, blank, codes}
use Rattle.cells.specs.Cells.{code_count, fill_to, segment, segments_to, row_cells}
use Rattle.cells.specs.Answers.{Drawable}
use Rattle.cells.proofs.SideLaws.{around}
use Rattle.addresses.specs.Addresses.{ends_in_fill, segment_addresses, segment_list, side_addresses, side_list, run_addresses, run_list, cell_addresses}
use Rattle.addresses.proofs.Trace.{Trace, dones, parts, joined, trace-gives}
use Rattle.addresses.proofs.AskedCodes.{Takes, codes-asked}
use Rattle.addresses.proofs.AskedFill.{Grown, grown-refl, grown-append, Ink, codes-ink, Filled, fill-asked}

-- the row as it was at first, drawn up to a column
pub record Moved (xs : List ℕ) (c : ℕ) (d : Drawing) : Type 0 where
  pub even : length d.cells ≡ d.pen.column
  pub column : d.pen.column ≡ c
  pub grown : Grown xs d.cells

-- cells whose sources are those of a row in the making, as far as it goes
abbrev pub Alike : List ℕ → List ℕ → Type 0
Alike xs cs = (i : ℕ) → i < length xs → source_of (get_or cs i 0) ≡ source_of (get_or xs i 0)

pub alike-before : {xs ys : List ℕ} (cs : List ℕ) → Grown xs ys → Alike ys cs → Alike xs cs
alike-before cs g h i l = h i (omega (arith, g.longer)) ∙ ap source_of (g.same i l)

module _ (m : List ℕ) (b : Words m) (σ : CodeSettings) (fill : FillMode) (byte : fill.code < 256) where
  -- a fill run, from a row drawn up to a column before its end
  fill-moved : (xs : List ℕ) (end : ℕ) (d : Drawing) {ys : List ℕ} {e : Drawing} → length d.cells ≡ d.pen.column → d.pen.column ≤ end
      → Grown xs d.cells → Filled σ.linear fill end d ys e → Moved xs end e
  fill-moved xs end d {e = e} even l g f =
      let run = replicate (end - d.pen.column) f.value in
      let cells = f.cells in
      record {
        even = ap length cells ∙ omega (arith, even, f.column l, length-append d.cells run, length-replicate (end - d.pen.column) f.value);
        column = f.column l;
        grown = rw cells (grown-append run g);
      }

  module _ (source : Source) (ink : source_number source ≡ 0 → ⊥) where
    -- a segment ends in fill where a run was left after its codes
    ends : (cs : List ℕ) (c end : ℕ) (xs : List ℕ) (d : Drawing) {ys : List ℕ} {e : Drawing} → Ink c end xs d → Filled σ.linear fill end d ys e
        → Alike e.cells cs → ends_in_fill cs c end ≡ ltb d.pen.column end
    unfolding ends_in_fill
    ends cs c end xs d {e = e} i f same = by (ltb d.pen.column end) refl
      where
        run : List ℕ
        run = replicate (end - d.pen.column) f.value

        long : length e.cells ≡ d.pen.column + (end - d.pen.column)
        long = ap length f.cells ∙ omega (arith, i.even, length-append d.cells run, length-replicate (end - d.pen.column) f.value)

        by : (t : Bool) → ltb d.pen.column end ≡ t → ltb c end && eqb (source_of (get_or cs (end - 1) 0)) 0 ≡ ltb d.pen.column end
        by true h =
            let l = ltb-true d.pen.column end h in
            let at : end - 1 ≡ length d.cells + (end - 1 - d.pen.column) = omega (arith, i.even) in
            let cell : get_or e.cells (end - 1) 0 ≡ f.value
            = ap (λ (k : List ℕ). get_or k (end - 1) 0) f.cells ∙ ap (λ (k : ℕ). get_or (d.cells ++ run) k 0) at
            ∙ get_or-append-add d.cells run (end - 1 - d.pen.column) 0 ∙ get_or-replicate (end - d.pen.column) (end - 1 - d.pen.column) f.value 0 (omega arith) in
            let source : source_of (get_or cs (end - 1) 0) ≡ 0 = same (end - 1) (omega (arith, long)) ∙ ap source_of cell ∙ f.is-fill in
            rw (lt-ltb c end (omega (arith, i.since)), h, source)
        by false h =
            let l = ltb-false d.pen.column end h in
            let full : d.pen.column ≡ end = omega (arith, i.within) in
            rw h (inked (ltb c end) refl full)
          where
            inked : (u : Bool) → ltb c end ≡ u → d.pen.column ≡ end → u && eqb (source_of (get_or cs (end - 1) 0)) 0 ≡ false
            inked false k full = refl
            inked true k full =
                let l = ltb-true c end k in
                let cell : get_or e.cells (end - 1) 0 ≡ get_or d.cells (d.pen.column - 1) 0
                = ap (λ (k : List ℕ). get_or k (end - 1) 0) f.cells ∙ get_or-append d.cells run 0 (end - 1) (omega (arith, i.even))
                ∙ ap (λ (k : ℕ). get_or d.cells (k - 1) 0) (sym full) in
                ne_eqb (source_of (get_or cs (end - 1) 0)) 0 λ z.
                i.last (omega arith) (ap source_of (sym cell) ∙ sym (same (end - 1) (omega (arith, long))) ∙ z)

    -- a segment
    begun : (xs : List ℕ) (g : Segment) (d : Drawing) → length d.cells ≡ d.pen.column → Grown xs d.cells
        → Ink d.pen.column (d.pen.column + width σ.hidden g) xs (with_list (list_at g.attributes) d)
    begun xs g d even g₁ = record { even = even; within = omega arith; since = le_refl d.pen.column; last = λ l _. omega (arith, l); grown = g₁ }

    pub segment-moved : (xs : List ℕ) (g : Segment) (d : Drawing) {ys : List ℕ} {e : Drawing} → length d.cells ≡ d.pen.column → Grown xs d.cells
        → Trace m (segment σ fill source g d) ys e → Moved xs (d.pen.column + width σ.hidden g) e
    unfolding segment
    segment-moved xs g d even g₁ t =
        let end = d.pen.column + width σ.hidden g in
        let r = parts (codes σ source end (code_count g) g.codes (with_list (list_at g.attributes) d)) (fill_to σ fill end) t in
        let i = trace-gives b (codes-ink σ source ink d.pen.column end xs (code_count g) g.codes (with_list (list_at g.attributes) d) (begun xs g d even g₁)) r.one in
        fill-moved xs end r.result i.even i.within i.grown (fill-asked m σ fill byte end r.result r.two)

    pub segment-asked : (cs : List ℕ) (g : Segment) (d : Drawing) {ys : List ℕ} {e : Drawing} → length d.cells ≡ d.pen.column → Alike e.cells cs
        → Trace m (segment σ fill source g d) ys e
        → Takes ys e.pen.list (segment_addresses σ m fill cs d.pen.column g) (segment_list σ m fill cs d.pen.column g)
    unfolding segment segment_addresses segment_list
    segment-asked cs g d even same t =
        let end = d.pen.column + width σ.hidden g in
        let d₀ = with_list (list_at g.attributes) d in
        let r = parts (codes σ source end (code_count g) g.codes d₀) (fill_to σ fill end) t in
        let i = trace-gives b (codes-ink σ source ink d.pen.column end d.cells (code_count g) g.codes d₀ (begun d.cells g d even (grown-refl d.cells))) r.one in
        let c = codes-asked σ m source end (code_count g) g.codes d₀ r.one in
        let f = fill-asked m σ fill byte end r.result r.two in
        let run = ends cs d.pen.column end d.cells r.result i f same in
        record {
          addresses = joined r.sum c.addresses (rw (← run, c.list) at f.addresses);
          list = rw (← run, c.list) at f.list;
        }

    -- segments one after the other
    each-moved : (xs : List ℕ) (gs : List Segment) (d : Drawing) {ys : List ℕ} {e : Drawing} → length d.cells ≡ d.pen.column → Grown xs d.cells
        → Trace m (each (segment σ fill source) gs d) ys e → Moved xs (d.pen.column + total σ.hidden gs) e
    unfolding each total
    each-moved xs [] d even g dones = record { even = even; column = sym (add-zero d.pen.column); grown = g }
    each-moved xs (x ∷ gs) d even g t =
        let r = parts (segment σ fill source x d) (each (segment σ fill source) gs) t in
        let one = segment-moved xs x d even g r.one in
        let rest = each-moved xs gs r.result one.even one.grown r.two in
        record { even = rest.even; column = rest.column ∙ omega (arith, one.column); grown = rest.grown }

    each-asked : (cs : List ℕ) (gs : List Segment) (d : Drawing) {ys : List ℕ} {e : Drawing} → length d.cells ≡ d.pen.column → Alike e.cells cs
        → Trace m (each (segment σ fill source) gs d) ys e
        → Takes ys e.pen.list (side_addresses σ m fill cs d.pen.column gs) (side_list σ m fill cs d.pen.column gs d.pen.list)
    unfolding each side_addresses side_list
    each-asked cs [] d even same dones = record { addresses = refl; list = refl }
    each-asked cs (x ∷ gs) d even same t =
        let r = parts (segment σ fill source x d) (each (segment σ fill source) gs) t in
        let d₁ = r.result in
        let moved = segment-moved d.cells x d even (grown-refl d.cells) r.one in
        let rest = each-moved d₁.cells gs d₁ moved.even (grown-refl d₁.cells) r.two in
        let f = segment-asked cs x d even (alike-before cs rest.grown same) r.one in
        let g = each-asked cs gs d₁ moved.even same r.two in
        record {
          addresses = joined r.sum f.addresses (rw moved.column at g.addresses);
          list = rw (moved.column, f.list) at g.list;
        }

    -- .. and the fill run after them
    pub run_moved : (xs : List ℕ) (gs : List Segment) (end : ℕ) (d : Drawing) {ys : List ℕ} {e : Drawing} → length d.cells ≡ d.pen.column
        → d.pen.column + total σ.hidden gs ≤ end → Grown xs d.cells → Trace m (segments_to σ fill source gs end d) ys e → Moved xs end e
    unfolding segments_to
    run_moved xs gs end d even l g t =
        let r = parts (each (segment σ fill source) gs d) (fill_to σ fill end) t in
        let one = each-moved xs gs d even g r.one in
        fill-moved xs end r.result one.even (omega (arith, one.column)) one.grown (fill-asked m σ fill byte end r.result r.two)

    pub run-asked : (cs : List ℕ) (gs : List Segment) (end : ℕ) (d : Drawing) {ys : List ℕ} {e : Drawing} → length d.cells ≡ d.pen.column
        → d.pen.column + total σ.hidden gs ≤ end → Alike e.cells cs → Trace m (segments_to σ fill source gs end d) ys e
        → Takes ys e.pen.list (run_addresses σ m fill cs d.pen.column gs end d.pen.list) (run_list σ m fill cs d.pen.column gs end d.pen.list)
    unfolding segments_to run_addresses run_list
    run-asked cs gs end d even l same t =
        let r = parts (each (segment σ fill source) gs d) (fill_to σ fill end) t in
        let d₁ = r.result in
        let one = each-moved d.cells gs d even (grown-refl d.cells) r.one in
        let f = fill-asked m σ fill byte end d₁ r.two in
        let rest = fill-moved d₁.cells end d₁ one.even (omega (arith, one.column)) (grown-refl d₁.cells) f in
        let g = each-asked cs gs d even (alike-before cs rest.grown same) r.one in
        record {
          addresses = joined r.sum g.addresses (rw (one.column, g.list) at f.addresses);
          list = rw (one.column, g.list) at f.list;
        }

  -- the row
  back-ink : source_number Background ≡ 0 → ⊥
  unfolding source_number
  back-ink e = omega (arith, e)

  window-ink : (number : ℕ) → source_number (Window number) ≡ 0 → ⊥
  unfolding source_number
  window-ink number e = omega (arith, e)

  pub cells-asked : (cs : List ℕ) (o : Overlay) (gs : List Segment) (latch : ℕ) {ys : List ℕ} {e : Drawing} → Drawable σ.hidden o gs → Alike e.cells cs
      → Trace m (row_cells σ fill o gs (blank latch)) ys e → ys ≡ cell_addresses σ m fill cs o gs
  unfolding row_cells cell_addresses
  cells-asked cs none gs latch d same t = (run-asked Background back-ink cs gs 132 (blank latch) refl (omega (arith, d.narrow)) same t).addresses
  cells-asked cs (over number first end ws) gs latch d same t =
      let hidden = σ.hidden in
      let k = around hidden number first end ws gs d in
      let before = segments_on (Before first) hidden 0 gs in
      let after = segments_on (After first end) hidden 0 gs in
      let inside : first + total hidden ws ≤ end = rw (whole-all hidden 0 ws) at k.inside in
      let d₀ = blank latch in
      let r = parts (segments_to σ fill Background before first d₀) _ t in
      let d₁ = r.result in
      let m₁ = run_moved Background back-ink d₀.cells before first d₀ refl (omega (arith, k.before)) (grown-refl d₀.cells) r.one in
      let s = parts (segments_to σ fill (Window number) ws end (with_list no_list d₁)) _ r.two in
      let d₂ = s.result in
      let fits₂ : d₁.pen.column + total hidden ws ≤ end = omega (arith, m₁.column) in
      let m₂ = run_moved (Window number) (window-ink number) d₁.cells ws end (with_list no_list d₁) m₁.even fits₂ (grown-refl d₁.cells) s.one in
      let d₃ = with_list d₁.pen.list d₂ in
      let fits₃ : d₂.pen.column + total hidden after ≤ 132 = omega (arith, m₂.column, k.after) in
      let m₃ = run_moved Background back-ink d₂.cells after 132 d₃ m₂.even fits₃ (grown-refl d₂.cells) s.two in
      let same₂ = alike-before cs m₃.grown same in
      let one = run-asked Background back-ink cs before first d₀ refl (omega (arith, k.before)) (alike-before cs m₂.grown same₂) r.one in
      let two = run-asked (Window number) (window-ink number) cs ws end (with_list no_list d₁) m₁.even fits₂ same₂ s.one in
      let three = run-asked Background back-ink cs after 132 d₃ m₂.even fits₃ same s.two in
      let window = two.addresses ∙ ap (λ (c : ℕ). run_addresses σ m fill cs c ws end no_list) m₁.column in
      let rest =
      three.addresses ∙ ap (λ (c : ℕ). run_addresses σ m fill cs c after 132 d₁.pen.list) m₂.column
      ∙ ap (run_addresses σ m fill cs end after 132) one.list in
      joined r.sum one.addresses (joined s.sum window rest)
