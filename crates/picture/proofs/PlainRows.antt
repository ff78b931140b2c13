-- A row without a window is drawn from its row block, the fill and the latch: two such rows of one address have one drawing, and where they
-- lead is one address too.
use Rattle.std.proofs.Common.{Option, None}
use mathlib.Core.Path.{◌≡◌, refl, sym, ap, ◌∙◌}
use mathlib.Core.Bool.{Bool}
use mathlib.Core.List.{List, [], ◌∷◌, ◌++◌}
use mathlib.Core.Option.{Option as Maybe, none as nothing, some}
use Prim.Native.Nat.{ℕ, zero, suc}
use lib.ListN.{get_elem?}
use Rattle.memory.specs.declared.Pointer.{Pointer}
use Rattle.memory.specs.Reading.{given, run_from, run}
use Rattle.settings.specs.declared.Settings.{Settings}
use Rattle.blocks.specs.declared.FillMode.{FillMode}
use Rattle.blocks.specs.RowBlock.{RowBlock}
use Rattle.background.specs.Background.{BackgroundRow, background_block}
use Rattle.windows.specs.Window.{due_window}
use Rattle.state.specs.declared.Fields.{Fields}
use Rattle.state.specs.declared.State.{State}
use Rattle.layout.specs.Layout.{none}
use Rattle.layout.specs.Overlay.{Overlaid, overlaid}
use Rattle.codes.specs.declared.CodeSettings.{CodeSettings}
use Rattle.codes.specs.Codes.{Drawing, blank}
use Rattle.windows.specs.declared.Window.{Window}
use Rattle.cells.specs.Cells.{row_cells}
use Rattle.plan.specs.Plan.{Plan, next_fields, planned}
use Rattle.row.specs.Row.{code_settings, Row, drawn_by, row, with_cursor}
use Rattle.frame.specs.Frame.{FrameRow}
use Rattle.insertion.proofs.Chains.{next_of}
use Rattle.picture.specs.Picture.{PictureRow, picture_row, picture_rows}
use Rattle.picture.specs.EndingCells.{ButCursor, but_cursor}
use Rattle.picture.proofs.Heights.{refuses-none}
use Rattle.picture.proofs.Following.{Successive, stops, draws}
use Rattle.picture.proofs.Grounds.{from_start, row-origins}
use Rattle.picture.proofs.BlockChains.{same-ground}

-- what a row without a window is drawn from, and where it leads
pub record Plain (σ : Settings) (m : List ℕ) (s : State) (r : Row) : Type 0 where
  pub words : ℕ
  pub ground : BackgroundRow
  pub read : run m (background_block σ.linear s.fields.next s.fields.format) ≡ given words ground
  pub drawn-words : ℕ
  pub drawn : run m (row_cells (code_settings σ) s.fields.fill none ground.block.segments (blank s.latch)) ≡ given drawn-words r.drawing
  pub leads : r.next ≡ next_fields s.fields ground.format ground.block.link None

module _ (σ : Settings) (m : List ℕ) where
  plain-due : (row n k : ℕ) {w v : Option Window} → w ≡ None → run_from n m (due_window σ.linear row w) ≡ given k v → v ≡ None
  unfolding due_window run_from
  plain-due row n k {w} {v} e c = let h : given n None ≡ given k v = rw e at c in cc

  plain_over : (row n k : ℕ) {w : Option Window} {o : Overlaid} → w ≡ None → run_from n m (overlaid σ row w) ≡ given k o
      → record { overlay = none; window = None } ≡ o
  unfolding overlaid run_from
  plain_over row n k {w} {o} e c = let h : given n (record { overlay = none; window = None }) ≡ given k o = rw e at c in cc

  pub row_plain : (s : State) → s.fields.window ≡ None → {n : ℕ} {r : Row} → run m (row σ s) ≡ given n r → Plain σ m s r
  row_plain s w {r} e =
      let k = row-origins σ m s e in
      let o = k.origin in
      let over = plain_over s.fields.row _ _ (plain-due s.fields.row _ _ w o.due-read) o.over-read in
      let plan : planned s.fields o.ground (record { overlay = none; window = None }) ≡ k.plan =
      ap (planned s.fields o.ground) over ∙ o.same in
      let own : drawn_by (planned s.fields o.ground (record { overlay = none; window = None })) k.drawing ≡ r =
      ap (λ (p : Plan). drawn_by p k.drawing) plan ∙ k.same in
      let cells = from_start k.drawn-from m _ (rw (← plan) at k.drawn) in
      record {
        words = o.words;
        ground = o.ground;
        read = o.read;
        drawn-words = cells.0;
        drawn = cells.1 ∙ ap (λ (r : Row). given cells.0 r.drawing) own;
        leads = ap (λ (r : Row). r.next) (sym own);
      }

-- ---- rows that go on ----
-- a state from which the next row is drawn alike: other lines left
pub record GoesOn (s t : State) : Type 0 where
  pub latch : s.latch ≡ t.latch
  pub fill : s.fields.fill ≡ t.fields.fill
  pub next : s.fields.next ≡ t.fields.next
  pub window : s.fields.window ≡ t.fields.window

-- rows of a picture one after the other from a state
pub data Trace (σ : Settings) (m : List ℕ) : State → List PictureRow → Type 0 where
  end : {s : State} → Trace σ m s []
  step : {s t : State} {n : ℕ} {r : Row} {q : PictureRow} {qs : List PictureRow} → GoesOn s t → run m (row σ t) ≡ given n r
      → q.cells ≡ with_cursor σ t.fields r.drawing.cells → Trace σ m (next_of r) qs → Trace σ m s (q ∷ qs)

module _ (σ : Settings) (m : List ℕ) where
  pub restart : {s t : State} {qs : List PictureRow} → GoesOn s t → Trace σ m t qs → Trace σ m s qs
  restart g end = end
  restart g (step h e c k) =
      step (record { latch = g.latch ∙ h.latch; fill = g.fill ∙ h.fill; next = g.next ∙ h.next; window = g.window ∙ h.window }) e c k

  pub trace-then : {s t u : State} {rs : List FrameRow} {o : Maybe State} {qs : List PictureRow} → Successive σ m s rs o → o ≡ some t → GoesOn t u
      → Trace σ m u qs → Trace σ m s (picture_rows σ m s rs ++ qs)
  unfolding picture_rows picture_row
  trace-then {t} (stops {s}) e g k = let same : s ≡ t = cc in rw same (restart g k)
  trace-then (draws l e k) h g c = step (record { latch = refl; fill = refl; next = refl; window = refl }) e refl (trace-then k h g c)

  pub trace : {s : State} {rs : List FrameRow} {o : Maybe State} → Successive σ m s rs o → Trace σ m s (picture_rows σ m s rs)
  unfolding picture_rows picture_row
  trace stops = end
  trace (draws l e k) = step (record { latch = refl; fill = refl; next = refl; window = refl }) e refl (trace k)

never-some : {A B : Type 0} {a : A} → ◌≡◌ {A = Maybe A} nothing (some a) → B
never-some e = refuses-none (sym e)

-- ---- two lists ----
-- states without a window whose rows are drawn alike
pub record Similar (s t : State) : Type 0 where
  pub latch : s.latch ≡ t.latch
  pub fill : s.fields.fill ≡ t.fields.fill
  pub next : s.fields.next.address ≡ t.fields.next.address
  pub plain : s.fields.window ≡ None
  pub plain' : t.fields.window ≡ None

one-outcome : (m : List ℕ) {c d : CodeSettings} {u v : FillMode} {b b' : RowBlock} {l l' i j : ℕ} {x y : Drawing} → c ≡ d → u ≡ v → b ≡ b' → l ≡ l'
    → run m (row_cells c u none b.segments (blank l)) ≡ given i x → run m (row_cells d v none b'.segments (blank l')) ≡ given j y → x ≡ y
one-outcome m {d} {v} {b'} {l'} {i} {x} p q r s e f =
    let h : run m (row_cells d v none b'.segments (blank l')) ≡ given i x = rw (p, q, r, s) at e in
    cc

-- one row of each
module _ (σ τ : Settings) (m : List ℕ) (same : code_settings σ ≡ code_settings τ) where
  pub one-drawing : {s t : State} {n k : ℕ} {r q : Row} → Similar s t → run m (row σ s) ≡ given n r → run m (row τ t) ≡ given k q
      → (r.drawing ≡ q.drawing) × Similar (next_of r) (next_of q)
  unfolding next_fields
  one-drawing {s} {t} {r} {q} h e f =
      let a = row_plain σ m s h.plain e in
      let b = row_plain τ m t h.plain' f in
      let linear : σ.linear ≡ τ.linear = ap (λ (c : CodeSettings). c.linear) same in
      let read : run m (background_block σ.linear t.fields.next t.fields.format) ≡ given b.words b.ground =
      ap (λ (l : Bool). run m (background_block l t.fields.next t.fields.format)) linear ∙ b.read in
      let g = same-ground σ.linear _ _ m _ _ h.next a.read read in
      let block = g.block in
      let drawing : r.drawing ≡ q.drawing = one-outcome m same h.fill block h.latch a.drawn b.drawn in (
        drawing,
        record {
          latch = ap (λ (d : Drawing). d.pen.latch) drawing;
          fill = ap (λ (f : Fields). f.fill) a.leads ∙ h.fill ∙ sym (ap (λ (f : Fields). f.fill) b.leads);
          next = ap (λ (f : Fields). f.next.address) a.leads ∙ ap (λ (b : RowBlock). b.link.address) block ∙ sym (ap (λ (f : Fields). f.next.address) b.leads);
          plain = ap (λ (f : Fields). f.window) a.leads;
          plain' = ap (λ (f : Fields). f.window) b.leads;
        },
      )

  -- their cells, as far as both go
  similar-goes : {s t u v : State} → Similar s t → GoesOn s u → GoesOn t v → Similar u v
  similar-goes h g k = record {
    latch = sym g.latch ∙ h.latch ∙ k.latch;
    fill = sym g.fill ∙ h.fill ∙ k.fill;
    next = ap (λ (p : Pointer). p.address) (sym g.next) ∙ h.next ∙ ap (λ (p : Pointer). p.address) k.next;
    plain = sym g.window ∙ h.plain;
    plain' = sym k.window ∙ h.plain';
  }

  pub same-cells : {s t : State} {qs rs : List PictureRow} → Similar s t → Trace σ m s qs → Trace τ m t rs
      → (i : ℕ) (q r : PictureRow) → get_elem? qs i ≡ some q → get_elem? rs i ≡ some r → ButCursor q.cells r.cells
  same-cells h end b i q r e f = never-some e
  same-cells h (step g c d a) end i q r e f = never-some f
  same-cells h (step {q = x} g c d a) (step {q = y} g' c' d' b) zero q r e f =
      let k = one-drawing (similar-goes h g g') c c' in
      let one : x ≡ q = cc in
      let two : y ≡ r = cc in
      rw (← one, ← two, d, d', k.0) (but_cursor _ _ _ _ _)
  same-cells h (step g c d a) (step g' c' d' b) (suc i) q r e f =
      let k = one-drawing (similar-goes h g g') c c' in
      same-cells k.1 a b i q r e f
