-- The linear frame after an accepted conversion is the segmented one before: rows, answers, counts, the state at the end and the addresses
-- read. Each part of the frame was walked, so that its linear reading on the turned memory comes to the same.
use mathlib.Core.Path.{◌≡◌, refl, ap, ap₂, sym, ◌∙◌}
use mathlib.Core.Bool.{Bool, true, false}
use mathlib.Core.List.{List}
use mathlib.Core.Option as Option
use Prim.Native.Nat.{ℕ, zero, suc}
use native.Mathlib.Omega.{arith}
use lib.ListN.{length}
use lib.Dec.{eqb, lit≤}
use Rattle.memory.specs.Word.{when◌then◌else◌}
use Rattle.memory.specs.Reading.{given, run}
use Rattle.memory.proofs.ReadBounds.{Words, Reads}
use Rattle.memory.proofs.ReadBounds as Bounds
use Rattle.settings.specs.declared.Settings.{Settings}
use Rattle.state.specs.declared.Fields.{Fields}
use Rattle.state.specs.declared.State.{State}
use Rattle.plan.proofs.PlanBounds.{state-reads}
use Rattle.codes.specs.Codes.{blank}
use Rattle.cells.proofs.CellBounds.{cells-read}
use Rattle.row.specs.declared.DrawnRow.{DrawnRow}
use Rattle.row.specs.Row.{code_settings, Row, with_cursor}
use Rattle.frame.specs.declared.Progress.{Progress}
use Rattle.frame.specs.Step.{after}
use Rattle.frame.specs.Frame.{Frame, with_row}
use Rattle.converter.specs.Walk.{Walked, went, halted, walk}
use Rattle.converter.specs.Below.{row_below, step_below, within_below, state_after, rows_read}
use Rattle.converter.specs.Converter.{Followed, ended, onwards, follow_rows, turned_memory, turned_settings}
use Rattle.converter.proofs.Rows.{segmented, Standing, RowDrawn, row_drawn, row-alike}
use Rattle.converter.proofs.Cells.{drawn}
use Rattle.converter.proofs.Walks.{Walks, walks, kept_on, kept_same, WalkedOn, walks-on, Follows, follows}

-- ---- a row ----
-- it reads fewer than 12,000 words
pub below-reads : (σ : Settings) (s : State) → Reads (λ _. Unit {0}) 11690 (row_below σ s)
unfolding row_below
below-reads σ s =
    Bounds.bind {n = 167} {k = 11523} (lit≤ tt) (state-reads σ s.fields) λ p hp.
    Bounds.bind {n = 11523} {k = 0} (lit≤ tt)
    (cells-read (code_settings σ) s.fields.fill p.overlay p.segments (blank s.latch) hp.few hp.narrow hp.inside hp.edges (refl, refl)) λ _ _.
    Bounds.dones tt

-- the answer of an accepted one
abbrev drawn_row : Fields → ℕ → Row → DrawnRow
drawn_row f n r = record { number = f.row; lines = r.lines; format = r.format; words = n; next = state_after r }

-- a frame by its next row
within-row : (σ : Settings) (m : List ℕ) (n : ℕ) (p : Progress) {k : ℕ} {r : Row} → eqb p.state.fields.left 0 ≡ false
    → run m (row_below σ p.state) ≡ given k r
    → within_below (suc n) σ m p ≡ with_row (drawn_row p.state.fields k r) (with_cursor σ p.state.fields r.drawing.cells)
    (within_below n σ m (after p (drawn_row p.state.fields k r)))
unfolding within_below step_below
within-row σ m n p e h = rw (e, h)

within_end : (σ τ : Settings) (m l : List ℕ) (n : ℕ) (p : Progress) → eqb p.state.fields.left 0 ≡ true
    → within_below (suc n) σ m p ≡ within_below (suc n) τ l p
unfolding within_below step_below
within_end σ τ m l n p e = rw e

within-over : (σ : Settings) (m : List ℕ) (n : ℕ) (p : Progress) → eqb p.state.fields.left 0 ≡ true → (within_below (suc n) σ m p).refusal ≡ Option.none
unfolding within_below step_below
within-over σ m n p e = rw e

module _ (σ : Settings) (m : List ℕ) (b : Words m) where
  -- rows that are drawn the same have the same answer and the same cells
  same_answer : (f : Fields) (n : ℕ) {c : ℕ} {r t : Row} → RowDrawn m b σ c r t → drawn_row f n r ≡ drawn_row f n t
  same_answer f n (row_drawn p (drawn column latch latched present x y cells h) s) = refl

  same-cells : (f : Fields) {c : ℕ} {r t : Row} → RowDrawn m b σ c r t
      → with_cursor (segmented σ) f r.drawing.cells ≡ with_cursor (turned_settings σ) f t.drawing.cells
  unfolding with_cursor turned_settings
  same-cells f (row_drawn p (drawn column latch latched present x y cells h) s) = refl

  next-stands : {c : ℕ} {r t : Row} → RowDrawn m b σ c r t → Standing m b r.next
  next-stands (row_drawn p d s) = s

  -- ---- the rows of a frame that was followed to its end ----
  module _ (fin : List ℕ) where
    pub data Rows : ℕ → List ℕ → State → Type 0 where
      none : {marks : List ℕ} {s : State} → marks ≡ fin → Rows zero marks s
      over : {n : ℕ} {marks : List ℕ} {s : State} → eqb s.fields.left 0 ≡ true → marks ≡ fin → Rows (suc n) marks s
      row : {n : ℕ} {marks marks₁ : List ℕ} {s : State} {r : Row} → eqb s.fields.left 0 ≡ false
          → Walks 0 m marks₁ r marks (row_below (segmented σ) s) → Rows n marks₁ (state_after r) → Rows (suc n) marks s

    -- what the rows after it come to
    abbrev Then : ℕ → Type 0
    Then n = (marks : List ℕ) (s : State) → follow_rows n (segmented σ) m marks s ≡ ended fin → Rows n marks s

    pub rows : (n : ℕ) (marks : List ℕ) (s : State) → follow_rows n (segmented σ) m marks s ≡ ended fin → Rows n marks s
    unfolding follow_rows
    rows zero marks s e = let same : marks ≡ fin = cc in none same
    rows (suc n) marks s e = by_left (rows n) (eqb s.fields.left 0) refl e
      where
        next : List ℕ → Row → Followed
        next marks₁ r = follow_rows n (segmented σ) m marks₁ (state_after r)

        by-walk : Then n → (w : Walked Row) → walk 0 m marks (row_below (segmented σ) s) ≡ w → eqb s.fields.left 0 ≡ false
            → onwards s.fields.row w next ≡ ended fin → Rows (suc n) marks s
        by-walk later (went marks₁ r) h f g = row f (walks 0 m (row_below (segmented σ) s) marks h) (later marks₁ (state_after r) g)
        by-walk later (halted x) h f g = let q : ◌≡◌ {A = ℕ} 0 1 = cc in absurd (omega arith)

        by_left : Then n → (t : Bool) → eqb s.fields.left 0 ≡ t
            → (when t then ended marks else onwards s.fields.row (walk 0 m marks (row_below (segmented σ) s)) next) ≡ ended fin → Rows (suc n) marks s
        by_left later true h g = let same : marks ≡ fin = cc in over h same
        by_left later false h g = by-walk later (walk 0 m marks (row_below (segmented σ) s)) refl h g

    pub rows_on : {n : ℕ} {marks : List ℕ} {s : State} → length marks ≡ length m → Rows n marks s → WalkedOn m marks fin
    rows_on l (none e) = record { kept = kept_same e; size = ap length (sym e) ∙ l }
    rows_on l (over _ e) = record { kept = kept_same e; size = ap length (sym e) ∙ l }
    rows_on l (row _ w rest) =
        let x = walks-on l w in
        let y = rows_on x.size rest in
        record { kept = kept_on x.kept y.kept; size = y.size }

    -- a row, segmented and linear
    row-follows : {n : ℕ} {marks marks₁ : List ℕ} (s : State) {r : Row} → length marks ≡ length m → Standing m b s.fields
        → Walks 0 m marks₁ r marks (row_below (segmented σ) s) → Rows n marks₁ (state_after r)
        → Follows 0 m b fin (RowDrawn m b σ) 0 (row_below (segmented σ) s) (row_below (turned_settings σ) s) r
    row-follows s l h w rest =
        follows 0 m b fin l (rows_on (walks-on l w).size rest).kept w (below-reads (segmented σ) s) (lit≤ tt) (row-alike m b σ 0 s h)

    pub rows_same : (n : ℕ) (p : Progress) (marks : List ℕ) → length marks ≡ length m → Standing m b p.state.fields → Rows n marks p.state
        → within_below n (turned_settings σ) (turned_memory fin m) p ≡ within_below n (segmented σ) m p
    unfolding within_below
    rows_same zero p marks l h r = refl
    rows_same (suc n) p marks l h (over e _) = within_end (turned_settings σ) (segmented σ) (turned_memory fin m) m n p e
    rows_same (suc n) p marks l h (row {marks₁} {r} e w rest) =
        let f = p.state.fields in
        let x = row-follows p.state l h w rest in
        let q = after p (drawn_row f x.count r) in
        let go_on = rows_same n q marks₁ (walks-on l w).size (next-stands x.related) rest in
        within-row (turned_settings σ) (turned_memory fin m) n p e x.after
        ∙ ap (λ (d : DrawnRow). with_row d (with_cursor (turned_settings σ) f x.result.drawing.cells) (within_below n (turned_settings σ) (turned_memory fin m) (after p d))) (sym (same_answer f x.count x.related))
        ∙ ap₂ (with_row (drawn_row f x.count r)) (sym (same-cells f x.related)) go_on
        ∙ sym (within-row (segmented σ) m n p e x.before)

    -- no row is refused
    pub rows-drawn : (n : ℕ) (p : Progress) (marks : List ℕ) → length marks ≡ length m → Standing m b p.state.fields → Rows n marks p.state
        → (within_below n (segmented σ) m p).refusal ≡ Option.none
    unfolding within_below
    rows-drawn zero p marks l h r = refl
    rows-drawn (suc n) p marks l h (over e _) = within-over (segmented σ) m n p e
    rows-drawn (suc n) p marks l h (row {marks₁} {r} e w rest) =
        let x = row-follows p.state l h w rest in
        let q = after p (drawn_row p.state.fields x.count r) in
        ap (λ (f : Frame). f.refusal) (within-row (segmented σ) m n p e x.before) ∙ rows-drawn n q marks₁ (walks-on l w).size (next-stands x.related) rest

    pub rows-read : (n : ℕ) (s : State) (marks : List ℕ) → length marks ≡ length m → Standing m b s.fields → Rows n marks s
        → rows_read n (turned_settings σ) (turned_memory fin m) s ≡ rows_read n (segmented σ) m s
    unfolding rows_read
    rows-read zero s marks l h r = refl
    rows-read (suc n) s marks l h (over e _) = rw e
    rows-read (suc n) s marks l h (row {marks₁} {r} e w rest) =
        let x = row-follows s l h w rest in
        let next : state_after r ≡ state_after x.result = ap (λ (d : DrawnRow). d.next) (same_answer s.fields 0 x.related) in
        let go_on = rows-read n (state_after r) marks₁ (walks-on l w).size (next-stands x.related) rest in
        rw (e, x.before, x.after, x.addresses, ← next, go_on)
