-- Outside the columns of a row's window no cell of the row is a window's, and none of those behind it is.
use Rattle.std.proofs.Common.{Option, Some, None}
use mathlib.Core.Path.{◌≡◌, refl, ap, sym, subst, ◌∙◌}
use mathlib.Core.Bool.{Bool, true, false, ◌&&◌}
use mathlib.Core.List.{List, [], ◌∷◌, ◌++◌}
use mathlib.Core.Logic.{◌⊎◌, inl, inr}
use Prim.Native.Nat.{ℕ, zero, suc, ◌+◌, ◌-◌, ◌*◌, ◌/◌, ◌%◌, ◌^◌, ◌<◌, ◌≤◌}
use native.Mathlib.Omega.{arith}
use native.Mathlib.Nat.{div-add-mod'}
use lib.ListN.{length, get_or, set, length-append, get_or-append}
use lib.Seq.{get_or-append-add}
use lib.Dec.{eqb, leb, ltb}
use lib.Bits.{bit_or, or_shr, or_mod, or_zero_r}
use borrow.Author.Tests.{leb-true, leb-false}
use Rattle.memory.specs.Reading.{Reading, done, refuse, ask, check, check_of, Outcome, given, refused, run}
use Rattle.memory.proofs.Agree as Agree
use Rattle.memory.proofs.Agree.{All, also}
use Rattle.memory.proofs.ReadBounds.{Words, if-cases}
use Rattle.memory.proofs.Gives.{Gives, dones, refuses, asks, bind, if-gives, reads-give, run-gives}
use Rattle.settings.specs.declared.Settings.{Settings}
use Rattle.settings.specs.Good.{check_settings}
use Rattle.blocks.specs.declared.FillMode.{FillMode}
use Rattle.blocks.specs.declared.Segment.{Segment}
use Rattle.blocks.specs.RowBlock.{window_row_at}
use Rattle.blocks.proofs.BlockBounds.{Few}
use Rattle.windows.specs.Window.{due_window}
use Rattle.windows.proofs.WindowBounds.{After, ended}
use Rattle.state.specs.declared.Fields.{Fields}
use Rattle.state.specs.declared.State.{State}
use Rattle.state.specs.State.{in_range}
use Rattle.layout.specs.Layout.{Overlay, none, over, total, all_fit, edges_fit}
use Rattle.layout.specs.Overlay.{window_row, overlaid}
use Rattle.layout.proofs.OverlayBounds.{Inside}
use Rattle.background.specs.Background.{background_row}
use Rattle.plan.specs.Plan.{next_fields, plan}
use Rattle.plan.proofs.PlanBounds.{plan-reads}
use Rattle.codes.specs.declared.CodeSettings.{CodeSettings}
use Rattle.codes.specs.Attribute.{Fill, Background, source_number, window_number, source_of, window_number_of}
use Rattle.codes.specs.Codes.{blank}
use Rattle.codes.proofs.CellParts.{source-back, window-back}
use Rattle.codes.proofs.CodeCells.{Makes}
use Rattle.windows.specs.declared.Window.{Window}
use Rattle.cells.specs.Cells.{row_cells}
use Rattle.cells.proofs.CellSources.{row-cells}
use Rattle.cells.proofs.CellColumns.{both-give, implies, Around, window-around}
use Rattle.row.specs.Row.{Row, code_settings, row, with_cursor, answered, row_call}
use Rattle.row.proofs.RowBound.{row-drawn}
use Rattle.frame.specs.Frame as Frame
use Rattle.panel.specs.declared.Columns.{Columns}
use Rattle.panel.specs.Shown.{no_columns, in_columns, nothing, cell_in, with_cursor_of}
use Rattle.picture.specs.Picture.{PictureRow, columns_of, without_window, accepted_cells, behind_in, picture_row}
use Rattle.picture.specs.Windows.{NoWindow}
use Rattle.picture.proofs.Made.{Made}

-- ---- cells ----

pub nothing-clear : NoWindow nothing
nothing-clear = (λ e. (let z : ◌≡◌ {A = ℕ} 0 2 = e in omega arith), refl)

-- a cell above bit 22, bit 22, and below it: its source and its window's number do not depend on bit 22
module _ (above bit below : ℕ) (b : bit < 2) (l : below < 2 ^ 22) where
  source-part : source_of ((above * 2 + bit) * 2 ^ 22 + below) ≡ below / 2 ^ 20
  source-part = omega arith

  number-part : window_number_of ((above * 2 + bit) * 2 ^ 22 + below) ≡ above / 2
  number-part = omega arith

module _ (c high low above bit : ℕ) (e : high * 2 ^ 22 + low ≡ c) (k : above * 2 + bit ≡ high) where
  whole-cell : c ≡ (above * 2 + bit) * 2 ^ 22 + low
  whole-cell = omega arith

  other-bit : (n : ℕ) → c - bit * 2 ^ 22 + n * 2 ^ 22 ≡ (above * 2 + n) * 2 ^ 22 + low
  other-bit n = omega arith

module _ (v c : ℕ) where
  abbrev high : ℕ
  high = c / 2 ^ 22

  abbrev low : ℕ
  low = c % 2 ^ 22

  abbrev bit : ℕ
  bit = v / 2 ^ 22 % 2

  low_below : low < 2 ^ 22
  low_below = omega arith

  bit_below : (n : ℕ) → n % 2 < 2
  bit_below n = omega arith

  as_parts : c ≡ (high / 2 * 2 + high % 2) * 2 ^ 22 + low
  as_parts = whole-cell c high low (high / 2) (high % 2) (div-add-mod' c (2 ^ 22)) (div-add-mod' high 2)

  marked-parts : with_cursor_of v c ≡ (high / 2 * 2 + bit) * 2 ^ 22 + low
  unfolding with_cursor_of
  marked-parts = other-bit c high low (high / 2) (high % 2) (div-add-mod' c (2 ^ 22)) (div-add-mod' high 2) bit

  same_source : source_of (with_cursor_of v c) ≡ source_of c
  same_source =
      ap (λ (n : ℕ). source_of n) marked-parts ∙ source-part (high / 2) bit low (bit_below (v / 2 ^ 22)) low_below
      ∙ sym (ap (λ (n : ℕ). source_of n) as_parts ∙ source-part (high / 2) (high % 2) low (bit_below high) low_below)

  same_number : window_number_of (with_cursor_of v c) ≡ window_number_of c
  same_number =
      ap (λ (n : ℕ). window_number_of n) marked-parts ∙ number-part (high / 2) bit low (bit_below (v / 2 ^ 22)) low_below
      ∙ sym (ap (λ (n : ℕ). window_number_of n) as_parts ∙ number-part (high / 2) (high % 2) low (bit_below high) low_below)

-- the cursor's mark is another bit
module _ (c : ℕ) (h : NoWindow c) where
  pub cursor-clear : (v : ℕ) → NoWindow (with_cursor_of v c)
  cursor-clear v = (λ e. h.0 (sym (same_source v c) ∙ e), same_number v c ∙ h.1)

  marked-clear : NoWindow (bit_or c (2 ^ 22))
  marked-clear =
      let source : source_of (bit_or c (2 ^ 22)) ≡ source_of c = ap (λ (n : ℕ). n % 4) (or_shr c (2 ^ 22) 20) ∙ or_mod (c / 2 ^ 20) 4 2 ∙ or_zero_r _ in
      let number : window_number_of (bit_or c (2 ^ 22)) ≡ window_number_of c = or_shr c (2 ^ 22) 24 ∙ or_zero_r _ in
      (λ e. h.0 (sym source ∙ e), number ∙ h.1)

marked-in : (cs : List ℕ) (k i : ℕ) → NoWindow (cell_in cs i) → NoWindow (cell_in (set cs k (bit_or (get_or cs k 0) (2 ^ 22))) i)
marked-in [] k i h = h
marked-in (c ∷ cs) zero zero h = marked-clear c h
marked-in (c ∷ cs) zero (suc i) h = h
marked-in (c ∷ cs) (suc k) zero h = h
marked-in (c ∷ cs) (suc k) (suc i) h = marked-in cs k i h

fill-clear : Makes NoWindow Fill
unfolding source_number window_number
fill-clear a code h = (λ e. omega (arith, source-back Fill a code h), window-back Fill a code h)

back-clear : Makes NoWindow Background
unfolding source_number window_number
back-clear a code h = (λ e. omega (arith, source-back Background a code h), window-back Background a code h)

all-clear : {cs : List ℕ} → All NoWindow cs → (x : ℕ) → NoWindow (cell_in cs x)
all-clear Agree.none x = nothing-clear
all-clear (also h hs) zero = h
all-clear (also h hs) (suc x) = all-clear hs x

-- ---- columns ----

-- outside the columns of the window in hand
abbrev Clear : ℕ → Option Window → List ℕ → Type 0
Clear row w cs = (x : ℕ) → in_columns (columns_of row w) x ≡ false → NoWindow (cell_in cs x)

either-off : (a b : Bool) → a && b ≡ false → (a ≡ false) ⊎ (b ≡ false)
either-off true b e = inr e
either-off false b e = inl refl

not-both : (a b : Bool) → (a ≡ true → b ≡ true → ⊥) → a && b ≡ false
not-both true true h = absurd (h refl refl)
not-both true false h = refl
not-both false b h = refl

no-columns : (x : ℕ) → in_columns no_columns x ≡ false
no-columns x = not-both (leb 1 x) (leb x 0) (λ h k. omega (arith, leb-true 1 x h, leb-true x 0 k))

module _ {first end : ℕ} {cs : List ℕ} (a : Around NoWindow first end cs) where
  before-clear : (x : ℕ) → x < first → NoWindow (cell_in cs x)
  before-clear x l =
      let lengths = length-append a.before a.inside in
      let there = ap (λ (cs : List ℕ). cell_in cs x) a.cells
      ∙ get_or-append (a.before ++ a.inside) a.after nothing x (omega (arith, a.begins))
      ∙ get_or-append a.before a.inside nothing x (omega (arith, a.begins)) in
      subst NoWindow (sym there) (all-clear a.outside.0 x)

  after-clear : (x : ℕ) → end ≤ x → NoWindow (cell_in cs x)
  after-clear x l =
      let place : x ≡ length (a.before ++ a.inside) + (x - end) = omega (arith, a.ends) in
      let there = ap (λ (cs : List ℕ). cell_in cs x) a.cells
      ∙ ap (cell_in ((a.before ++ a.inside) ++ a.after)) place
      ∙ get_or-append-add (a.before ++ a.inside) a.after (x - end) nothing in
      subst NoWindow (sym there) (all-clear a.outside.1 (x - end))

  around-clear : (c : Columns) → c.first ≡ first → c.last + 1 ≡ end → (x : ℕ) → in_columns c x ≡ false → NoWindow (cell_in cs x)
  around-clear c i j x e = by (either-off (leb c.first x) (leb x c.last) e)
    where
      by : (leb c.first x ≡ false) ⊎ (leb x c.last ≡ false) → NoWindow (cell_in cs x)
      by (inl k) = before-clear x (omega (arith, leb-false c.first x k))
      by (inr k) = after-clear x (omega (arith, leb-false x c.last k))

-- ---- the plan of a row ----

-- the columns that a window takes on a row are those of the window in hand after it
abbrev Covers : ℕ → Option Window → Overlay → Type 0
Covers row w none = Unit
Covers row w (over number first end ws) = ((columns_of row w).first ≡ first) × ((columns_of row w).last + 1 ≡ end)

pub any : {A : Type 0} (p : Reading A) → Gives (λ _. Unit {0}) p
any (done a) = dones tt
any (refuse x) = refuses
any (ask q f) = asks λ w l. any (f w)

module _ (σ : Settings) where
  overlaid-covers : (row : ℕ) (w : Option Window) → Gives (λ o. Covers row o.window o.overlay) (overlaid σ row w)
  unfolding overlaid window_row columns_of
  overlaid-covers row None = dones tt
  overlaid-covers row (Some w) =
      if-gives (leb w.block.top row && leb row w.block.bottom)
      (λ t.
      bind (any (window_row_at σ.linear w.rows)) λ b _.
      bind (any (check_of 9 w.rows (all_fit b.segments))) λ _ _.
      bind (any (check 11 (leb (total σ.hidden b.segments) (w.block.right + 1 - w.block.left)))) λ _ _. dones (rw t (refl, refl)))
      (λ _. dones tt)

  plan-covers : (f : Fields) → Gives (λ p. Covers f.row p.next.window p.overlay) (plan σ f)
  unfolding plan next_fields
  plan-covers f =
      bind (any (check_settings σ)) λ _ _.
      bind (any (check 3 (in_range f))) λ _ _.
      bind (any (check 4 (ltb 0 f.left))) λ _ _.
      bind (any (due_window σ.linear f.row f.window)) λ w _.
      bind (any (background_row σ f)) λ g _.
      bind (overlaid-covers f.row w) λ o h.
      bind (any (check 12 (edges_fit σ.hidden o.overlay g.block.segments))) λ _ _. dones h

-- ---- a row ----

cells-clear : (σ : CodeSettings) (fill : FillMode) → fill.code < 256 → (row : ℕ) (w : Option Window) (o : Overlay) (gs : List Segment) (latch : ℕ) → Few 15 gs
    → Inside σ.hidden o → edges_fit σ.hidden o gs ≡ true → Covers row w o → Gives (λ d. Clear row w d.cells) (row_cells σ fill o gs (blank latch))
cells-clear σ fill byte row w none gs latch few inside e covers =
    implies (λ d h x _. all-clear h x) (row-cells NoWindow σ fill byte fill-clear back-clear none tt gs (blank latch) Agree.none)
cells-clear σ fill byte row w (over number first end ws) gs latch few inside e covers =
    implies (λ d h. around-clear h (columns_of row w) covers.0 covers.1)
    (window-around NoWindow σ fill byte fill-clear back-clear number first end ws gs latch few inside e)

row-clear : (σ : Settings) (s : State) → s.fields.fill.code < 256
    → Gives (λ r. Clear s.fields.row r.next.window r.drawing.cells) (row σ s)
unfolding row
row-clear σ s l =
    bind (both-give (reads-give (plan-reads σ s.fields)) (plan-covers σ s.fields)) λ p h.
    bind
    (cells-clear (code_settings σ) s.fields.fill l s.fields.row p.next.window p.overlay p.segments s.latch h.0.few h.0.inside h.0.edges h.1)
    λ d k. dones k

with-cursor : (σ : Settings) (f : Fields) (row : ℕ) (w : Option Window) (cs : List ℕ) → Clear row w cs → Clear row w (with_cursor σ f cs)
unfolding with_cursor
with-cursor σ f row w cs h =
    if-cases (Clear row w) (σ.cursor && eqb f.cursor.y f.row) (λ _ x e. marked-in cs f.cursor.x x (h x e)) (λ _. h)

-- no window comes where none is in hand
off-hand : {w : Option Window} → After None w → (row x : ℕ) → in_columns (columns_of row w) x ≡ false
unfolding columns_of
off-hand ended row x = no-columns x

pub record ClearRow (r : PictureRow) : Type 0 where
  pub cells : (x : ℕ) → in_columns r.columns x ≡ false → NoWindow (cell_in r.cells x)
  pub behind : (x : ℕ) → NoWindow (cell_in r.behind x)

module _ (σ : Settings) (m : List ℕ) (w : Words m) where
  -- the cells behind a window
  module _ (s : State) (l : s.fields.fill.code < 256) where
    by-outcome : (o : Outcome Row) → run m (row σ (without_window s)) ≡ o → (x : ℕ)
        → NoWindow (cell_in (accepted_cells (answered σ (without_window s).fields Frame.blank o)) x)
    by-outcome (given n r) e x =
        with-cursor σ (without_window s).fields s.fields.row r.next.window r.drawing.cells (run-gives 0 m w (row-clear σ (without_window s) l) e) x
        (off-hand (row-drawn σ m w (without_window s) e).1.after s.fields.row x)
    by-outcome (refused y) e x = nothing-clear

    behind-clear : (c : Columns) (x : ℕ) → NoWindow (cell_in (behind_in σ m s c) x)
    unfolding row_call
    behind-clear c x =
        if-cases (λ (cs : List ℕ). NoWindow (cell_in cs x)) (leb c.first c.last) (λ _. by-outcome (run m (row σ (without_window s))) refl x) (λ _. nothing-clear)

  pub made-clear : {q : PictureRow} → Made σ m q → ClearRow q
  unfolding picture_row
  made-clear r =
      let s = r.before in
      subst ClearRow (sym r.made)
      (record {
        cells = with-cursor σ s.fields s.fields.row r.drawn.next.window r.drawn.drawing.cells (run-gives 0 m w (row-clear σ s r.fill) r.accepted);
        behind = behind-clear s r.fill (columns_of s.fields.row r.drawn.next.window);
      })
