-- What the height of an accepted row comes from: its row block and the redefinition, read from the next row block and the format of its
-- state alone. Neither the window nor the latch has a part in it.
use Rattle.std.proofs.Common.{Option, Ok, Err}
use mathlib.Core.Path.{◌≡◌, refl, sym, ap, ◌∙◌}
use mathlib.Core.Bool.{true}
use mathlib.Core.List.{List}
use Prim.Native.Nat.{ℕ, ◌+◌, ◌-◌, min}
use native.Mathlib.Omega.{arith}
use lib.Dec.{leb, ltb}
use borrow.Author.Tests.{leb-true}
use Rattle.memory.specs.Reading.{Reading, ◌>>=◌, check, check_of, Outcome, given, refused, refusal, run_from, run}
use Rattle.memory.specs.declared.Refusal.{Refusal}
use Rattle.memory.proofs.Laws.{after, run-after}
use Rattle.memory.proofs.ReadBounds.{Words, both, reads-given}
use Rattle.settings.specs.declared.Settings.{Settings}
use Rattle.blocks.specs.declared.MainBlock.{MainBlock}
use Rattle.windows.specs.Window.{due_window, first_window}
use Rattle.state.specs.declared.Fields.{Fields}
use Rattle.state.specs.declared.State.{State}
use Rattle.state.specs.State.{state_of, format_in_range, pointer_in_range, window_in_range, in_range}
use Rattle.layout.specs.Layout.{total, all_fit, edges_fit}
use Rattle.layout.specs.Overlay.{Overlaid, overlaid}
use Rattle.background.specs.Background.{BackgroundRow, background_block, background_row}
use Rattle.codes.specs.Codes.{Drawing, blank}
use Rattle.windows.specs.declared.Window.{Window}
use Rattle.cells.specs.Cells.{row_cells}
use Rattle.plan.specs.Plan.{Plan, lines_taken, next_fields, planned, from_blocks, from_state, plan}
use Rattle.start.specs.Top.{registered, top_block}
use Rattle.start.specs.Start.{first_fields, window_start, main_start, start_from}
use Rattle.row.specs.Row.{code_settings, Row, drawn_by, from_plan, row}
use Rattle.frame.specs.Step.{begin}
use Rattle.scroll.proofs.ShiftBound.{Lines, block_reads}
use Rattle.insertion.proofs.Accepted.{never, Came, came, came-by, passed, settings-passed}

-- a reading that came to something after n words comes to that from the start
pub from_start : {A : Type 0} (n : ℕ) (m : List ℕ) (p : Reading A) {k : ℕ} {a : A} → run_from n m p ≡ given k a
    → (i : ℕ) × (run m p ≡ given i a)
from_start {A} n m p {k} {a} e = by (run m p) (sym (run-after n m p) ∙ e)
  where
    by : (o : Outcome A) → after n o ≡ given k a → (i : ℕ) × (o ≡ given i a)
    by (given i b) h = (i, cc)
    by (refused x) h = never h

-- a reading that goes on has come to something first
pub came-to : {A B P : Type 0} (n : ℕ) (m : List ℕ) (p : Reading A) (k : A → Reading B) {j : ℕ} {b : B} → run_from n m (p >>= k) ≡ given j b
    → ((i : ℕ) (a : A) → run_from n m p ≡ given i a → run_from i m (k a) ≡ given j b → P) → P
came-to {A} {P} n m p k {j} {b} e f = by (came-by n m p k e)
  where
    by : Came n m p k (given j b) → P
    by (came {i} {a} c last) = f i a c last

-- a state in range has 1 to 32 scan lines
in-range-lines : (f : Fields) → in_range f ≡ true → Lines f.format.lines
unfolding in_range
in-range-lines f h =
    let t = f.format in
    let ranged = (both (leb (f.row + f.left) 4095) (format_in_range t) (both _ (pointer_in_range f.next) (both _ (window_in_range f.window) h).0).0).1 in
    let few = (both _ (leb t.curs 31) (both _ (leb t.cure 31) (both _ (leb t.attributes 1023) ranged).0).0).0 in
    let k = both (leb 1 t.lines) (leb t.lines 32) few in
    (leb-true 1 t.lines k.0, leb-true t.lines 32 k.1)

module _ (σ : Settings) (m : List ℕ) where
  -- the block of a row on some fields, and what it makes of the row's lines and the next fields
  pub record Grounded (f : Fields) (lines : ℕ) (next : Fields) : Type 0 where
    pub words : ℕ
    pub ground : BackgroundRow
    pub window : Option Window
    pub read : run m (background_block σ.linear f.next f.format) ≡ given words ground
    pub tall : Lines f.format.lines
    pub taken : lines ≡ lines_taken ground.format f.left
    pub leads : next ≡ next_fields f ground.format ground.block.link window

  background-read : (n : ℕ) (f : Fields) {k : ℕ} {g : BackgroundRow} → run_from n m (background_row σ f) ≡ given k g
      → (i : ℕ) × (run m (background_block σ.linear f.next f.format) ≡ given i g)
  unfolding background_row run_from
  background-read n f {g} e =
      came-to n m (background_block σ.linear f.next f.format) _ e λ i h read e₁.
      came-to i m (check_of 9 f.next (all_fit h.block.segments)) _ e₁ λ j _ _ e₂.
      came-to j m (check_of 10 f.next (leb (total σ.hidden h.block.segments) 132)) _ e₂ λ k _ _ e₃.
      let same : h ≡ g = cc in
      from_start n m (background_block σ.linear f.next f.format) (rw same at read)

  -- what the plan of a row is made of
  pub record Origin (f : Fields) (p : Plan) : Type 0 where
    pub words : ℕ
    pub ground : BackgroundRow
    pub read : run m (background_block σ.linear f.next f.format) ≡ given words ground
    pub due-words : ℕ
    pub due : Option Window
    pub due-read : run m (due_window σ.linear f.row f.window) ≡ given due-words due
    pub over-from : ℕ
    pub over-words : ℕ
    pub over : Overlaid
    pub over-read : run_from over-from m (overlaid σ f.row due) ≡ given over-words over
    pub same : planned f ground over ≡ p

  blocks-read : (f : Fields) {k : ℕ} {p : Plan} → run m (from_blocks σ f) ≡ given k p → Origin f p
  unfolding run_from
  blocks-read f {p} e =
      came-to 0 m (due_window σ.linear f.row f.window) _ e λ i w due e₁.
      came-to i m (background_row σ f) _ e₁ λ j g read e₂.
      came-to j m (overlaid σ f.row w) _ e₂ λ k o over e₃.
      came-to k m (check 12 (edges_fit σ.hidden o.overlay g.block.segments)) _ e₃ λ l _ _ e₄.
      let b = background-read i f read in
      record {
        words = b.0;
        ground = g;
        read = b.1;
        due-words = i;
        due = w;
        due-read = due;
        over-from = j;
        over-words = k;
        over = o;
        over-read = over;
        same = cc;
      }

  -- .. and the row: its plan, and its drawing
  pub record Origins (s : State) (r : Row) : Type 0 where
    pub plan : Plan
    pub origin : Origin s.fields plan
    pub tall : Lines s.fields.format.lines
    pub drawn-from : ℕ
    pub drawn-words : ℕ
    pub drawing : Drawing
    pub drawn : run_from drawn-from m (row_cells (code_settings σ) s.fields.fill plan.overlay plan.segments (blank s.latch)) ≡ given drawn-words drawing
    pub same : drawn_by plan drawing ≡ r

  pub row-origins : (s : State) {n : ℕ} {r : Row} → run m (row σ s) ≡ given n r → Origins s r
  unfolding row plan run_from
  row-origins s {n} {r} e =
      let f = s.fields in
      came-to 0 m (plan σ f) (from_plan σ f.fill s.latch) e λ i p planned last.
      came-to i m (row_cells (code_settings σ) f.fill p.overlay p.segments (blank s.latch)) _ last λ j d cells drawn.
      let good = settings-passed 0 m σ (λ _. from_state σ f) planned in
      let range = passed 0 m 3 (in_range f) _ good.1 in
      let lined = passed 0 m 4 (ltb 0 f.left) _ range.1 in
      record {
        plan = p;
        origin = blocks-read f lined.1;
        tall = in-range-lines f range.0;
        drawn-from = i;
        drawn-words = j;
        drawing = d;
        drawn = cells;
        same = cc;
      }

  pub row-grounded : (s : State) {n : ℕ} {r : Row} → run m (row σ s) ≡ given n r → Grounded s.fields r.lines r.next
  row-grounded s e =
      let k = row-origins s e in
      let o = k.origin in
      record {
        words = o.words;
        ground = o.ground;
        window = o.over.window;
        read = o.read;
        tall = k.tall;
        taken = ap (λ (r : Row). r.lines) (sym k.same) ∙ ap (λ (p : Plan). p.lines) (sym o.same);
        leads = ap (λ (r : Row). r.next) (sym k.same) ∙ ap (λ (p : Plan). p.next) (sym o.same);
      }

-- what follows of its numbers
module _ {σ : Settings} {m : List ℕ} (w : Words m) {f : Fields} {lines : ℕ} {next : Fields} (g : Grounded σ m f lines next) where
  pub height-is : next.format.lines ≡ g.ground.format.lines
  unfolding next_fields
  height-is = ap (λ (f : Fields). f.format.lines) g.leads

  -- a height is 1 to 32
  pub height-bounds : Lines next.format.lines
  height-bounds =
      let k = (reads-given 0 m w (block_reads σ.linear f.next f.format g.tall) g.read).1 in
      rw height-is k

  pub lines-taken : lines ≡ min next.format.lines f.left
  lines-taken = rw height-is g.taken

  pub lines_left : next.left ≡ f.left - next.format.lines
  unfolding next_fields
  lines_left = let left = ap (λ (f : Fields). f.left) g.leads in omega (arith, height-is, g.taken)

-- ---- a start ----
-- the main block that a start has read, from which its state has the first row block and the lines
pub record Started (latch : ℕ) (σ : Settings) (m : List ℕ) (s : State) : Type 0 where
  pub words : ℕ
  pub main : MainBlock
  pub window : Option Window
  pub read : run m (top_block σ.linear σ.top) ≡ given words main
  pub window-from : ℕ
  pub window-words : ℕ
  pub window-read : run_from window-from m (first_window σ.linear (registered σ.linear σ.tow)) ≡ given window-words window
  pub leads : s.fields ≡ first_fields σ main window
  pub latched : s.latch ≡ latch

pub data Opening (latch : ℕ) (σ : Settings) (m : List ℕ) : Type 0 where
  opened : {n : ℕ} {s : State} → begin latch σ m ≡ Ok (record { state = s; words = n }) → Started latch σ m s → Opening latch σ m
  closed : {r : Refusal} → begin latch σ m ≡ Err r → Opening latch σ m

module _ (latch : ℕ) (σ : Settings) (m : List ℕ) where
  start-read : {n : ℕ} {s : State} → run m (start_from latch σ) ≡ given n s → Started latch σ m s
  unfolding start_from window_start run_from
  start-read {n} {s} e =
      let settled = settings-passed 0 m σ (λ _. main_start latch σ) e in
      came-to 0 m (top_block σ.linear σ.top) (window_start latch σ) settled.1 λ i main read e₁.
      came-to i m (first_window σ.linear (registered σ.linear σ.tow)) _ e₁ λ j w first e₂.
      let same : state_of latch (first_fields σ main w) ≡ s = cc in
      record {
        words = i;
        main = main;
        window = w;
        read = read;
        window-from = i;
        window-words = j;
        window-read = first;
        leads = ap (λ (s : State). s.fields) (sym same);
        latched = ap (λ (s : State). s.latch) (sym same);
      }

  pub opening : Opening latch σ m
  unfolding begin
  opening = by (run m (start_from latch σ)) refl
    where
      by : (o : Outcome State) → run m (start_from latch σ) ≡ o → Opening latch σ m
      by (given n s) e = opened {n = n} {s = s} (rw e) (start-read e)
      by (refused x) e = closed {r = refusal 0 x} (rw e)
