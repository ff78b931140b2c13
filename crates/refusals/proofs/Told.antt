-- Each call answers with the numbers of its list and no other, whatever the settings, the memory, the state, the latch and the row buffer.
use Rattle.std.proofs.Common.{Option, Some, None, Result}
use mathlib.Core.Path.{◌≡◌, refl, sym, ◌∙◌}
use mathlib.Core.Bool.{Bool, true, false, ◌&&◌, ◌||◌, not}
use mathlib.Core.List.{List, [], ◌∷◌, ◌++◌}
use Prim.Native.Nat.{ℕ, ◌+◌, ◌-◌}
use native.Mathlib.Omega.{arith}
use lib.ListN.{length}
use lib.Dec.{ltb, leb, eqb}
use borrow.Author.Tests.{ne_eqb}
use Rattle.memory.specs.declared.Pointer.{Pointer}
use Rattle.memory.specs.Reading.{one_pointer, Outcome}
use Rattle.memory.specs.Address.{null}
use Rattle.memory.proofs.ReadBounds.{if-cases, both}
use Rattle.memory.specs.declared.Refusal.{Refusal}
use Rattle.settings.specs.declared.PointerWords.{PointerWords}
use Rattle.settings.specs.declared.Settings.{Settings}
use Rattle.settings.specs.Good.{good, check_settings}
use Rattle.settings.specs.Sheet.{sheet_call}
use Rattle.settings.specs.declared.Sheet.{Sheet}
use Rattle.blocks.specs.declared.FillMode.{FillMode}
use Rattle.blocks.specs.declared.MainBlock.{MainBlock}
use Rattle.blocks.specs.declared.RowFormat.{RowFormat}
use Rattle.blocks.specs.declared.Segment.{Segment}
use Rattle.blocks.specs.Main.{main_block_at}
use Rattle.blocks.specs.RowBlock.{segment_roles, rest_of_block, block_at, row_block_at, window_row_at, redefined}
use Rattle.windows.specs.Window.{in_order, window_of, two_pointers, window_at, first_window, due_window}
use Rattle.state.specs.declared.Fields.{Fields}
use Rattle.state.specs.declared.State.{State}
use Rattle.state.specs.State.{state_of, in_range}
use Rattle.layout.specs.Layout.{total, all_fit, Overlay, none, over, edges_fit}
use Rattle.layout.specs.Overlay.{window_row, overlaid}
use Rattle.background.specs.Background.{background_block, background_row}
use Rattle.plan.specs.Plan.{Plan, from_blocks, from_state, plan}
use Rattle.codes.specs.declared.CodeSettings.{CodeSettings}
use Rattle.codes.specs.Codes.{Drawing}
use Rattle.windows.specs.declared.Window.{Window}
use Rattle.holding.proofs.CellsHold.{any, EachOver, Keeps, cells-hold}
use Rattle.cells.specs.Cells.{row_cells}
use Rattle.row.specs.Row.{Row, Called, from_plan, row, answered, row_call}
use Rattle.start.specs.Top.{registered, enabled, upward, of_window, top_block}
use Rattle.start.specs.Start.{window_start, start_from, started, start_call}
use Rattle.scroll.specs.declared.FrameShift.{FrameShift}
use Rattle.scroll.specs.declared.Scroll.{Scroll}
use Rattle.scroll.specs.Scroll as Shift
use Rattle.joining.specs.declared.Part.{Part}
use Rattle.effect.specs.Effect.{part_of, latch_with, outcome_for, effect_call}
use Rattle.converter.specs.Below.{row_below}
use Rattle.refusals.specs.Refusals.{sheet_numbers, start_numbers, shift_numbers, effect_numbers, row_numbers, of_sheet, of_start, of_shift, of_row, of_part, of_effect, has, within}
use Rattle.refusals.proofs.Refuses.{has_more, within_more, Refuses, weaken, dones, bind, check-refuses, check-then, check-of-then, unless-then, if-refuses, from-shared, words-refuse, as-refuses, Told, given-told, refused-told, run-told}

-- the checks on settings
pub settings-refuse : {ns : List ℕ} (σ : Settings) → has 2 ns ≡ true → has 17 ns ≡ true → Refuses ns (check_settings σ)
unfolding check_settings
settings-refuse σ h k = check-then 2 (good σ) h λ _ _. check-refuses 17 σ.linear k

-- blocks
module _ {ns : List ℕ} where
  main-refuses : (linear : Bool) (p : Pointer) → Refuses ns (main_block_at linear p)
  unfolding main_block_at
  main-refuses linear p = bind (as-refuses one_pointer (words-refuse linear 7 p)) λ b. dones

  block-refuses : (linear redefines : Bool) (p : Pointer) → Refuses ns (block_at linear redefines p)
  unfolding block_at rest_of_block
  block-refuses linear redefines p =
      if-refuses (null p) dones
      (bind (as-refuses one_pointer (words-refuse linear 3 p)) λ head.
      bind (as-refuses one_pointer (words-refuse linear _ _)) λ re.
      bind (as-refuses (segment_roles _) (words-refuse linear _ _)) λ gs. dones)

  redefined-refuses : (linear : Bool) (p : Pointer) (t : RowFormat) → Refuses ns (redefined linear p t)
  unfolding redefined
  redefined-refuses linear p t = if-refuses (null p) dones (bind (words-refuse linear 3 p) λ b. dones)

  pub window-refuses : has 8 ns ≡ true → (linear : Bool) (number least : ℕ) (p : Pointer) → Refuses ns (window_at linear number least p)
  unfolding window_at
  window-refuses h linear number least p =
      if-refuses (null p) dones (bind (as-refuses two_pointers (words-refuse linear 6 p)) λ b.
      check-of-then 8 p (in_order (window_of linear number p.address b).block && leb least (window_of linear number p.address b).block.top) h λ _ _. dones)

  due-refuses : has 8 ns ≡ true → (linear : Bool) (row : ℕ) (w : Option Window) → Refuses ns (due_window linear row w)
  unfolding due_window
  due-refuses h linear row None = dones
  due-refuses h linear row (Some w) = if-refuses (ltb w.block.bottom row) (window-refuses h linear _ _ _) dones

  -- the main block of a top register
  pub top-refuses : has 6 ns ≡ true → has 14 ns ≡ true → (linear : Bool) (top : PointerWords) → Refuses ns (top_block linear top)
  unfolding top_block
  top-refuses h k linear top =
      check-then 6 (not (null (registered linear top))) h λ _ _.
      bind (main-refuses linear _) λ m. check-then 14 (not (enabled m && of_window m)) k λ _ _. dones

-- The numbers that the checks of a reading refuse with: 7 is of a missing word alone, and is in none of these lists (`run-missing`).
-- a start
abbrev pub start_checks : List ℕ
start_checks = 2 ∷ 17 ∷ 6 ∷ 14 ∷ 8 ∷ []

pub start-refuses : (latch : ℕ) (σ : Settings) → Refuses start_checks (start_from latch σ)
unfolding start_from window_start first_window
start-refuses latch σ =
    bind (settings-refuse σ refl refl) λ _.
    bind (top-refuses refl refl σ.linear σ.top) λ m.
    bind (window-refuses refl σ.linear 0 0 _) λ w. dones

-- a shift call
abbrev pub shift_checks : List ℕ
shift_checks = 2 ∷ 17 ∷ 3 ∷ 6 ∷ 14 ∷ []

lines-refuse : (linear : Bool) (m : MainBlock) → Refuses shift_checks (Shift.first_lines linear m)
unfolding Shift.first_lines background_block row_block_at
lines-refuse linear m = bind (bind (block-refuses linear true _) λ b. bind (redefined-refuses linear _ _) λ t. dones) λ g. dones

pub shift-refuses : (σ : Settings) (soft : PointerWords) (last : Scroll) → Refuses shift_checks (Shift.shift σ soft last)
unfolding Shift.shift Shift.shift_by Shift.edge_lines
shift-refuses σ soft last =
    bind (settings-refuse σ refl refl) λ _.
    check-then 3 (Shift.in_range last) refl λ _ _.
    bind (top-refuses refl refl σ.linear σ.top) λ hard.
    if-refuses (enabled hard)
    (bind
    (if-refuses (upward hard) (lines-refuse σ.linear hard) (bind (top-refuses refl refl σ.linear soft) (lines-refuse σ.linear))) λ n. dones)
    dones

-- a row's plan
abbrev pub drawing_checks : List ℕ
drawing_checks = 8 ∷ 9 ∷ 10 ∷ 11 ∷ 12 ∷ 13 ∷ []

overlaid-refuses : (σ : Settings) (row : ℕ) (w : Option Window) → Refuses drawing_checks (overlaid σ row w)
unfolding overlaid window_row window_row_at
overlaid-refuses σ row None = dones
overlaid-refuses σ row (Some w) =
    if-refuses (leb w.block.top row && leb row w.block.bottom)
    (bind (block-refuses σ.linear false w.rows) λ b.
    check-of-then 9 w.rows (all_fit b.segments) refl λ _ _.
    check-then 11 (leb (total σ.hidden b.segments) (w.block.right + 1 - w.block.left)) refl λ _ _. dones)
    dones

background-refuses : (σ : Settings) (f : Fields) → Refuses drawing_checks (background_row σ f)
unfolding background_row background_block row_block_at
background-refuses σ f =
    bind (bind (block-refuses σ.linear true f.next) λ b. bind (redefined-refuses σ.linear b.redefinition f.format) λ t. dones) λ g.
    check-of-then 9 f.next (all_fit g.block.segments) refl λ _ _.
    check-of-then 10 f.next (leb (total σ.hidden g.block.segments) 132) refl λ _ _. dones

blocks-refuse : (σ : Settings) (f : Fields) → Refuses drawing_checks (from_blocks σ f)
blocks-refuse σ f =
    bind (due-refuses refl σ.linear f.row f.window) λ w.
    bind (background-refuses σ f) λ g.
    bind (overlaid-refuses σ f.row w) λ o.
    check-then 12 (edges_fit σ.hidden o.overlay g.block.segments) refl λ _ _. dones

-- its cells
cells-refuse : (σ : CodeSettings) (fill : FillMode) (o : Overlay) (gs : List Segment) (d : Drawing) → Refuses drawing_checks (row_cells σ fill o gs d)
cells-refuse σ fill o gs d = from-shared (cells-hold _ _ _ σ fill {I = λ _. Unit} {C = λ _. Unit} {S = λ _. Unit} keeps o gs d (over_any o) (any gs) tt)
  where
    keeps : Keeps (λ _. Unit) (λ _ _. Unit) (λ x. has x.number drawing_checks ≡ true) σ fill (λ _. Unit) (λ _. Unit) (λ _. Unit)
    keeps = record {
      code = λ _ _. tt;
      further = λ _ _ _ _. tt;
      list = λ _ _ _. tt;
      taken = λ _ _ _ _. tt;
      shown = λ _ _ _ _ _ _. tt;
      run = λ _ _ _. tt;
      bad = λ _ _ _. refl;
      begun = λ _ _ _ _. tt;
      codes_of = λ _ _ _. tt;
      unlisted = λ _ _. tt;
      resumed = λ _ _ _ _. tt;
    }

    over_any : (o : Overlay) → EachOver (λ _. Unit) o
    over_any none = tt
    over_any (over number first end ws) = any ws

-- a list with the checks of a row from such a state: 3 where it is out of range, 4 where it has no line
pub record Lists (ns : List ℕ) (f : Fields) : Type 0 where
  pub drawing : within drawing_checks ns ≡ true
  pub range : in_range f ≡ false → has 3 ns ≡ true
  pub lines : ltb 0 f.left ≡ false → has 4 ns ≡ true

module _ {ns : List ℕ} (σ : Settings) (s : State) (l : Lists ns s.fields) where
  from-state : Refuses ns (from_state σ s.fields)
  from-state =
      unless-then 3 (in_range s.fields) l.range λ _.
      unless-then 4 (ltb 0 s.fields.left) l.lines λ _. weaken l.drawing (blocks-refuse σ s.fields)

  from-plan : (p : Plan) → Refuses ns (from_plan σ s.fields.fill s.latch p)
  from-plan p = bind (weaken l.drawing (cells-refuse _ s.fields.fill p.overlay p.segments _)) λ d. dones

  pub row-refuses : has 2 ns ≡ true → has 17 ns ≡ true → Refuses ns (row σ s)
  unfolding row plan
  row-refuses h k = bind (bind (settings-refuse σ h k) λ _. from-state) from-plan

  -- .. without the checks on its settings
  pub below-refuses : Refuses ns (row_below σ s)
  unfolding row_below
  below-refuses = bind from-state from-plan

-- what the calls answer
pub one_told : (ns : List ℕ) (n : ℕ) → has n ns ≡ true → within (n ∷ []) ns ≡ true
one_told ns n h = rw h

pub sheet-told : (σ : Settings) → within (of_sheet (sheet_call σ)) sheet_numbers ≡ true
unfolding sheet_call
sheet-told σ = if-cases (λ (a : Result Sheet Refusal). within (of_sheet a) sheet_numbers ≡ true) (good σ) (λ _. refl) (λ _. refl)

pub start-told : (latch : ℕ) (σ : Settings) (m : List ℕ) → within (of_start (start_call latch σ m)) start_numbers ≡ true
unfolding start_call
start-told latch σ m = by (run-told refl 0 m (weaken refl (start-refuses latch σ)))
  where
    by : {o : Outcome State} → Told start_numbers o → within (of_start (started o)) start_numbers ≡ true
    by given-told = refl
    by (refused-told {x} h) = one_told start_numbers x.number h

pub shift-told : (σ : Settings) (m : List ℕ) (soft : PointerWords) (last : Scroll) → within (of_shift (Shift.shift_call σ m soft last)) shift_numbers ≡ true
unfolding Shift.shift_call
shift-told σ m soft last = by (run-told refl 0 m (weaken refl (shift-refuses σ soft last)))
  where
    by : {o : Outcome FrameShift} → Told shift_numbers o → within (of_shift (Shift.shift_answered o)) shift_numbers ≡ true
    by given-told = refl
    by (refused-told {x} h) = one_told shift_numbers x.number h

-- one more number in front of a list
pub more-told : (k : ℕ) (ns : List ℕ) (n : ℕ) → has n ns ≡ true → has n (k ∷ ns) ≡ true
more-told k ns n h = rw h (or-true (eqb n k))
  where
    or-true : (b : Bool) → b || true ≡ true
    or-true true = refl
    or-true false = refl

-- the checks of a row call before those of its state, and a missing word
abbrev pub first : List ℕ
first = 1 ∷ 2 ∷ 17 ∷ 7 ∷ []

pub row-told-by : (ns : List ℕ) → within first ns ≡ true → (σ : Settings) (m : List ℕ) (s : State) (buffer : List ℕ) → Lists ns s.fields
    → within (of_row (row_call σ m s buffer).answer) ns ≡ true
unfolding row_call
row-told-by ns h σ m s buffer l =
    let listed = has_more first ns h in
    if-cases (λ (c : Called). within (of_row c.answer) ns ≡ true) (eqb (length buffer) 132)
    (λ _. by (run-told (listed 7 refl) 0 m (row-refuses σ s l (listed 2 refl) (listed 17 refl))))
    (λ _. one_told ns 1 (listed 1 refl))
  where
    by : {o : Outcome Row} → Told ns o → within (of_row (answered σ s.fields buffer o).answer) ns ≡ true
    by given-told = refl
    by (refused-told {x} h) = one_told ns x.number h

-- a list with 3 and 4 is right for any state
pub any-state : {ns : List ℕ} → within (3 ∷ 4 ∷ drawing_checks) ns ≡ true → (f : Fields) → Lists ns f
any-state {ns} h f = record {
  drawing = within_more (3 ∷ 4 ∷ drawing_checks) ns h drawing_checks refl;
  range = λ _. has_more (3 ∷ 4 ∷ drawing_checks) ns h 3 refl;
  lines = λ _. has_more (3 ∷ 4 ∷ drawing_checks) ns h 4 refl;
}

pub row_told : (σ : Settings) (m : List ℕ) (s : State) (buffer : List ℕ) → within (of_row (row_call σ m s buffer).answer) row_numbers ≡ true
row_told σ m s buffer = row-told-by row_numbers refl σ m s buffer (any-state refl s.fields)

pub effect-told : (σ : Settings) (m : List ℕ) (f : Fields) → within (of_effect (effect_call σ m f)) effect_numbers ≡ true
unfolding effect_call outcome_for
effect-told σ m f = two-told (of_part (part_of f (outcome_for σ m f false))) _ (by false) (by true)
  where
    part : {o : Outcome Row} → Told effect_numbers o → within (of_part (part_of f o)) effect_numbers ≡ true
    part (given-told {a = r}) = if-cases (λ (t : Part). within (of_part t) effect_numbers ≡ true) r.drawing.pen.latched (λ _. refl) (λ _. refl)
    part (refused-told {x} h) = one_told effect_numbers x.number h

    by : (ignore : Bool) → within (of_part (part_of f (outcome_for σ m f ignore))) effect_numbers ≡ true
    by ignore = part (run-told refl 0 m (row-refuses σ (state_of (latch_with ignore) f) (any-state refl f) refl refl))

    two-told : (xs ys : List ℕ) → within xs effect_numbers ≡ true → within ys effect_numbers ≡ true → within (xs ++ ys) effect_numbers ≡ true
    two-told [] ys h k = k
    two-told (x ∷ xs) ys h k = let e = both (has x effect_numbers) (within xs effect_numbers) h in rw e.0 (two-told xs ys e.1 k)

-- a number that is not in the list is not in the answer
not-told : (n : ℕ) (ns xs : List ℕ) → has n ns ≡ false → within xs ns ≡ true → has n xs ≡ false
not-told n ns [] h k = refl
not-told n ns (x ∷ xs) h k =
    let e = both (has x ns) (within xs ns) k in
    rw (ne_eqb n x (λ (q : n ≡ x). let z : true ≡ false = sym e.0 ∙ rw (← q) h in absurd (apart z))) (not-told n ns xs h e.1)
  where
    apart : true ≡ false → ⊥
    apart z = let q : ◌≡◌ {A = ℕ} 0 1 = cc in omega arith

-- 02: "no call can reach refusal 5"
pub no-5 : (σ : Settings) (m : List ℕ) (s : State) (buffer : List ℕ)
    → (has 5 (of_row (row_call σ m s buffer).answer) ≡ false) × (has 5 (of_effect (effect_call σ m s.fields)) ≡ false)
no-5 σ m s buffer = (
  not-told 5 row_numbers (of_row (row_call σ m s buffer).answer) refl (row_told σ m s buffer),
  not-told 5 effect_numbers (of_effect (effect_call σ m s.fields)) refl (effect-told σ m s.fields),
)
