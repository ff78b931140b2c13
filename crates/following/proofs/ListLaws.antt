-- The trails of blocks and windows: one law for each way through a definition.
use Rattle.std.proofs.Common.{Option, Some, None}
use mathlib.Core.Path.{◌≡◌, refl, ap, ◌∙◌}
use mathlib.Core.Bool.{Bool, true, false, ◌&&◌, not}
use mathlib.Core.List.{List, []}
use Prim.Native.Nat.{ℕ, ◌+◌, ◌-◌, ◌*◌, ◌%◌, ◌<◌}
use native.Mathlib.Omega.{arith}
use lib.Dec.{ltb, leb}
use borrow.Author.Tests.{lt-ltb, le-ltb}
use Rattle.memory.specs.Word.{when◌then◌else◌, bit, at}
use Rattle.memory.specs.declared.Fault.{Fault}
use Rattle.memory.specs.declared.Pointer.{Pointer}
use Rattle.memory.specs.Reading.{Reading, done, read_as, one_pointer, nobody, check, check_of, ◌>>=◌, ◌>>◌, given, refused, run}
use Rattle.memory.specs.Address.{null, ahead, further, words}
use Rattle.settings.specs.declared.PointerWords.{PointerWords}
use Rattle.settings.specs.declared.Settings.{Settings}
use Rattle.blocks.specs.declared.RowFormat.{RowFormat}
use Rattle.blocks.specs.Main.{main_block_at}
use Rattle.blocks.specs.RowBlock.{RowBlock, segment_roles, rest_of_block, block_at, row_block_at, window_row_at, redefined}
use Rattle.windows.specs.declared.Window.{Window}
use Rattle.windows.specs.Window.{window_of, in_order, two_pointers, window_at, due_window}
use Rattle.layout.specs.Layout.{total, all_fit, over, edges_fit}
use Rattle.layout.specs.Overlay.{Overlaid, with_rows, window_row, overlaid}
use Rattle.background.specs.Background.{BackgroundRow, background_block, background_row}
use Rattle.plan.specs.Plan.{planned, from_blocks, from_state}
use Rattle.state.specs.State.{in_range}
use Rattle.state.specs.declared.Fields.{Fields}
use Rattle.start.specs.Top.{registered, enabled, of_window, top_block}
use Rattle.converter.specs.Walk.{word_of}
use Rattle.marking.specs.Answers.{passed, faulted, trail}
use Rattle.marking.proofs.TrailLaws.{words_in, trail-done, trail-quiet, trail-words, trail-faulted, trail-given, trail-refused}
use Rattle.following.specs.Answers.{from_background}

module _ (held : ℕ) (m : List ℕ) where
  -- a check, and what then asks for nothing
  pub quiet_check : {A : Type 0} (marks : List ℕ) (n : ℕ) (p : Pointer) (b : Bool) (k : Unit {0} → Reading A)
      → ((u : Unit {0}) → trail held m marks (k u) ≡ passed marks) → trail held m marks (check_of n p b >>= k) ≡ passed marks
  unfolding trail ◌>>=◌
  quiet_check marks n p true k h = h tt
  quiet_check marks n p false k h = refl

  pub check-failed : {A : Type 0} (marks : List ℕ) (n : ℕ) (b : Bool) (k : Unit {0} → Reading A) → b ≡ false → trail held m marks (check n b >>= k) ≡ passed marks
  unfolding trail ◌>>=◌
  check-failed marks n b k e = rw e

  pub check-passed : {A : Type 0} (marks : List ℕ) (n : ℕ) (b : Bool) (k : Unit {0} → Reading A) → b ≡ true → trail held m marks (check n b >>= k) ≡ trail held m marks (k tt)
  unfolding ◌>>=◌
  check-passed marks n b k e = rw e

  -- the main block
  module _ (marks : List ℕ) (l : Bool) (top : PointerWords) where
    pub top-null : null (registered l top) ≡ true → trail held m marks (top_block l top) ≡ passed marks
    unfolding top_block
    top-null e = check-failed marks 6 (not (null (registered l top))) _ (rw e)

    pub top-words : null (registered l top) ≡ false → trail held m marks (top_block l top) ≡ trail held m marks (read_as one_pointer (words l 7 (registered l top)))
    unfolding top_block main_block_at
    top-words e =
        check-passed marks 6 (not (null (registered l top))) _ (rw e)
        ∙ trail-quiet held m marks (main_block_at l (registered l top)) _ (λ b marks₁. quiet_check marks₁ 14 nobody (not (enabled b && of_window b)) (λ _. done b) (λ u. trail-done held m marks₁ b))
        ∙ trail-quiet held m marks (read_as one_pointer (words l 7 (registered l top))) _ (λ b marks₁. trail-done held m marks₁ _)

  -- a window block
  module _ (marks : List ℕ) (l : Bool) (number least : ℕ) (p : Pointer) where
    pub window-null : null p ≡ true → trail held m marks (window_at l number least p) ≡ passed marks
    unfolding window_at trail
    window-null e = rw e

    pub window-words : null p ≡ false → trail held m marks (window_at l number least p) ≡ trail held m marks (read_as two_pointers (words l 6 p))
    unfolding window_at
    window-words e = rw e (trail-quiet held m marks (read_as two_pointers (words l 6 p)) _
        (λ b marks₁. let w : Window = window_of l number p.address b in quiet_check marks₁ 8 p (in_order w.block && leb least w.block.top) (λ _. done (Some w)) (λ u. trail-done held m marks₁ (Some w))))

  -- a redefinition
  module _ (marks : List ℕ) (l : Bool) (p : Pointer) (format : RowFormat) where
    pub redefined-null : null p ≡ true → trail held m marks (redefined l p format) ≡ passed marks
    unfolding redefined trail
    redefined-null e = rw e

    pub redefined-words : null p ≡ false → trail held m marks (redefined l p format) ≡ trail held m marks (read_as [] (words l 3 p))
    unfolding redefined read_as
    redefined-words e = rw e (trail-quiet held m marks (words l 3 p) _ (λ b marks₁. trail-done held m marks₁ _))

  -- a row block
  module _ (marks : List ℕ) (l redefines : Bool) (p : Pointer) where
    pub block_null : null p ≡ true → trail held m marks (block_at l redefines p) ≡ passed marks
    unfolding block_at trail
    block_null e = rw e

    rest : List ℕ → Reading RowBlock
    rest head = rest_of_block l p head (when redefines && bit 15 (at head 2) then 2 else 0)

    pub block-faulted : {x : Fault} → null p ≡ false → trail held m marks (read_as one_pointer (words l 3 p)) ≡ faulted x → trail held m marks (block_at l redefines p) ≡ faulted x
    unfolding block_at rest
    block-faulted e f = rw e (trail-words held m marks l 3 p one_pointer rest ∙ rw f)

    pub block-passed : {marks₁ : List ℕ} → null p ≡ false → trail held m marks (read_as one_pointer (words l 3 p)) ≡ passed marks₁
        → trail held m marks (block_at l redefines p)
        ≡ trail held m marks₁ (rest_of_block l p (words_in l m 3 p.address) (when redefines && bit 15 (word_of m (ahead l 2 p.address)) then 2 else 0))
    unfolding block_at rest words_in ahead
    block-passed e f = rw e (trail-words held m marks l 3 p one_pointer rest ∙ rw f)

  third : (l : Bool) (a : ℕ) → at (words_in l m 3 a) 2 ≡ word_of m (ahead l 2 a)
  unfolding words_in ahead
  third l a = refl

  pub third-word : (l : Bool) (a : ℕ) → at (words_in l m 3 a) 2 % 16 ≡ word_of m (ahead l 2 a) % 16
  third-word l a = ap (λ (w : ℕ). w % 16) (third l a)

  module _ (marks : List ℕ) (l : Bool) (p : Pointer) (head : List ℕ) (k : ℕ) where
    pub rest-faulted : {x : Fault} → trail held m marks (read_as one_pointer (words l k (further l 3 p))) ≡ faulted x → trail held m marks (rest_of_block l p head k) ≡ faulted x
    unfolding rest_of_block
    rest-faulted f = trail-words held m marks l k (further l 3 p) one_pointer _ ∙ rw f

    pub rest-passed : {marks₁ : List ℕ} (n : ℕ) → at head 2 % 16 ≡ n → trail held m marks (read_as one_pointer (words l k (further l 3 p))) ≡ passed marks₁
        → trail held m marks (rest_of_block l p head k) ≡ trail held m marks₁ (read_as (segment_roles n) (words l (5 * n) (further l (3 + k) p)))
    unfolding rest_of_block
    rest-passed {marks₁} n h f =
        trail-words held m marks l k (further l 3 p) one_pointer _ ∙ rw f
        (trail-quiet held m marks₁ (read_as (segment_roles (at head 2 % 16)) (words l (5 * (at head 2 % 16)) (further l (3 + k) p))) _ (λ b marks₂. trail-done held m marks₂ _) ∙ rw h)

  -- the background of a row
  module _ (marks : List ℕ) (σ : Settings) (f : Fields) where
    block-alone : trail held m marks (background_row σ f) ≡ trail held m marks (background_block σ.linear f.next f.format)
    unfolding background_row
    block-alone =
        trail-quiet held m marks (background_block σ.linear f.next f.format) _
        (λ g marks₁. quiet_check marks₁ 9 f.next (all_fit g.block.segments) (λ _. check_of 10 f.next (leb (total σ.hidden g.block.segments) 132) >> done g)
        (λ u. quiet_check marks₁ 10 f.next (leb (total σ.hidden g.block.segments) 132) (λ _. done g) (λ v. trail-done held m marks₁ g)))

    pub background-faulted : {x : Fault} → trail held m marks (block_at σ.linear true f.next) ≡ faulted x → trail held m marks (background_row σ f) ≡ faulted x
    unfolding background_block row_block_at
    background-faulted e = block-alone ∙ trail-faulted held m marks (block_at σ.linear true f.next) _ e

    pub background-refused : {marks₁ : List ℕ} {x : Fault} → trail held m marks (block_at σ.linear true f.next) ≡ passed marks₁
        → run m (row_block_at σ.linear f.next) ≡ refused x → trail held m marks (background_row σ f) ≡ passed marks₁
    unfolding background_block row_block_at
    background-refused e r = block-alone ∙ trail-refused held m marks (block_at σ.linear true f.next) _ e r

    pub background-given : {marks₁ : List ℕ} {n : ℕ} {b : RowBlock} → trail held m marks (block_at σ.linear true f.next) ≡ passed marks₁
        → run m (row_block_at σ.linear f.next) ≡ given n b → trail held m marks (background_row σ f) ≡ trail held m marks₁ (redefined σ.linear b.redefinition f.format)
    unfolding background_block row_block_at
    background-given {marks₁} {n} {b} e r =
        block-alone ∙ trail-given held m marks (block_at σ.linear true f.next) _ e r
        ∙ trail-quiet held m marks₁ (redefined σ.linear b.redefinition f.format) _ (λ t marks₂. trail-done held m marks₂ _)

  -- the window on a row
  module _ (marks : List ℕ) (σ : Settings) (row : ℕ) where
    pub overlay-absent : trail held m marks (overlaid σ row None) ≡ passed marks
    unfolding overlaid trail
    overlay-absent = refl

    pub overlay-off : (w : Window) → leb w.block.top row && leb row w.block.bottom ≡ false → trail held m marks (overlaid σ row (Some w)) ≡ passed marks
    unfolding overlaid trail
    overlay-off w e = rw e

    pub overlay-on : (w : Window) → leb w.block.top row && leb row w.block.bottom ≡ true
        → trail held m marks (overlaid σ row (Some w)) ≡ trail held m marks (block_at σ.linear false w.rows)
    unfolding overlaid window_row window_row_at
    overlay-on w e =
        rw e (trail-quiet held m marks (block_at σ.linear false w.rows) _
        (λ b marks₁.
        let o : Overlaid = record {
          overlay = over w.block.number w.block.left (w.block.right + 1) b.segments;
          window = Some (with_rows b.link w);
        } in
        let narrow : Bool = leb (total σ.hidden b.segments) (w.block.right + 1 - w.block.left) in
        quiet_check marks₁ 9 w.rows (all_fit b.segments) (λ _. check 11 narrow >> done o)
        (λ u. quiet_check marks₁ 11 nobody narrow (λ _. done o) (λ v. trail-done held m marks₁ o))))

  -- a due window
  module _ (marks : List ℕ) (l : Bool) (row : ℕ) where
    pub due-absent : trail held m marks (due_window l row None) ≡ passed marks
    unfolding due_window trail
    due-absent = refl

    pub due-not : (w : Window) → ltb w.block.bottom row ≡ false → trail held m marks (due_window l row (Some w)) ≡ passed marks
    unfolding due_window trail
    due-not w e = rw e

    pub due-now : (w : Window) → ltb w.block.bottom row ≡ true
        → trail held m marks (due_window l row (Some w)) ≡ trail held m marks (window_at l (w.block.number + 1) (w.block.bottom + 1) w.block.link)
    unfolding due_window
    due-now w e = rw e

  -- the blocks of a row one after the other, then check 12
  module _ (marks : List ℕ) (σ : Settings) (f : Fields) where
    module _ (w : Option Window) where
      pub then-faulted : {x : Fault} → trail held m marks (background_row σ f) ≡ faulted x → trail held m marks (from_background σ f w) ≡ faulted x
      then-faulted e = trail-faulted held m marks (background_row σ f) _ e

      pub then-refused : {marks₁ : List ℕ} {x : Fault} → trail held m marks (background_row σ f) ≡ passed marks₁ → run m (background_row σ f) ≡ refused x
          → trail held m marks (from_background σ f w) ≡ passed marks₁
      then-refused e r = trail-refused held m marks (background_row σ f) _ e r

      pub then-given : {marks₁ : List ℕ} {n : ℕ} {g : BackgroundRow} → trail held m marks (background_row σ f) ≡ passed marks₁ → run m (background_row σ f) ≡ given n g
          → trail held m marks (from_background σ f w) ≡ trail held m marks₁ (overlaid σ f.row w)
      then-given {marks₁} {n} {g} e r =
          trail-given held m marks (background_row σ f) _ e r
          ∙ trail-quiet held m marks₁ (overlaid σ f.row w) _
          (λ o marks₂. quiet_check marks₂ 12 nobody (edges_fit σ.hidden o.overlay g.block.segments) (λ _. done (planned f g o)) (λ u. trail-done held m marks₂ (planned f g o)))

    pub due-faulted : {x : Fault} → trail held m marks (due_window σ.linear f.row f.window) ≡ faulted x → trail held m marks (from_blocks σ f) ≡ faulted x
    due-faulted e = trail-faulted held m marks (due_window σ.linear f.row f.window) _ e

    pub due-refused : {marks₁ : List ℕ} {x : Fault} → trail held m marks (due_window σ.linear f.row f.window) ≡ passed marks₁
        → run m (due_window σ.linear f.row f.window) ≡ refused x → trail held m marks (from_blocks σ f) ≡ passed marks₁
    due-refused e r = trail-refused held m marks (due_window σ.linear f.row f.window) _ e r

    pub due-given : {marks₁ : List ℕ} {n : ℕ} {w : Option Window} → trail held m marks (due_window σ.linear f.row f.window) ≡ passed marks₁
        → run m (due_window σ.linear f.row f.window) ≡ given n w → trail held m marks (from_blocks σ f) ≡ trail held m marks₁ (from_background σ f w)
    due-given e r = trail-given held m marks (due_window σ.linear f.row f.window) (from_background σ f) e r

    -- checks 3 and 4
    pub state-out : in_range f ≡ false → trail held m marks (from_state σ f) ≡ passed marks
    state-out e = check-failed marks 3 (in_range f) (λ _. check 4 (ltb 0 f.left) >> from_blocks σ f) e

    pub no_lines : in_range f ≡ true → f.left ≡ 0 → trail held m marks (from_state σ f) ≡ passed marks
    no_lines e h =
        check-passed marks 3 (in_range f) (λ _. check 4 (ltb 0 f.left) >> from_blocks σ f) e
        ∙ check-failed marks 4 (ltb 0 f.left) (λ _. from_blocks σ f) (le-ltb 0 f.left (omega arith))

    pub state-in : in_range f ≡ true → 0 < f.left → trail held m marks (from_state σ f) ≡ trail held m marks (from_blocks σ f)
    state-in e h =
        check-passed marks 3 (in_range f) (λ _. check 4 (ltb 0 f.left) >> from_blocks σ f) e
        ∙ check-passed marks 4 (ltb 0 f.left) (λ _. from_blocks σ f) (lt-ltb 0 f.left h)
