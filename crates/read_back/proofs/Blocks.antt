-- Blocks and windows that are read through pointers of 32 bits have such pointers again, and numbers that their fields can have.
use Rattle.std.proofs.Common.{Option, Some, None}
use mathlib.Core.Path.{◌≡◌}
use mathlib.Core.Bool.{Bool, true, ◌&&◌}
use mathlib.Core.List.{List}
use Prim.Native.Nat.{ℕ, zero, suc, ◌+◌, ◌*◌, ◌%◌, ◌≤◌}
use native.Mathlib.Omega.{arith}
use lib.ListN.{drop}
use lib.Seq.{get_or-drop}
use lib.Dec.{ltb, leb, lit≤}
use borrow.Author.Tests.{leb-true}
use Rattle.memory.specs.declared.Pointer.{Pointer}
use Rattle.memory.specs.Word.{when◌then◌else◌, bit, at}
use Rattle.memory.specs.Reading.{one_pointer}
use Rattle.memory.specs.Address.{null, ahead, further}
use Rattle.memory.proofs.ReadBounds.{Words, both}
use Rattle.blocks.specs.declared.MainBlock.{MainBlock}
use Rattle.blocks.specs.declared.Segment.{Segment}
use Rattle.blocks.specs.declared.RowFormat.{RowFormat}
use Rattle.blocks.specs.Main.{main_block, main_block_at}
use Rattle.blocks.specs.RowBlock.{RowBlock, segment_of, segments_at, segment_roles, rest_of_block, block_at, format_of, redefined}
use Rattle.windows.specs.declared.Window.{Window}
use Rattle.windows.specs.Window.{window_of, two_pointers, in_order, window_at, due_window}
use Rattle.windows.proofs.WindowBounds.{Placed, in_order_lem}
use Rattle.numbers.specs.Places.{any}
use Rattle.numbers.proofs.Again.{WindowHeld}
use Rattle.holding.proofs.Holds.{Each}
use Rattle.blame.proofs.Comes.{dones, bind, as-comes, check-then, if-comes}
use Rattle.read_back.proofs.Small.{Small, SmallFault, ahead_small, further-small, pointer-small, Keeps, words-keep}

-- the two pointers of a segment
abbrev pub Pointed : Segment → Type 0
Pointed g = Small g.codes × Small g.attributes

-- a row block or a window row block
pub record Linked (b : RowBlock) : Type 0 where
  pub link : Small b.link
  pub redefinition : Small b.redefinition
  pub segments : Each Pointed b.segments

-- a row's format, a main block, a window in hand
pub record FormatFits (t : RowFormat) : Type 0 where
  pub lines : t.lines ≤ 255
  pub attributes : t.attributes ≤ 65535
  pub curs : t.curs ≤ 255
  pub cure : t.cure ≤ 255

pub record MainFits (b : MainBlock) : Type 0 where
  pub rows : Small b.rows
  pub x : b.cursor.x ≤ 255
  pub y : b.cursor.y ≤ 255
  pub code : b.fill.code ≤ 255
  pub lines : b.lines ≤ 255

pub record WindowFits (w : Window) : Type 0 where
  pub held : WindowHeld w
  pub rows : Small w.rows
  pub link : Small w.block.link

abbrev pub HandFits : Option Window → Type 0
HandFits None = Unit
HandFits (Some w) = WindowFits w

segments-small : (linear : Bool) (a n : ℕ) (ws : List ℕ) → a ≤ any → Words ws → Each Pointed (segments_at linear a n ws)
unfolding segments_at segment_of
segments-small linear a zero ws h k = tt
segments-small linear a (suc n) ws h k = (
  (pointer-small linear a (at ws 0) (at ws 1) h (k 1), pointer-small linear (ahead linear 2 a) (at ws 2) (at ws 3) (ahead_small linear 2 a h) (k 3)),
  segments-small linear (ahead linear 5 a) n (drop 5 ws) (ahead_small linear 5 a h) (λ i. rw (get_or-drop 5 ws i 0) (k (5 + i))),
)

module _ (m : List ℕ) (b : Words m) (linear : Bool) where
  rest-keeps : (p : Pointer) (head : List ℕ) (pointed : ℕ) → Small p → Words head → Keeps m b Linked (rest_of_block linear p head pointed)
  unfolding rest_of_block
  rest-keeps p head pointed h k =
      let n = at head 2 % 16 in
      let a = p.address in
      bind m SmallFault (as-comes m SmallFault one_pointer (words-keep m b linear pointed (further linear 3 p) (further-small linear 3 p h))) λ re hr.
      bind m SmallFault (as-comes m SmallFault (segment_roles n) (words-keep m b linear (5 * n) (further linear (3 + pointed) p) (further-small linear (3 + pointed) p h))) λ gs hs.
      dones
      (record {
        link = pointer-small linear a (at head 0) (at head 1) h.0 (k 1);
        redefinition = pointer-small linear (ahead linear 3 a) (at re 0) (at re 1) (ahead_small linear 3 a h.0) (hr 1);
        segments = segments-small linear (ahead linear (3 + pointed) a) n gs (ahead_small linear (3 + pointed) a h.0) hs;
      })

  pub block-keeps : (redefines : Bool) (p : Pointer) → Small p → Keeps m b Linked (block_at linear redefines p)
  unfolding block_at
  block-keeps redefines p h =
      if-comes m SmallFault (null p)
      (λ _. dones (record { link = (lit≤ tt, lit≤ tt); redefinition = (lit≤ tt, lit≤ tt); segments = tt }))
      λ _.
      bind m SmallFault (as-comes m SmallFault one_pointer (words-keep m b linear 3 p h)) λ head k.
      rest-keeps p head (when redefines && bit 15 (at head 2) then 2 else 0) h k

  pub redefined-keeps : (p : Pointer) (t : RowFormat) → Small p → FormatFits t → Keeps m b FormatFits (redefined linear p t)
  unfolding redefined format_of
  redefined-keeps p t h k =
      if-comes m SmallFault (null p) (λ _. dones k) λ _.
      bind m SmallFault (words-keep m b linear 3 p h) λ ws _. dones (record { lines = omega arith; attributes = omega arith; curs = omega arith; cure = omega arith })

  pub main-keeps : (p : Pointer) → Small p → Keeps m b MainFits (main_block_at linear p)
  unfolding main_block_at main_block
  main-keeps p h =
      bind m SmallFault (as-comes m SmallFault one_pointer (words-keep m b linear 7 p h)) λ ws k.
      dones
      (record {
        rows = pointer-small linear p.address (at ws 0) (at ws 1) h.0 (k 1);
        x = omega (arith, k 2);
        y = omega arith;
        code = omega arith;
        lines = omega arith;
      })

  -- a window that is read has a number at most its first row
  window-fits : (number least a : ℕ) (ws : List ℕ) → number ≤ least → a ≤ any → Words ws
      → (let w = (window_of linear number a ws).block in in_order w && leb least w.top ≡ true) → WindowFits (window_of linear number a ws)
  unfolding window_of
  window-fits number least a ws l h k e =
      let w = (window_of linear number a ws).block in
      let c = both (in_order w) (leb least w.top) e in
      let o = in_order_lem w c.0 in
      let t = leb-true least w.top c.1 in
      record {
        held = record {
          number = omega (arith, k 4, t);
          top = omega (arith, k 4);
          bottom = omega arith;
          left = omega (arith, k 5);
          right = omega arith;
        };
        rows = pointer-small linear (ahead linear 2 a) (at ws 2) (at ws 3) (ahead_small linear 2 a h) (k 3);
        link = pointer-small linear a (at ws 0) (at ws 1) h (k 1);
      }

  pub window-keeps : (number least : ℕ) (p : Pointer) → number ≤ least → Small p → Keeps m b HandFits (window_at linear number least p)
  unfolding window_at
  window-keeps number least p l h =
      if-comes m SmallFault (null p) (λ _. dones tt) λ _.
      bind m SmallFault (as-comes m SmallFault two_pointers (words-keep m b linear 6 p h)) λ ws k.
      check-then m SmallFault 8 p (let w = (window_of linear number p.address ws).block in in_order w && leb least w.top) (λ _. (lit≤ tt, h.1)) λ _ e.
      dones (window-fits number least p.address ws l h.0 k e)

  pub due-keeps : (row : ℕ) (w : Option Window) → Placed w → HandFits w → Keeps m b HandFits (due_window linear row w)
  unfolding due_window
  due-keeps row None o h = dones tt
  due-keeps row (Some w) o h =
      if-comes m SmallFault (ltb w.block.bottom row)
      (λ _. window-keeps (w.block.number + 1) (w.block.bottom + 1) w.block.link (omega arith) h.link) (λ _. dones h)
