-- The cells of a row: the latch stays a word of 16 bits, and what a refusal tells has 32 bits.
use mathlib.Core.Path.{◌≡◌, sym, subst}
use mathlib.Core.Bool.{Bool, ◌&&◌, ◌||◌, not}
use mathlib.Core.List.{List}
use Prim.Native.Nat.{ℕ, ◌/◌, ◌<◌}
use lib.ListN.{get_or}
use lib.Dec.{ltb, lit≤}
use Rattle.memory.specs.declared.Pointer.{Pointer}
use Rattle.memory.specs.Reading.{absent}
use Rattle.memory.proofs.ReadBounds.{Words, if-cases}
use Rattle.blocks.specs.declared.FillMode.{FillMode}
use Rattle.blocks.specs.declared.Segment.{Segment}
use Rattle.layout.specs.Layout.{Overlay}
use Rattle.codes.specs.declared.CodeSettings.{CodeSettings}
use Rattle.codes.specs.declared.Source.{Source}
use Rattle.codes.specs.Attribute.{latches, ignores}
use Rattle.codes.specs.Codes.{Drawing, drawing, list_at, with_list, taking, put, character}
use Rattle.cells.specs.Cells.{filled, row_cells}
use Rattle.holding.proofs.Holds.{Each}
use Rattle.holding.proofs.CellsHold.{EachOver, Keeps, cells-hold}
use Rattle.blame.proofs.Comes.{Comes, from-shared}
use Rattle.read_back.proofs.Small.{Small, SmallFault, onward-small}
use Rattle.read_back.proofs.Blocks.{Pointed}

-- the pen's latch, and the next word of its list
pub record PenFits (d : Drawing) : Type 0 where
  pub latch : d.pen.latch < 65536
  pub next : Small d.pen.list.next

pub with-list : (p : Pointer) (d : Drawing) → Small p → PenFits d → PenFits (with_list (list_at p) d)
with-list p d h k = record { latch = k.latch; next = h }

put-fits : (n value : ℕ) (d : Drawing) → PenFits d → PenFits (put n value d)
unfolding put
put-fits n value d h = record { latch = h.latch; next = h.next }

character-fits : (hidden : Bool) (source : Source) (end attribute code : ℕ) (d : Drawing) → PenFits d
    → PenFits (character hidden source end attribute code d)
unfolding character
character-fits hidden source end attribute code d h =
    if-cases PenFits ((hidden || not (ignores attribute)) && ltb d.pen.column end) (λ _. put-fits 1 _ d h) (λ _. h)

module _ (m : List ℕ) (b : Words m) (σ : CodeSettings) where
  -- the word taken may become the latch, and the next one is a step further
  taken : (w : ℕ) (d : Drawing) → w < 65536 → PenFits d → PenFits (drawing (taking σ.linear w d.pen) d.cells)
  unfolding taking
  taken w d l h = record {
    latch = if-cases (λ (n : ℕ). n < 65536) (latches w) (λ _. l) (λ _. h.latch);
    next = onward-small σ.linear d.pen.list.next h.next;
  }

  keeps : (fill : FillMode) → Keeps (λ q. SmallFault (absent q)) (λ q w. w ≡ get_or m (q.address / 2) 0) SmallFault σ fill PenFits Small Pointed
  unfolding filled
  keeps fill = record {
    code = λ p c. c;
    further = λ p w c _. onward-small σ.linear p c;
    list = λ d h _. h.next;
    taken = λ d w h e. taken w d (subst (λ n. n < 65536) (sym e) (b (d.pen.list.next.address / 2))) h;
    shown = character-fits σ.hidden;
    run = λ end d h. put-fits _ _ d h;
    bad = λ d h _. h.next;
    begun = λ g d k h. with-list g.attributes d k.1 h;
    codes_of = λ g k _. k.0;
    unlisted = λ d h. record { latch = h.latch; next = (lit≤ tt, lit≤ tt) };
    resumed = λ d e h k. record { latch = k.latch; next = h.next };
  }

  pub cells-keep : (fill : FillMode) (o : Overlay) (gs : List Segment) (d : Drawing) → EachOver Pointed o → Each Pointed gs → PenFits d
      → Comes m SmallFault PenFits (row_cells σ fill o gs d)
  cells-keep fill o gs d x k h = from-shared m SmallFault (cells-hold _ _ SmallFault σ fill (keeps fill) o gs d x k h)
