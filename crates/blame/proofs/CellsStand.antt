-- The cells of a row: the list in use stands, and a refusal blames a pointer that stands.
use mathlib.Core.Path.{◌≡◌}
use mathlib.Core.Bool.{true, false, ◌&&◌, ◌||◌, not}
use mathlib.Core.List.{List}
use Prim.Native.Nat.{ℕ, ◌/◌}
use native.Mathlib.Omega.{arith}
use lib.ListN.{get_or}
use lib.Dec.{ltb}
use borrow.Author.Tests.{not-true}
use Rattle.memory.specs.declared.Fault.{Fault}
use Rattle.memory.specs.Reading.{absent}
use Rattle.memory.specs.Address.{null}
use Rattle.memory.proofs.ReadBounds.{Words, if-cases}
use Rattle.blocks.specs.declared.FillMode.{FillMode}
use Rattle.blocks.specs.declared.Segment.{Segment}
use Rattle.layout.specs.Layout.{Overlay}
use Rattle.codes.specs.declared.CodeSettings.{CodeSettings}
use Rattle.codes.specs.declared.Source.{Source}
use Rattle.codes.specs.Attribute.{ignores}
use Rattle.codes.specs.Codes.{Drawing, taking, put, character}
use Rattle.cells.specs.Cells.{filled, row_cells}
use Rattle.holding.proofs.Holds.{Each}
use Rattle.holding.proofs.CellsHold.{EachOver, Keeps, cells-hold}
use Rattle.blame.proofs.Comes.{Comes, from-shared}
use Rattle.blame.proofs.Standing.{Held}
use Rattle.blame.proofs.BlocksStand.{SegmentStands}

module _ (m : List ℕ) (b : Words m) (σ : CodeSettings) (Q : Fault → Type 0)
    -- refusals 7 and 13 may blame a pointer that memory holds
    (missing : (a from : ℕ) → Held m b σ.linear from → Q (record { number = 7; address = a; from = from }))
    (unlatched : (a from : ℕ) → Held m b σ.linear from → Q (record { number = 13; address = a; from = from })) where
  -- the list in use is held, where there is one
  abbrev Uses : Drawing → Type 0
  Uses d = d.pen.list.present ≡ true → Held m b σ.linear d.pen.list.next.from

  character-uses : (source : Source) (end attribute code : ℕ) (d : Drawing) → Uses d → Uses (character σ.hidden source end attribute code d)
  unfolding character put
  character-uses source end attribute code d h =
      if-cases Uses ((σ.hidden || not (ignores attribute)) && ltb d.pen.column end) (λ _. h) (λ _. h)

  keeps : (fill : FillMode)
      → Keeps (λ q. Q (absent q)) (λ q w. w ≡ get_or m (q.address / 2) 0) Q σ fill Uses (λ p. Held m b σ.linear p.from) (SegmentStands m b σ.linear)
  unfolding taking filled put
  keeps fill = record {
    code = λ p c. missing _ _ c;
    further = λ p w c _. c;
    list = λ d h e. missing _ _ (h e);
    taken = λ d w h _. h;
    shown = character-uses;
    run = λ end d h. h;
    bad = λ d h e. unlatched _ _ (h e);
    begun = λ g d s h e. s.1.held (not-true (null g.attributes) e);
    codes_of = λ g s e. s.0.held e;
    unlisted = λ d h e. absurd (empty e);
    resumed = λ d e h k. h;
  }
    where
      empty : false ≡ true → ⊥
      empty e = let q : ◌≡◌ {A = ℕ} 0 1 = cc in omega arith

  pub cells-stand : (fill : FillMode) (o : Overlay) (gs : List Segment) (d : Drawing) → EachOver (SegmentStands m b σ.linear) o
      → Each (SegmentStands m b σ.linear) gs → Uses d → Comes m Q Uses (row_cells σ fill o gs d)
  cells-stand fill o gs d x s h = from-shared m Q (cells-hold _ _ Q σ fill (keeps fill) o gs d x s h)
