-- The cells of a row: codes and words of a list are asked for through the segments' pointers that stand, and steps from these.
use mathlib.Core.Path.{◌≡◌, refl}
use mathlib.Core.Bool.{true, ◌&&◌, ◌||◌, not}
use mathlib.Core.List.{List}
use Prim.Native.Nat.{ℕ}
use lib.Dec.{ltb}
use Rattle.memory.specs.declared.Pointer.{Pointer}
use Rattle.memory.specs.Address.{nothing, null}
use Rattle.memory.proofs.ReadBounds.{if-cases}
use Rattle.settings.specs.declared.Settings.{Settings}
use Rattle.blocks.specs.declared.FillMode.{FillMode}
use Rattle.blocks.specs.declared.Segment.{Segment}
use Rattle.layout.specs.Layout.{Overlay}
use Rattle.codes.specs.declared.AttributeList.{AttributeList}
use Rattle.codes.specs.declared.Source.{Source}
use Rattle.codes.specs.Attribute.{ignores}
use Rattle.codes.specs.Codes.{Drawing, list_at, no_list, put, taking, character}
use Rattle.cells.specs.Cells.{filled, row_cells}
use Rattle.row.specs.Row.{code_settings}
use Rattle.holding.proofs.Holds.{Each}
use Rattle.holding.proofs.CellsHold.{EachOver, Keeps, cells-hold}
use Rattle.told.specs.Told.{Reached}
use Rattle.told.proofs.Tells.{not-true, Asked, Found, Own}
use Rattle.told.proofs.Pointers.{Stands, null-stands, first, onward-reached}
use Rattle.told.proofs.Blocks.{Says, Pointed}

module _ (σ : Settings) (m : List ℕ) where
  -- a list in use: where there is one, its next word is reached
  abbrev ListStands : AttributeList → Type 0
  ListStands l = l.present ≡ true → Reached σ m l.next

  abbrev PenStands : Drawing → Type 0
  PenStands d = ListStands d.pen.list

  list-stands : (p : Pointer) → Stands σ m p → ListStands (list_at p)
  list-stands p s e = first σ m p s (not-true (null p) e)

  pub no-list : ListStands no_list
  no-list = list-stands nothing (null-stands σ m nothing refl)

  character-stands : (source : Source) (end attribute code : ℕ) (d : Drawing) → PenStands d → PenStands (character σ.hidden source end attribute code d)
  unfolding character put
  character-stands source end attribute code d s =
      if-cases PenStands ((σ.hidden || not (ignores attribute)) && ltb d.pen.column end) (λ _. s) (λ _. s)

  -- the word taken is the list's, and the next one is a step further
  keeps : (fill : FillMode) → Keeps (Asked (Reached σ m)) (Found m) Own (code_settings σ) fill PenStands (Reached σ m) (Pointed σ m)
  unfolding taking filled put
  keeps fill = record {
    code = λ p c. c;
    further = λ p w c f. onward-reached σ m p c f;
    list = λ d s e. s e;
    taken = λ d w s f e. onward-reached σ m d.pen.list.next (s e) f;
    shown = character-stands;
    run = λ end d s. s;
    bad = λ d s e. refl;
    begun = λ g d h s. list-stands g.attributes h.1;
    codes_of = λ g h e. first σ m g.codes h.0 e;
    unlisted = λ d s. no-list;
    resumed = λ d e s t. s;
  }

  pub cells-tell : (fill : FillMode) (o : Overlay) (gs : List Segment) (d : Drawing) → EachOver (Pointed σ m) o → Each (Pointed σ m) gs → PenStands d
      → Says σ m PenStands (row_cells (code_settings σ) fill o gs d)
  cells-tell fill o gs d h k s = cells-hold (Asked (Reached σ m)) (Found m) Own (code_settings σ) fill (keeps fill) o gs d h k s
