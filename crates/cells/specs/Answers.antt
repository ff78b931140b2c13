-- What the functions of this crate give, with the cells that they leave, as what the rules give, and what they ask of a plan: no rules
-- of their own.
use Rattle.std.specs.Prelude.{ℕ, ◌+◌, ◌≤◌, ◌≡◌, Bool, true, List, Result, Ok, Err}
use Rattle.memory.specs.declared.Fault.{Fault}
use Rattle.memory.specs.Reading.{Outcome, given, refused}
use Rattle.blocks.specs.declared.Segment.{Segment}
use Rattle.layout.specs.Layout.{total, Overlay, none, over, edges_fit}
use Rattle.codes.specs.declared.Reached.{Reached}
use Rattle.codes.specs.Codes.{Drawing}
use Rattle.cells.specs.declared.CellsDrawn.{CellsDrawn}

-- what the cells of a row come to: the latch, whether a word of this row became it, and the cells
pub record Finished : Type 0 where
  pub latch : ℕ
  pub latched : Bool
  pub cells : List ℕ

abbrev pub of_drawing : Drawing → Finished
of_drawing d = record { latch = d.pen.latch; latched = d.pen.latched; cells = d.cells }

abbrev pub finish : Outcome Drawing → Outcome Finished
finish (given n d) = given n (of_drawing d)
finish (refused x) = refused x

-- the answer of `draw_cells`, with the cells it leaves, as an outcome. What the array holds after a refusal is left free.
abbrev pub finished : Result CellsDrawn Fault → List ℕ → Outcome Finished
finished (Ok d) cs = given d.words (record { latch = d.latch; latched = d.latched; cells = cs })
finished (Err x) cs = refused x

-- drawing went up to a column, with no more words read than said
abbrev pub DrawnTo : ℕ → ℕ → Result Reached Fault → Type 0
DrawnTo end most (Ok r) = (r.pen.column ≡ end) × (r.words ≤ most)
DrawnTo end most (Err x) = Unit {0}

-- what a plan's checks 10, 11 and 12 give: the widths stay within the row and within the window, whose edges are boundaries
abbrev pub Inside : Bool → Overlay → Type 0
Inside hidden none = 0 ≤ 132
Inside hidden (over number first end ws) = (first + total hidden ws ≤ end) × (end ≤ 132)

pub record Drawable (hidden : Bool) (o : Overlay) (gs : List Segment) : Type 0 where
  pub narrow : total hidden gs ≤ 132
  pub inside : Inside hidden o
  pub edges : edges_fit hidden o gs ≡ true
