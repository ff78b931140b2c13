-- What the functions of this crate give, with the marks that they leave, as what a walk gives: no rules of their own.
use Rattle.std.specs.Prelude.{ℕ, zero, suc, ◌+◌, ◌%◌, ◌<◌, ◌≤◌, ◌≡◌, Bool, List, [], ◌∷◌, ltb, Result, Ok, Err, Option, Some, None}
use Rattle.memory.specs.Word.{when◌then◌else◌}
use Rattle.memory.specs.declared.Fault.{Fault}
use Rattle.memory.specs.Reading.{Role, Other, Reading, done, refuse, ask}
use Rattle.blocks.specs.declared.Segment.{Segment}
use Rattle.blocks.specs.RowBlock.{segments_of}
use Rattle.layout.specs.declared.OverlayHead.{OverlayHead}
use Rattle.codes.specs.declared.Pen.{Pen}
use Rattle.codes.specs.Codes.{Drawing, drawing}
use Rattle.converter.specs.Walk.{mark, Walked, went, halted, walk}
use Rattle.marking.specs.declared.marked.Marked.{Marked}
use Rattle.marking.specs.declared.row_cells.RowSegments.{RowSegments}
use Rattle.marking.specs.declared.Shape.{Shape}
use Rattle.marking.specs.declared.Shape.TheVariants.{Plain, OnePointer, TwoPointers, Segments}

-- the same memory, and its marks in the same bytes, whatever they are
pub record Kept (old new : Marked) : Type 0 where
  pub mem : new.mem.now ≡ old.mem.now
  pub marks : new.marks.ghost_name ≡ old.marks.ghost_name

-- the answer of `mark_word`, with the marks, as what the walk of one word comes to
abbrev pub word_walked : Result ℕ Fault → List ℕ → Walked ℕ
word_walked (Ok w) marks = went marks w
word_walked (Err x) marks = halted x

-- The marks that a walk leaves, or the refusal that marking met, whatever the reading itself then gives or refuses.
pub data Trail : Type 0 where
  passed : (marks : List ℕ) → Trail
  faulted : Fault → Trail

abbrev pub by_word : Walked ℕ → (List ℕ → ℕ → Trail) → Trail
by_word (went marks w) next = next marks w
by_word (halted x) next = faulted x

unfoldable pub trail : {A : Type 0} → (held : ℕ) → (m marks : List ℕ) → Reading A → Trail
trail held m marks (done a) = passed marks
trail held m marks (refuse x) = passed marks
trail held m marks (ask q f) = by_word (walk held m marks (ask q done)) λ marks₁ w. trail held m marks₁ (f w)

-- the answer of a function that marks, with the marks
abbrev pub trailed : Result (Unit {0}) Fault → List ℕ → Trail
trailed (Ok tt) marks = passed marks
trailed (Err x) marks = faulted x

-- a function marked what a reading asks for, and nothing else changed
pub record Trails {A : Type 0} (r : Result (Unit {0}) Fault) (old new : Marked) (held : ℕ) (p : Reading A) : Type 0 where
  pub kept : Kept old new
  pub marked : trailed r new.marks.now ≡ trail held old.mem.now old.marks.now p

-- the role of word i of a block, Other past those told
abbrev pub role_at : List Role → ℕ → Role
role_at [] i = Other
role_at (r ∷ rs) zero = r
role_at (r ∷ rs) (suc i) = role_at rs i

-- the mark of word i where pointers stand before word `end`: their words are marked 1 and 2 in turn
abbrev pub pointer_mark : (i end : ℕ) → ℕ
pointer_mark i end = when ltb i end then i % 2 + 1 else 3

-- the mark of word i of a block of a shape
unfoldable pub mark_at : Shape → ℕ → ℕ
mark_at Plain i = 3
mark_at OnePointer i = pointer_mark i 2
mark_at TwoPointers i = pointer_mark i 4
mark_at Segments i = pointer_mark (i % 5) 4

-- the roles are those of a shape
abbrev pub Shaped : Shape → ℕ → List Role → Type 0
Shaped shape count rs = (i : ℕ) → i < count → mark (role_at rs i) ≡ mark_at shape i

-- a drawing's walk without its cells, which no reading asks for
abbrev pub pen_of : Walked Drawing → Walked Pen
pen_of (went marks d) = went marks d.pen
pen_of (halted x) = halted x

abbrev pub pen_walked : Result Pen Fault → List ℕ → Walked Pen
pen_walked (Ok p) marks = went marks p
pen_walked (Err x) marks = halted x

-- a function walked what is drawn from a pen on, whatever the cells so far; no register holds a pointer that it uses
abbrev pub Follows : Result Pen Fault → (old new : Marked) → Pen → (Drawing → Reading Drawing) → Type 0
Follows r old new p k = (cs : List ℕ) → pen_walked r new.marks.now ≡ pen_of (walk 0 old.mem.now old.marks.now (k (drawing p cs)))

-- .. and came up to a column at most
abbrev pub UpTo : ℕ → Result Pen Fault → Type 0
UpTo end (Ok p) = p.column ≤ end
UpTo end (Err x) = Unit

-- the segments of a block
abbrev pub segments_in : Bool → RowSegments → List Segment
segments_in linear g = segments_of linear g.count g.words.now

-- the window on a row has its columns within the row
abbrev pub Narrow : Option OverlayHead → Type 0
Narrow None = Unit
Narrow (Some o) = (o.first ≤ 132) × (o.end ≤ 132)
