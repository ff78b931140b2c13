-- Codes whose words stand one after the other in memory: what the loops over them make, in the words of `Codes`. No rules of their own.
use Rattle.std.specs.Prelude.{ℕ, zero, suc, ◌+◌, Bool, true, ◌||◌, not, List, [], ◌∷◌}
use Rattle.memory.specs.Word.{when◌then◌else◌, high, low}
use Rattle.memory.specs.declared.Pointer.{Pointer}
use Rattle.memory.specs.Address.{further}
use Rattle.codes.specs.declared.CodeSettings.{CodeSettings}
use Rattle.codes.specs.declared.Source.{Source}
use Rattle.codes.specs.declared.Pen.{Pen}
use Rattle.runs.specs.declared.with_list.InForce.{InForce}
use Rattle.runs.specs.declared.with_list.Cursor.{Cursor}
use Rattle.codes.specs.Attribute.{invokes, latches, ignores, cell}
use Rattle.codes.specs.Codes.{Drawing, drawing, taking, character}

-- the first n codes of words, the high byte of a word first
unfoldable pub codes_in : List ℕ → ℕ → List ℕ
codes_in ws zero = []
codes_in [] (suc n) = []
codes_in (w ∷ ws) (suc zero) = high w ∷ []
codes_in (w ∷ ws) (suc (suc n)) = high w ∷ low w ∷ codes_in ws n

-- characters one after the other that have the same attribute
unfoldable pub characters : Bool → Source → ℕ → ℕ → List ℕ → Drawing → Drawing
characters hidden source end attribute [] d = d
characters hidden source end attribute (c ∷ cs) d =
    characters hidden source end attribute cs (character hidden source end attribute c d)

-- one code of a segment with a list whose next word is w
unfoldable pub examined : CodeSettings → Source → ℕ → ℕ → ℕ → Drawing → Drawing
examined σ source end w code d =
    when invokes σ.flag code
    then character σ.hidden source end w code (drawing (taking σ.linear w d.pen) d.cells)
    else character σ.hidden source end d.pen.latch code d

-- what an attribute makes of a character: its cell's bits but the code's, and the column that it stands before
abbrev pub in_force : Bool → Source → ℕ → ℕ → InForce
in_force hidden source end attribute =
    record { bits = cell source attribute 0; limit = when hidden || not (ignores attribute) then end else 0 }

-- where drawing stands in a segment: at its begin, and once a word of its list is taken
abbrev pub cursor_of : Bool → Source → ℕ → Pen → Cursor
cursor_of hidden source end p = record {
  column = p.column;
  latch = p.latch;
  latched = p.latched;
  taken = 0;
  attribute = in_force hidden source end p.latch;
}

abbrev pub with_word : ℕ → InForce → ℕ → Cursor → Cursor
with_word w own column h = record {
  column = column;
  latch = when latches w then w else h.latch;
  latched = when latches w then true else h.latched;
  taken = h.taken + 1;
  attribute = when latches w then own else h.attribute;
}

-- the pen of a cursor, whose list begins at a pointer
abbrev pub pen_of : Bool → Pointer → Cursor → Pen
pen_of linear list h = record {
  column = h.column;
  latch = h.latch;
  latched = h.latched;
  list = record { present = true; next = further linear h.taken list };
}
