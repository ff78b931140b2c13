-- Document 01, "A row, left to right": the codes of a segment, each with its attribute, and the characters that they become.
use Rattle.std.specs.Prelude.{ℕ, zero, suc, ◌+◌, Bool, true, false, ◌&&◌, ◌||◌, not, List, [], ◌∷◌, ◌++◌, take, replicate, ltb}
use Rattle.memory.specs.Word.{when◌then◌else◌, high, low}
use Rattle.memory.specs.Reading.{Reading, done, word, ◌>>=◌, each}
use Rattle.memory.specs.declared.Pointer.{Pointer}
use Rattle.memory.specs.Address.{nothing, null, onward}
use Rattle.codes.specs.declared.CodeSettings.{CodeSettings}
use Rattle.codes.specs.declared.Source.{Source}
use Rattle.codes.specs.declared.AttributeList.{AttributeList}
use Rattle.codes.specs.declared.Pen.{Pen}
use Rattle.codes.specs.Attribute.{invokes, latches, ignores, cell}

-- a row in the making: where drawing stands, and the cells so far
pub record Drawing : Type 0 where
  pub pen : Pen
  pub cells : List ℕ

abbrev pub drawing : Pen → List ℕ → Drawing
drawing p cs = record { pen = p; cells = cs }

-- a list from an attribute pointer on; a null pointer is no list
abbrev pub list_at : Pointer → AttributeList
list_at p = record { present = not (null p); next = p }

abbrev pub no_list : AttributeList
no_list = list_at nothing

-- no cell yet, no list in use, and no word has become the latch
abbrev pub blank : ℕ → Drawing
blank latch = drawing (record { column = 0; latch = latch; latched = false; list = no_list }) []

-- the pen with another list in use, and at another column
abbrev pub using_list : AttributeList → Pen → Pen
using_list l p = record { column = p.column; latch = p.latch; latched = p.latched; list = l }

abbrev pub moved_to : ℕ → Pen → Pen
moved_to column p = record { column = column; latch = p.latch; latched = p.latched; list = p.list }

abbrev pub with_list : AttributeList → Drawing → Drawing
with_list l d = drawing (using_list l d.pen) d.cells

-- the pen once it has taken the word w of its list: "Bit 15 makes the word the latch"
unfoldable pub taking : Bool → ℕ → Pen → Pen
taking linear w p = record {
  column = p.column;
  latch = when latches w then w else p.latch;
  latched = when latches w then true else p.latched;
  list = record { present = p.list.present; next = onward linear p.list.next };
}

-- n cells of one value more
unfoldable pub put : ℕ → ℕ → Drawing → Drawing
put n value d = drawing (moved_to (d.pen.column + n) d.pen) (d.cells ++ replicate n value)

-- "ignore .. keeps the character out of the row unless DH is set"; "those with no room left are dropped"
unfoldable pub character : Bool → Source → ℕ → ℕ → ℕ → Drawing → Drawing
character hidden source end attribute code d =
    when (hidden || not (ignores attribute)) && ltb d.pen.column end then put 1 (cell source attribute code) d else d

module _ (σ : CodeSettings) where
  -- "A code invokes an attribute when .. its segment's attribute pointer is not null (ours). It takes the next word of that
  -- segment's list. Bit 15 makes the word the latch; otherwise it holds for that character only. A code that invokes none has
  -- the latch."
  unfoldable pub examine : Source → ℕ → ℕ → Drawing → Reading Drawing
  examine source end code d =
      when invokes σ.flag code && d.pen.list.present
      then (word d.pen.list.next >>= λ w. done (character σ.hidden source end w code (drawing (taking σ.linear w d.pen) d.cells)))
      else done (character σ.hidden source end d.pen.latch code d)

  -- the first n of a word's two codes: "high byte of a word first"
  unfoldable pub word_codes : Source → ℕ → ℕ → ℕ → Drawing → Reading Drawing
  word_codes source end n w d = each (examine source end) (take n (high w ∷ low w ∷ [])) d

  -- "All L codes are examined, high byte of a word first, ceil(L/2) words"
  unfoldable pub codes : Source → ℕ → ℕ → Pointer → Drawing → Reading Drawing
  codes source end zero p d = done d
  codes source end (suc zero) p d = do
    w ← word p
    word_codes source end 1 w d
  codes source end (suc (suc n)) p d = do
    w ← word p
    d₁ ← word_codes source end 2 w d
    codes source end n (onward σ.linear p) d₁
