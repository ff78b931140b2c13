-- Document 02 §10, "Over any number of screens": the report over the rows handed in, first to last.
use Rattle.std.specs.Prelude.{ℕ, ◌+◌, ◌<◌, ◌≤◌, ◌≡◌, true, false, List, [], ◌∷◌, Result, Ok, Err}
use Rattle.memory.specs.declared.Refusal.{Refusal}
use Rattle.bus.specs.declared.BusRow.{BusRow}
use Rattle.bus.specs.declared.Totals.{Totals}
use Rattle.bus.specs.Bus.{burst_count, figures, reported}
use Rattle.bus.specs.declared.Figures.{Figures}

-- the totals after the rows
unfoldable pub report : Totals → List BusRow → Totals
report t [] = t
report t (h ∷ hs) = report (reported t h).totals hs

-- the rows that are not refused
abbrev pub counted : Result Figures Refusal → BusRow → List BusRow → List BusRow
counted (Ok f) h hs = h ∷ hs
counted (Err r) h hs = hs

unfoldable pub accepted : Totals → List BusRow → List BusRow
accepted t [] = []
accepted t (h ∷ hs) = counted (reported t h).answer h (accepted (reported t h).totals hs)

-- a figure of each row, summed
unfoldable pub sum : (BusRow → ℕ) → List BusRow → ℕ
sum f [] = 0
sum f (h ∷ hs) = f h + sum f hs

abbrev pub words_of : BusRow → ℕ
words_of h = h.words

abbrev pub bursts_of : BusRow → ℕ
bursts_of h = (figures h).bursts

abbrev pub released_of : BusRow → ℕ
released_of h = (figures h).released

-- rows none of which has more words than n
pub data AtMost (n : ℕ) : List BusRow → Type 0 where
  empty : AtMost n []
  more : {h : BusRow} {hs : List BusRow} → h.words ≤ n → AtMost n hs → AtMost n (h ∷ hs)

-- "the largest word count, the first if several": the rows before it have fewer words, those after it no more
pub data FirstLargest (r : BusRow) : List BusRow → Type 0 where
  here : {hs : List BusRow} → AtMost r.words hs → FirstLargest r (r ∷ hs)
  later : {h : BusRow} {hs : List BusRow} → h.words < r.words → FirstLargest r hs → FirstLargest r (h ∷ hs)

-- totals that tell a row as the largest
pub record Tells (t : Totals) (r : BusRow) : Type 0 where
  pub words : t.largest ≡ r.words
  pub screen : t.screen ≡ r.screen
  pub row : t.row ≡ r.row
  pub any : t.any ≡ true

-- what the totals tell after rows: "the first if several, 0 and 0 while none"
pub data Largest (t : Totals) : List BusRow → Type 0 where
  no_row : t.largest ≡ 0 → t.screen ≡ 0 → t.row ≡ 0 → t.any ≡ false → Largest t []
  of_row : {r : BusRow} {hs : List BusRow} → FirstLargest r hs → Tells t r → Largest t hs

-- rows with a burst count
pub data Counting : List BusRow → Type 0 where
  none_left : Counting []
  counting : {h : BusRow} {hs : List BusRow} → (burst_count h.burst ≡ 0 → ⊥) → Counting hs → Counting (h ∷ hs)
