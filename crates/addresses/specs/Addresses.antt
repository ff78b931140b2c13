-- The addresses of the words that an accepted start or row reads, in order, told from what it was planned from and from its cells: what the
-- functions of this crate write, no rules of their own. That these are the addresses the definitions ask for is proved (proofs/Asked.antt).
use Rattle.std.specs.Prelude.{ℕ, zero, suc, ◌+◌, ◌-◌, ◌*◌, ◌/◌, ◌%◌, Bool, true, false, ◌&&◌, List, [], ◌∷◌, ◌++◌, length, get_or, ltb, eqb, Option, Some, None}
use Rattle.memory.specs.Word.{when◌then◌else◌, bit, high, low}
use Rattle.memory.specs.declared.Pointer.{Pointer}
use Rattle.memory.specs.Address.{nothing, pointer, null, ahead, onward}
use Rattle.settings.specs.declared.Settings.{Settings}
use Rattle.state.specs.declared.Fields.{Fields}
use Rattle.blocks.specs.declared.FillMode.{FillMode}
use Rattle.blocks.specs.declared.Segment.{Segment}
use Rattle.layout.specs.declared.Side.TheVariants.{Before, After}
use Rattle.layout.specs.Layout.{width, total, Overlay, none, over, segments_on}
use Rattle.codes.specs.declared.CodeSettings.{CodeSettings}
use Rattle.codes.specs.declared.AttributeList.{AttributeList}
use Rattle.codes.specs.Attribute.{invokes, source_of}
use Rattle.codes.specs.Codes.{list_at, no_list}
use Rattle.windows.specs.declared.Window.{Window}
use Rattle.noting.specs.Noting.{in_turn}
use Rattle.cells.specs.Cells.{code_count}
use Rattle.start.specs.Top.{registered}
use Rattle.addresses.specs.declared.Written.{Written}

-- where writing stands after addresses from the place `at` on, with the list in use
abbrev pub written_to : (at : ℕ) → List ℕ → AttributeList → Written
written_to at addresses l = record { at = at + length addresses; list = l }

-- the word at an address; 0 where there is none
abbrev pub word_in : List ℕ → ℕ → ℕ
word_in m a = get_or m (a / 2) 0

-- ---- blocks ----

-- n words from a pointer on; none where it is null
unfoldable pub pointed : Bool → ℕ → Pointer → List ℕ
pointed linear n p = when null p then [] else in_turn linear n p.address

-- the third word of the block at p, and the words of a block with that word
abbrev pub head_word : Bool → List ℕ → Pointer → ℕ
head_word linear m p = word_in m (ahead linear 2 p.address)

abbrev pub block_words : Bool → ℕ → ℕ
block_words redefines w = 3 + (when redefines && bit 15 w then 2 else 0) + 5 * (w % 16)

-- a pointer that stands in memory k words after the address a
abbrev pub pointer_in : Bool → List ℕ → ℕ → ℕ → Pointer
pointer_in linear m k a =
    pointer linear (ahead linear k a) (word_in m (ahead linear k a)) (word_in m (ahead linear (k + 1) a))

-- the redefinition pointer of the row block at p
unfoldable pub redefinition_of : Bool → List ℕ → Pointer → Pointer
redefinition_of linear m p = when null p then nothing else (when bit 15 (head_word linear m p) then pointer_in linear m 3 p.address else nothing)

-- the window block that is due before a row, null where none is
unfoldable pub due_of : ℕ → Option Window → Pointer
due_of row None = nothing
due_of row (Some w) = when ltb w.block.bottom row then w.block.link else nothing

-- the row block of the window in hand
unfoldable pub rows_of : Bool → List ℕ → ℕ → Option Window → Pointer
rows_of linear m row None = nothing
rows_of linear m row (Some w) = when ltb w.block.bottom row then pointer_in linear m 2 w.block.link.address else w.rows

-- .. on a row with a window; null on others
unfoldable pub over_rows : Bool → List ℕ → ℕ → Option Window → Overlay → Pointer
over_rows linear m row w none = nothing
over_rows linear m row w (over number first end ws) = rows_of linear m row w

-- a due window, the row block at `next`, its redefinition, the window's row block
unfoldable pub plan_addresses : Bool → List ℕ → (due next rows : Pointer) → List ℕ
plan_addresses linear m due next rows =
    pointed linear 6 due
    ++ (pointed linear (block_words true (head_word linear m next)) next
    ++ (pointed linear 3 (redefinition_of linear m next) ++ pointed linear (block_words false (head_word linear m rows)) rows))

-- the main block, and the first window's
unfoldable pub start_addresses : Settings → List ℕ
start_addresses σ = pointed σ.linear 7 (registered σ.linear σ.top) ++ pointed σ.linear 6 (registered σ.linear σ.tow)

-- ---- cells ----

-- the next word of the list in use, where it is taken, and the list after it
abbrev pub taken : Bool → AttributeList → List ℕ
taken true l = l.next.address ∷ []
taken false l = []

abbrev pub list_after : Bool → Bool → AttributeList → AttributeList
list_after linear true l = record { present = l.present; next = onward linear l.next }
list_after linear false l = l

module _ (σ : CodeSettings) where
  -- whether a code takes a word
  abbrev pub takes : AttributeList → ℕ → Bool
  takes l code = invokes σ.flag code && l.present

  -- the list after a code, and after the two codes of a word
  abbrev pub code_after : AttributeList → ℕ → AttributeList
  code_after l code = list_after σ.linear (takes l code) l

  abbrev pub pair_after : AttributeList → ℕ → AttributeList
  pair_after l w = code_after (code_after l (high w)) (low w)

  -- a word at the address a with two codes, and the words that they take; a word with one
  abbrev pub pair : ℕ → AttributeList → ℕ → List ℕ
  pair a l w = a ∷ (taken (takes l (high w)) l ++ taken (takes (code_after l (high w)) (low w)) (code_after l (high w)))

  abbrev pub single : ℕ → AttributeList → ℕ → List ℕ
  single a l w = a ∷ taken (takes l (high w)) l

module _ (σ : CodeSettings) (m : List ℕ) where
  -- n codes from a pointer on, and the list after them
  unfoldable pub code_addresses : ℕ → Pointer → AttributeList → List ℕ
  code_addresses zero p l = []
  code_addresses (suc zero) p l = single σ p.address l (word_in m p.address)
  code_addresses (suc (suc n)) p l =
      pair σ p.address l (word_in m p.address) ++ code_addresses n (onward σ.linear p) (pair_after σ l (word_in m p.address))

  unfoldable pub code_list : ℕ → Pointer → AttributeList → AttributeList
  code_list zero p l = l
  code_list (suc zero) p l = code_after σ l (high (word_in m p.address))
  code_list (suc (suc n)) p l = code_list n (onward σ.linear p) (pair_after σ l (word_in m p.address))

-- whether a fill run takes a word
abbrev pub fills : FillMode → AttributeList → Bool → Bool
fills fill l run = fill.flag && l.present && run

-- whether a segment from c to before `end` has a fill run: its last cell is fill
unfoldable pub ends_in_fill : List ℕ → ℕ → ℕ → Bool
ends_in_fill cs c end = ltb c end && eqb (source_of (get_or cs (end - 1) 0)) 0

module _ (σ : CodeSettings) (m : List ℕ) (fill : FillMode) (cs : List ℕ) where
  -- the list in use after a segment's codes, and whether its fill run takes a word
  abbrev pub after_codes : Segment → AttributeList
  after_codes g = code_list σ m (code_count g) g.codes (list_at g.attributes)

  abbrev pub segment_fills : ℕ → Segment → Bool
  segment_fills c g = fills fill (after_codes g) (ends_in_fill cs c (c + width σ.hidden g))

  -- a segment from the column c on
  unfoldable pub segment_addresses : ℕ → Segment → List ℕ
  segment_addresses c g = code_addresses σ m (code_count g) g.codes (list_at g.attributes) ++ taken (segment_fills c g) (after_codes g)

  unfoldable pub segment_list : ℕ → Segment → AttributeList
  segment_list c g = list_after σ.linear (segment_fills c g) (after_codes g)

  -- .. where it is chosen
  abbrev pub chosen_addresses : Bool → ℕ → Segment → List ℕ
  chosen_addresses chosen c g = when chosen then segment_addresses c g else []

  abbrev pub chosen_list : Bool → ℕ → Segment → AttributeList → AttributeList
  chosen_list chosen c g l = when chosen then segment_list c g else l

  -- segments one after the other
  unfoldable pub side_addresses : ℕ → List Segment → List ℕ
  side_addresses c [] = []
  side_addresses c (g ∷ gs) = segment_addresses c g ++ side_addresses (c + width σ.hidden g) gs

  unfoldable pub side_list : ℕ → List Segment → AttributeList → AttributeList
  side_list c [] l = l
  side_list c (g ∷ gs) l = side_list (c + width σ.hidden g) gs (segment_list c g)

  -- .. and the fill run up to a column
  abbrev pub run_fills : ℕ → List Segment → ℕ → AttributeList → Bool
  run_fills c gs end l = fills fill (side_list c gs l) (ltb (c + total σ.hidden gs) end)

  unfoldable pub run_addresses : ℕ → List Segment → ℕ → AttributeList → List ℕ
  run_addresses c gs end l = side_addresses c gs ++ taken (run_fills c gs end l) (side_list c gs l)

  unfoldable pub run_list : ℕ → List Segment → ℕ → AttributeList → AttributeList
  run_list c gs end l = list_after σ.linear (run_fills c gs end l) (side_list c gs l)

  -- the row, from left to right
  unfoldable pub cell_addresses : Overlay → List Segment → List ℕ
  cell_addresses none gs = run_addresses 0 gs 132 no_list
  cell_addresses (over number first end ws) gs =
      let before : List Segment = segments_on (Before first) σ.hidden 0 gs in
      let after : List Segment = segments_on (After first end) σ.hidden 0 gs in
      run_addresses 0 before first no_list
      ++ (run_addresses first ws end no_list ++ run_addresses end after 132 (run_list 0 before first no_list))

-- a row: its blocks, then its cells
unfoldable pub block_addresses : Bool → List ℕ → Fields → Overlay → List ℕ
block_addresses linear m f o = plan_addresses linear m (due_of f.row f.window) f.next (over_rows linear m f.row f.window o)

unfoldable pub row_addresses : CodeSettings → List ℕ → Fields → Overlay → List Segment → List ℕ → List ℕ
row_addresses σ m f o gs cs = block_addresses σ.linear m f o ++ cell_addresses σ m f.fill cs o gs
