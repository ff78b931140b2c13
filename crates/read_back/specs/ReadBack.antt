-- A state, an effect or a scroll that a call wrote is read back as it was.
use Rattle.std.specs.Prelude.{ℕ, ◌≤◌, ◌<◌, ◌≡◌, List, [], ◌∷◌, get_or, Option, Some, None, Result, Ok, Err}
use Rattle.memory.specs.declared.Refusal.{Refusal}
use Rattle.settings.specs.declared.PointerWords.{PointerWords}
use Rattle.settings.specs.declared.Settings.{Settings}
use Rattle.state.specs.declared.State.{State}
use Rattle.state.specs.State.{state_of}
use Rattle.state.specs.declared.Fields.{Fields}
use Rattle.listed.specs.Listed.{start_listed, row_listed}
use Rattle.scroll.specs.declared.Scroll.{Scroll}
use Rattle.scroll.specs.Scroll.{shift_call}
use Rattle.shifts.specs.AfterShift.{scroll_numbers, scroll_of, after_shift}
use Rattle.joining.specs.declared.Effect.{Effect}
use Rattle.joining.specs.Join.{empty, join}
use Rattle.start.specs.declared.Started.{Started}
use Rattle.effect.specs.Effect.{effect_call}
use Rattle.numbers.specs.Places.{any}
use Rattle.numbers.specs.Decode.{settings_in, state_in}
use Rattle.numbers.specs.Encode.{state_numbers}
use Rattle.scroll.specs.declared.FrameShift.{FrameShift}
use Rattle.row.specs.declared.DrawnRow.{DrawnRow}
use Rattle.effects.specs.EffectNumbers.{effect_in, effect_numbers}

-- what the types of lent slices say: 16-bit words, 32-bit numbers
abbrev pub Words : List ℕ → Type 0
Words m = (i : ℕ) → get_or m i 0 < 65536

abbrev pub Numbers : List ℕ → Type 0
Numbers xs = (i : ℕ) → get_or xs i 0 ≤ any

abbrev pub StateBack : State → Type 0
StateBack s = state_in (state_numbers s) ≡ Some s

abbrev pub EffectBack : Effect → Type 0
EffectBack e = effect_in (effect_numbers e) ≡ Some e

-- the state of an accepted start, and of an accepted row
abbrev pub StartBack : Result Started Refusal → Type 0
StartBack (Ok s) = StateBack s.state
StartBack (Err r) = Unit {0}

abbrev pub RowBack : Result DrawnRow Refusal → Type 0
RowBack (Ok d) = StateBack d.next
RowBack (Err r) = Unit {0}

-- the fields that an effect comes with, with any latch
abbrev pub FieldsBack : Option Fields → Type 0
FieldsBack (Some f) = (latch : ℕ) → latch < 65536 → StateBack (state_of latch f)
FieldsBack None = Unit {0}

-- the scroll of an accepted shift call
abbrev pub ShiftBack : Result FrameShift Refusal → Type 0
ShiftBack (Ok s) = scroll_of (scroll_numbers s.scroll) ≡ s.scroll
ShiftBack (Err r) = Unit {0}

-- on the settings and on a state that slices of numbers have, and a memory
module _ (m : List ℕ) where
  -- effects of rows of such states, and these joined
  pub data Made : Effect → Type 0 where
    none : Made empty
    made : (settings state : List ℕ) {σ : Settings} {s : State} → Numbers state → settings_in settings ≡ Some σ
        → state_in state ≡ Some s → Made (effect_call σ m s.fields).effect
    joined : {d e : Effect} → Made d → Made e → Made (join d e)

  pub record ReadBack : Type 0 where
    pub start : (latch : ℕ) (settings list : List ℕ) {σ : Settings} → latch < 65536 → settings_in settings ≡ Some σ
        → StartBack (start_listed latch σ m list).answer
    pub row : (state buffer list : List ℕ) (σ : Settings) {s : State} → Numbers state → state_in state ≡ Some s
        → RowBack (row_listed σ m s buffer list).answer
    pub fields : (state : List ℕ) (σ : Settings) {s : State} → Numbers state → state_in state ≡ Some s
        → FieldsBack (effect_call σ m s.fields).next
    pub effect : {e : Effect} → Made e → EffectBack e
    pub shift : (σ : Settings) (soft : PointerWords) (last : Scroll) → ShiftBack (shift_call σ m soft last)

-- ---- shift calls in a row ----

-- what one of them is lent, besides the scroll and its answer
pub record Shifting : Type 0 where
  pub settings : Settings
  pub memory : List ℕ
  pub words : Words memory
  pub soft : PointerWords

-- each from the last ones: a refused call changes nothing
abbrev pub scroll_after : Scroll → Result FrameShift Refusal → Scroll
scroll_after last (Ok s) = s.scroll
scroll_after last (Err r) = last

unfoldable pub in_row : List Shifting → Scroll → List (Result FrameShift Refusal)
in_row [] last = []
in_row (c ∷ cs) last =
    let a : (Result FrameShift Refusal) = shift_call c.settings c.memory c.soft last in
    a ∷ in_row cs (scroll_after last a)

-- .. and each from the three numbers that the one before left, as `thagaduvin_shift` reads and leaves them
unfoldable pub in_row_by_numbers : List Shifting → List ℕ → List (Result FrameShift Refusal)
in_row_by_numbers [] ns = []
in_row_by_numbers (c ∷ cs) ns =
    let a : (Result FrameShift Refusal) = shift_call c.settings c.memory c.soft (scroll_of ns) in
    a ∷ in_row_by_numbers cs (after_shift ns [] a).state

abbrev pub SameInRow : Type 0
SameInRow = (cs : List Shifting) (ns : List ℕ) → in_row_by_numbers cs ns ≡ in_row cs (scroll_of ns)
