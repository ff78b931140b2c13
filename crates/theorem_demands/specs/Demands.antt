-- The user's three demands, in the user's words and order, of the seventeen calls in C that a console runs. Each call is a definition over the
-- slices of numbers that it is lent, of any counts and with any numbers, and the exported function equals it. A slice that the definition does
-- not give back is lent to be read, and stays.
use Rattle.std.specs.Prelude.{ℕ, ◌/◌, ◌<◌, ◌≤◌, ◌≡◌, true, List, [], ◌∷◌, ℤ, pos, length, drop, Option, Some}
use Rattle.std.specs.Int.Signed.{lt_z}
use Rattle.memory.specs.Word.{when◌then◌else◌, at}
use Rattle.memory.specs.Reading.{given, run, asked}
use Rattle.settings.specs.declared.PointerWords.{PointerWords}
use Rattle.settings.specs.declared.Settings.{Settings}
use Rattle.settings.specs.declared.Field.TheVariants.{Even, Odd}
use Rattle.settings.specs.Timing.{timing, lines_for_rows, clocks, invoking_codes}
use Rattle.windows.specs.declared.Window.{Window}
use Rattle.state.specs.declared.State.{State}
use Rattle.plan.specs.Plan.{Plan, plan}
use Rattle.codes.specs.Attribute.{ignores, source_of, window_number_of}
use Rattle.codes.specs.Codes.{Drawing, blank}
use Rattle.cells.specs.Cells.{row_cells}
use Rattle.row.specs.Row.{code_settings, row, with_cursor}
use Rattle.bus.specs.declared.BusRow.{BusRow}
use Rattle.bus.specs.Numbers.{Called}
use Rattle.writer.specs.declared.Span.{Span}
use Rattle.mail_answers.specs.AfterMail.{Lent}
use Rattle.numbers.specs.Decode.{settings_at, state_at, is_state}
use Rattle.answers.specs.AnswerNumbers.{sheet_numbers}
use Rattle.answers.specs.AfterCall.{Answered, answered, Stated}
use Rattle.answers.specs.Changing.{Left}
use Rattle.listed_answers.specs.AfterListed.{StatedListed, DrawnListed}
use Rattle.shifts.specs.AfterShift.{BesideDone}
use Rattle.thagaduvin.specs.Calls.{host_sheet, host_start, host_row, host_latch}
use Rattle.thagaduvin.specs.MailCalls.{host_write_mail, host_read_mail}
use Rattle.thagaduvin.specs.BusCalls.{host_bus}
use Rattle.thagaduvin.specs.WriterCalls.{WordWritten, host_write_word}
use Rattle.thagaduvin_effect.specs.EffectCalls.{host_effect, host_join, host_apply}
use Rattle.panel.specs.Shown.{Layer}
use Rattle.thagaduvin_scroll.specs.ScrollCalls.{host_shift, host_beside}
use Rattle.thagaduvin_scroll.specs.PanelCalls.{host_line, host_shown}
use Rattle.thagaduvin_mend.specs.MendCalls.{host_mend}
use Rattle.thagaduvin_convert.specs.ConvertCalls.{host_convert}
use Rattle.refusals.specs.Refusals as Refusals
use Rattle.refusals.specs.Refusals.{has}
use Rattle.read_back.specs.ReadBack.{Words, Numbers}
use Rattle.calls_alone.specs.DemandCalls.{Call, no_effect, in_turn, drawn_alone}

-- ---- 1. "Hand it settings, memory and a row buffer in any condition and it ends, reading nothing outside what was lent." That each call ends
-- and reads nothing else is what the prover shows of every function, for any slices. "Bad input is refused with a number, a row and an address.
-- A refused call leaves the row buffer and the state exactly as they were." ----

-- what a call comes to: its status, and what then stands in its answer and in all other slices that it may write
pub record Done : Type 0 where
  pub status : ℕ
  pub others : List (List ℕ)
  pub answer : List ℕ

abbrev pub done : ℕ → List (List ℕ) → List ℕ → Done
done status others answer = record { status = status; others = others; answer = answer }

abbrev pub of_answer : Answered → Done
of_answer x = done x.status [] x.answer

abbrev pub of_state : Stated → Done
of_state x = done x.status (x.state ∷ []) x.answer

abbrev pub of_start : StatedListed → Done
of_start x = done x.status (x.state ∷ x.list ∷ []) x.answer

abbrev pub of_row : DrawnListed → Done
of_row x = done x.status (x.state ∷ x.cells ∷ x.list ∷ []) x.answer

abbrev pub of_beside : BesideDone → Done
of_beside x = done x.status (x.cells ∷ x.list ∷ []) x.answer

abbrev pub of_text : Lent → Done
of_text x = done x.status (x.buffer ∷ []) x.answer

abbrev pub of_bus : Called → Done
of_bus x = done x.status (x.totals ∷ []) x.answer

abbrev pub of_word : WordWritten → Done
of_word x = done x.status (x.memory ∷ []) []

abbrev pub of_change : Left → Done
of_change x = done x.status (x.settings ∷ x.memory ∷ []) x.answer

-- status 0 is an accepted call, 255 one whose slices are none, any other a refusal's number
abbrev pub Refused : Done → Type 0
Refused d = (d.status ≡ 0 → ⊥) × (d.status ≡ 255 → ⊥)

-- a call with these numbers, lent these slices and this answer
pub record Kept (numbers : List ℕ) (others : List (List ℕ)) (answer : List ℕ) (d : Done) : Type 0 where
  -- "refused with a number"
  pub number : has d.status (0 ∷ 255 ∷ numbers) ≡ true
  -- 255 writes nothing
  pub nothing : d.status ≡ 255 → (d.others ≡ others) × (d.answer ≡ answer)
  -- "A refused call leaves the row buffer and the state exactly as they were", and every other slice but the answer
  pub stays : Refused d → d.others ≡ others

-- .. whose answer begins with "a row and an address", and where the pointer of a refusal 7 begins: the places after these three stay
abbrev pub after_three : List ℕ → List ℕ
after_three answer = drop 3 answer

pub record Tells (row : ℕ) (numbers : List ℕ) (others : List (List ℕ)) (answer : List ℕ) (d : Done) : Type 0 where
  pub kept : Kept numbers others answer d
  pub told : Refused d → at d.answer 0 ≡ row
  pub rest : Refused d → after_three d.answer ≡ after_three answer

-- .. whose refusal writes nothing at all
pub record Silent (numbers : List ℕ) (others : List (List ℕ)) (answer : List ℕ) (d : Done) : Type 0 where
  pub kept : Kept numbers others answer d
  pub same : Refused d → d.answer ≡ answer

-- refusal 7, "word outside memory": the address told is outside. "the word at byte address a is number a/2" (01)
abbrev pub Outside : List ℕ → (number address : ℕ) → Type 0
Outside m number address = number ≡ 7 → length m ≤ address / 2

-- the addresses of the words read, which stand first in an accepted call's list, are inside
abbrev pub Inside : List ℕ → (words : ℕ) → (list : List ℕ) → Type 0
Inside m words list = (i : ℕ) → i < words → at list i / 2 < length m

pub record Demand1 : Type 0 where
  -- the seventeen calls
  pub sheet : (settings answer : List ℕ) → Tells 0 Refusals.sheet_numbers [] answer (of_answer (host_sheet settings answer))
  pub start : (settings m : List ℕ) (latch : ℕ) (state list answer : List ℕ)
      → Tells 0 Refusals.start_listed_numbers (state ∷ list ∷ []) answer (of_start (host_start settings m latch state list answer))
  -- a state's row is its number 1
  pub row : (settings m state cells list answer : List ℕ)
      → Tells (at state 1) Refusals.row_listed_numbers (state ∷ cells ∷ list ∷ []) answer (of_row (host_row settings m state cells list answer))
  pub latch : (latch : ℕ) (state answer : List ℕ) → Kept [] [] answer (of_answer (host_latch latch state answer))
  pub effect : (settings m state effect : List ℕ) → Kept [] (state ∷ []) effect (of_state (host_effect settings m state effect))
  pub join : (first second joined : List ℕ) → Kept [] [] joined (of_answer (host_join first second joined))
  -- the refusal of an effect's part, which has its row
  pub apply : (effect : List ℕ) (latch : ℕ) (answer : List ℕ)
      → Tells (at effect (when ignores latch then 7 else 1)) Refusals.effect_numbers [] answer (of_answer (host_apply effect latch answer))
  pub shift : (settings m : List ℕ) (soft : PointerWords) (scroll answer : List ℕ)
      → Tells 0 Refusals.shift_numbers (scroll ∷ []) answer (of_state (host_shift settings m soft scroll answer))
  pub beside : (settings m : List ℕ) (shift : ℤ) (soft : PointerWords) (latch : ℕ) (state cells list answer : List ℕ)
      → Tells (when lt_z (pos 0) shift then at state 1 else 0) Refusals.beside_numbers (cells ∷ list ∷ []) answer
      (of_beside (host_beside settings m shift soft latch state cells list answer))
  -- a line and its cells read no memory: a line is accepted or 255, its cells accepted or 1
  pub line : (shift : ℤ) (above : ℕ) (heights : List ℕ) (rows y : ℕ) (answer : List ℕ)
      → Silent [] [] answer (of_answer (host_line shift above heights rows y answer))
  pub shown : (still background : Layer) (behind cells : List ℕ) → Silent (1 ∷ []) [] cells (of_answer (host_shown still background behind cells))
  -- on a memory of 16-bit words, which a lent one has
  pub mend : (settings m : List ℕ) (latch : ℕ) (answer : List ℕ) → Words m
      → Tells 0 Refusals.mend_numbers (settings ∷ m ∷ []) answer (of_change (host_mend settings m latch answer))
  -- a conversion's marks may change too; the one place of its answer after the three is 0
  pub convert : (settings m : List ℕ) (marks latch : ℕ) (answer : List ℕ)
      → Kept Refusals.convert_numbers (settings ∷ m ∷ []) answer (of_change (host_convert settings m marks latch answer))
  pub write_mail : (settings cells text answer : List ℕ)
      → Silent Refusals.write_mail_numbers (text ∷ []) answer (of_text (host_write_mail settings cells text answer))
  -- 24 tells an offset in its answer of one place
  pub read_mail : (text cells answer : List ℕ) → Kept Refusals.read_mail_numbers (cells ∷ []) answer (of_text (host_read_mail text cells answer))
  pub bus : (h : BusRow) (totals answer : List ℕ) → Silent Refusals.bus_numbers (totals ∷ []) answer (of_bus (host_bus h totals answer))
  pub write_word : (m : List ℕ) (own other : Span) (address word : ℕ)
      → Silent Refusals.writer_numbers (m ∷ []) [] (of_word (host_write_word m own other address word))
  -- "reading nothing outside what was lent": what was read, an accepted call's list says; what was not there, a refusal 7
  pub start_read : (settings m : List ℕ) (latch : ℕ) (state list answer : List ℕ) → (host_start settings m latch state list answer).status ≡ 0
      → Inside m (at (host_start settings m latch state list answer).answer 3) (host_start settings m latch state list answer).list
  pub row_read : (settings m state cells list answer : List ℕ) → (host_row settings m state cells list answer).status ≡ 0
      → Inside m (at (host_row settings m state cells list answer).answer 7) (host_row settings m state cells list answer).list
  pub beside_read : (settings m : List ℕ) (shift : ℤ) (soft : PointerWords) (latch : ℕ) (state cells list answer : List ℕ)
      → (host_beside settings m shift soft latch state cells list answer).status ≡ 0
      → Inside m (at (host_beside settings m shift soft latch state cells list answer).answer 7)
      (host_beside settings m shift soft latch state cells list answer).list
  pub start_missed : (settings m : List ℕ) (latch : ℕ) (state list answer : List ℕ)
      → Outside m (host_start settings m latch state list answer).status (at (host_start settings m latch state list answer).answer 1)
  pub row_missed : (settings m state cells list answer : List ℕ)
      → Outside m (host_row settings m state cells list answer).status (at (host_row settings m state cells list answer).answer 1)
  pub beside_missed : (settings m : List ℕ) (shift : ℤ) (soft : PointerWords) (latch : ℕ) (state cells list answer : List ℕ)
      → Outside m (host_beside settings m shift soft latch state cells list answer).status
      (at (host_beside settings m shift soft latch state cells list answer).answer 1)
  -- an effect has a part for ignore clear and one for ignore set, each with the number and the address of its refusal
  pub effect_missed : (settings m state effect : List ℕ) → (host_effect settings m state effect).status ≡ 0
      → Outside m (at (host_effect settings m state effect).answer 0) (at (host_effect settings m state effect).answer 2)
      × Outside m (at (host_effect settings m state effect).answer 6) (at (host_effect settings m state effect).answer 8)
  pub shift_missed : (settings m : List ℕ) (soft : PointerWords) (scroll answer : List ℕ)
      → Outside m (host_shift settings m soft scroll answer).status (at (host_shift settings m soft scroll answer).answer 1)
  pub mend_missed : (settings m : List ℕ) (latch : ℕ) (answer : List ℕ) → Words m
      → Outside m (host_mend settings m latch answer).status (at (host_mend settings m latch answer).answer 1)
  pub convert_missed : (settings m : List ℕ) (marks latch : ℕ) (answer : List ℕ)
      → Outside m (host_convert settings m marks latch answer).status (at (host_convert settings m marks latch answer).answer 1)

-- ---- 2. "Every cell of an accepted row is the one the Am8052 manual's rules give, as document 01 fixes them: code, attributes, cursor, and its
-- one source among window, background and fill. The sync and blanking counts are the manual's too, and the count of words read is the count
-- the rules make." ----

-- a cell's "one source": 0 is fill, 1 background, 2 the window in hand on this row, whose number the cell has; others have 0 there
pub record OneSource (row : ℕ) (in_hand : Option Window) (cell : ℕ) : Type 0 where
  pub among : source_of cell ≤ 2
  pub window : source_of cell ≡ 2
      → (w : Window) × (in_hand ≡ Some w) × (window_number_of cell ≡ w.block.number) × (w.block.top ≤ row) × (row ≤ w.block.bottom)
  pub elsewhere : (source_of cell ≡ 2 → ⊥) → window_number_of cell ≡ 0

-- an accepted row, by the settings and the state that its slices hold
pub record ByRules (σ : Settings) (m : List ℕ) (s : State) (x : DrawnListed) : Type 0 where
  -- the plan that the rules give: its segments, and the window over them
  pub rules : Plan
  pub block_words : ℕ
  pub planned : run m (plan σ s.fields) ≡ given block_words rules
  -- "code, attributes": the rules' cells on that plan, from the latch on
  pub drawing : Drawing
  pub cell_words : ℕ
  pub drawn : run m (row_cells (code_settings σ) s.fields.fill rules.overlay rules.segments (blank s.latch)) ≡ given cell_words drawing
  -- "cursor": its bit in the one cell that has it
  pub cells : x.cells ≡ with_cursor σ s.fields drawing.cells
  pub size : length x.cells ≡ 132
  pub source : (i : ℕ) → i < 132 → OneSource s.fields.row rules.next.window (at x.cells i)
  -- "the count of words read is the count the rules make": one for each word that they ask for, "fewer than 12,000" (01)
  pub words : at x.answer 7 ≡ length (asked m (row σ s))
  pub few : at x.answer 7 < 12000

pub record Demand2 : Type 0 where
  -- on a memory of 16-bit words, which a lent one has
  pub row : (settings m state cells list answer : List ℕ) → Words m → (host_row settings m state cells list answer).status ≡ 0
      → ByRules (settings_at settings) m (state_at state) (host_row settings m state cells list answer)
  -- "The sync and blanking counts"
  pub sheet : (settings answer : List ℕ) → (host_sheet settings answer).status ≡ 0 → (host_sheet settings answer).answer ≡ sheet_numbers (record {
    even = timing (settings_at settings) Even;
    odd = timing (settings_at settings) Odd;
    lines = lines_for_rows (settings_at settings);
    clocks = clocks (settings_at settings);
    invoking = invoking_codes (settings_at settings).flag;
  })

-- ---- 3. "A row can be drawn alone. .. Whatever rows they come from, these effects can be joined in any grouping with the same outcome, and an
-- empty one changes nothing. Take any list of row calls, refused ones included, with any row buffers, from a start's state or any other. .." ----

-- twelve numbers that the calls on effects take
abbrev pub IsEffect : List ℕ → Type 0
IsEffect e = (host_join no_effect e no_effect).status ≡ 0

-- a slice that two effects are joined in
abbrev pub Room : List ℕ → Type 0
Room joined = length joined ≡ 12

pub record Demand3 : Type 0 where
  -- On settings' 18 numbers, a memory of 16-bit words and a state's 32-bit numbers: what the row calls give, "each goes on from the state that
  -- the last one gave or left" (`in_turn`), is what each gives by the joined effects of the rows above it, applied to "the attribute that the
  -- list began with", the state's number 0: "this same first refusal", or "the row drawn alone from the attribute they give" (`drawn_alone`)
  pub alone : (settings m state : List ℕ) → length settings ≡ 18 → Words m → Numbers state → is_state state ≡ true → (calls : List Call)
      → in_turn settings m state calls ≡ drawn_alone settings m (at state 0) state no_effect calls
  -- "joined in any grouping with the same outcome"
  pub grouping : (a b c : List ℕ) → IsEffect a → IsEffect b → IsEffect c → (p q r s : List ℕ) → Room p → Room q → Room r → Room s
      → host_join (host_join a b p).answer c q ≡ host_join a (host_join b c r).answer s
  -- "an empty one changes nothing", on either side
  pub empty_first : (e : List ℕ) → IsEffect e → (p : List ℕ) → Room p → host_join no_effect e p ≡ answered 0 e
  pub empty_last : (e : List ℕ) → IsEffect e → (p : List ℕ) → Room p → host_join e no_effect p ≡ answered 0 e

-- all three
pub record Demands : Type 0 where
  pub first : Demand1
  pub second : Demand2
  pub third : Demand3
