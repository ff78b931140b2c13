-- The status of each of a console's seventeen calls: 0 where it is accepted, 255 where it is none, else a number of document 01's and 02's that the call can be
-- refused with.
use Rattle.std.specs.Prelude.{ℕ, ◌<◌, ◌≡◌, true, List, [], ◌∷◌, ℤ, get_or}
use Rattle.settings.specs.declared.PointerWords.{PointerWords}
use Rattle.bus.specs.declared.BusRow.{BusRow}
use Rattle.writer.specs.declared.Span.{Span}
use Rattle.thagaduvin.specs.Calls.{host_sheet, host_start, host_row, host_latch}
use Rattle.thagaduvin_effect.specs.EffectCalls.{host_effect, host_join, host_apply}
use Rattle.thagaduvin.specs.MailCalls.{host_write_mail, host_read_mail}
use Rattle.thagaduvin.specs.BusCalls.{host_bus}
use Rattle.thagaduvin.specs.WriterCalls.{host_write_word}
use Rattle.panel.specs.Shown.{Layer}
use Rattle.thagaduvin_scroll.specs.ScrollCalls.{host_shift, host_beside}
use Rattle.thagaduvin_scroll.specs.PanelCalls.{host_line, host_shown}
use Rattle.thagaduvin_mend.specs.MendCalls.{host_mend}
use Rattle.thagaduvin_convert.specs.ConvertCalls.{host_convert}
use Rattle.refusals.specs.Refusals.{sheet_numbers, start_listed_numbers, row_listed_numbers, effect_numbers, shift_numbers, beside_numbers, mend_numbers, convert_numbers, writer_numbers, bus_numbers, write_mail_numbers, read_mail_numbers, has}

-- a status of a call with these refusals
abbrev pub Status : List ℕ → ℕ → Type 0
Status refusals n = has n (0 ∷ 255 ∷ refusals) ≡ true

-- of any slices
pub record Statuses : Type 0 where
  pub sheet : (settings answer : List ℕ) → Status sheet_numbers (host_sheet settings answer).status
  pub start : (settings m : List ℕ) (latch : ℕ) (state list answer : List ℕ) → Status start_listed_numbers (host_start settings m latch state list answer).status
  pub row : (settings m state cells list answer : List ℕ) → Status row_listed_numbers (host_row settings m state cells list answer).status
  pub latch : (latch : ℕ) (state answer : List ℕ) → Status [] (host_latch latch state answer).status
  -- a refusal of a row is in the effect's parts
  pub effect : (settings m state effect : List ℕ) → Status [] (host_effect settings m state effect).status
  pub join : (first second joined : List ℕ) → Status [] (host_join first second joined).status
  -- .. and is told by the effect applied
  pub apply : (effect : List ℕ) (latch : ℕ) (answer : List ℕ) → Status effect_numbers (host_apply effect latch answer).status
  pub write_mail : (settings cells text answer : List ℕ) → Status write_mail_numbers (host_write_mail settings cells text answer).status
  pub read_mail : (text cells answer : List ℕ) → Status read_mail_numbers (host_read_mail text cells answer).status
  pub bus : (h : BusRow) (totals answer : List ℕ) → Status bus_numbers (host_bus h totals answer).status
  pub write_word : (m : List ℕ) (own other : Span) (address word : ℕ) → Status writer_numbers (host_write_word m own other address word).status
  pub shift : (settings m : List ℕ) (soft : PointerWords) (scroll answer : List ℕ) → Status shift_numbers (host_shift settings m soft scroll answer).status
  pub beside : (settings m : List ℕ) (shift : ℤ) (soft : PointerWords) (latch : ℕ) (state cells list answer : List ℕ)
      → Status beside_numbers (host_beside settings m shift soft latch state cells list answer).status
  pub line : (shift : ℤ) (above : ℕ) (heights : List ℕ) (rows y : ℕ) (answer : List ℕ) → Status [] (host_line shift above heights rows y answer).status
  -- counts of cells are judged by a row's 1
  pub shown : (still background : Layer) (behind cells : List ℕ) → Status (1 ∷ []) (host_shown still background behind cells).status
  -- of 16-bit words, which lent memory has
  pub mend : (settings m : List ℕ) (latch : ℕ) (answer : List ℕ) → ((i : ℕ) → get_or m i 0 < 65536)
      → Status mend_numbers (host_mend settings m latch answer).status
  pub convert : (settings m : List ℕ) (marks latch : ℕ) (answer : List ℕ) → Status convert_numbers (host_convert settings m marks latch answer).status
