-- The same of a bus report and of the calls on a row's text; and an example of each number.
use mathlib.Core.Path.{◌≡◌, refl}
use mathlib.Core.Bool.{Bool, true, false}
use mathlib.Core.List.{List, [], ◌∷◌, ◌++◌}
use Prim.Native.Nat.{ℕ, ◌-◌, ◌^◌}
use native.Mathlib.Omega.{arith}
use lib.ListN.{length, replicate}
use lib.Dec.{eqb, leb}
use borrow.Author.Tests.{lt-leb}
use Rattle.memory.proofs.ReadBounds.{if-cases}
use Rattle.settings.specs.declared.Settings.{Settings}
use Rattle.settings.specs.Good.{good}
use Rattle.bus.specs.declared.BusRow.{BusRow}
use Rattle.bus.specs.declared.Reported.{Reported}
use Rattle.bus.specs.declared.Totals.{Totals}
use Rattle.bus.specs.Bus.{burst_count, bursts, released, none, added, all_fit, reported}
use Rattle.mail.specs.Mail.{sequence, mail_text}
use Rattle.mail.specs.Write.{Mailed, write_mail}
use Rattle.mail_reader.specs.Reader.{Outcome, row, stops, common, tried, next_cell, cells_read, read_row}
use Rattle.mail_reader.specs.Read.{ReadBack, answered, read_mail}
use Rattle.refusals.specs.Refusals.{bus_numbers, write_mail_numbers, read_mail_numbers, of_bus, of_written, of_read, within}

pub bus-told : (t : Totals) (h : BusRow) → within (of_bus (reported t h).answer) bus_numbers ≡ true
unfolding reported
bus-told t h =
    if-cases Told (eqb (burst_count h.burst) 0) (λ _. refl) (λ _. if-cases Told (all_fit (added t h)) (λ _. refl) (λ _. refl))
  where
    Told : Reported → Type 0
    Told x = within (of_bus x.answer) bus_numbers ≡ true

pub write-mail-told : (σ : Settings) (cells buffer : List ℕ) → within (of_written (write_mail σ cells buffer).answer) write_mail_numbers ≡ true
unfolding write_mail
write-mail-told σ cells buffer =
    if-cases Told (eqb (length cells) 132)
    (λ _. if-cases Told (good σ) (λ _. if-cases Told (leb (length (mail_text σ cells)) (length buffer)) (λ _. refl) (λ _. refl)) (λ _. refl))
    (λ _. refl)
  where
    Told : Mailed → Type 0
    Told x = within (of_written x.answer) write_mail_numbers ≡ true

pub read-mail-told : (t buffer : List ℕ) → within (of_read (read_mail t buffer).answer) read_mail_numbers ≡ true
unfolding read_mail
read-mail-told t buffer = by (read_row t)
  where
    Told : ReadBack → Type 0
    Told x = within (of_read x.answer) read_mail_numbers ≡ true

    by : (o : Outcome) → Told (answered buffer o)
    by (row cells) = if-cases Told (leb (length cells) (length buffer)) (λ _. refl) (λ _. refl)
    by (stops i) = refl

-- ---- examples ----

-- a row of one word, with this burst register
abbrev one_word : ℕ → BusRow
one_word burst = record { burst = burst; words = 1; screen = 0; row = 0 }

-- burst count 0; a sum of words that needs 65 bits, whether a row was handed in or none
abbrev full : Bool → Totals
full any = record { words = 2 ^ 64 - 1; bursts = 0; released = 0; largest = 0; screen = 0; row = 0; any = any }

pub reports : (any : Bool)
    → of_bus (reported none (one_word 0x100)).answer ++ of_bus (reported (full any) (one_word 0x101)).answer ≡ bus_numbers
unfolding reported added bursts released none
reports any = refl

-- 131 cells; settings that are not good; no byte of room
pub writes-text : (σ τ : Settings) → good σ ≡ true → good τ ≡ false
    → of_written (write_mail σ (replicate 131 0) []).answer ++ of_written (write_mail τ (replicate 132 0) []).answer
    ++ of_written (write_mail σ (replicate 132 0) []).answer ≡ write_mail_numbers
unfolding write_mail
writes-text σ τ g h = rw (g, h, lt-leb (length (mail_text σ (replicate 132 0))) 0 (omega arith))

-- no text; a row of one `A`, and no room for a cell
pub reads-text : of_read (read_mail [] []).answer
    ++ of_read (read_mail (0x1b ∷ 0x5b ∷ 0x30 ∷ 0x6d ∷ 0x41 ∷ 0x1b ∷ 0x5b ∷ 0x30 ∷ 0x6d ∷ 0x0a ∷ []) []).answer ≡ read_mail_numbers
unfolding read_mail read_row cells_read next_cell tried common sequence
reads-text = refl
