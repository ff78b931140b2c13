-- A call's answer with a number of its list gives a status of that list.
use Rattle.std.proofs.Common.{Result, Ok, Err, Option, Some, None}
use mathlib.Core.Path.{◌≡◌, refl}
use mathlib.Core.Bool.{true}
use mathlib.Core.List.{List, [], ◌∷◌}
use Prim.Native.Nat.{ℕ}
use Rattle.memory.proofs.ReadBounds.{both}
use Rattle.memory.specs.declared.Refusal.{Refusal}
use Rattle.settings.specs.declared.Sheet.{Sheet}
use Rattle.bus.specs.declared.Totals.{Totals}
use Rattle.bus.specs.Numbers.{after_answer}
use Rattle.bus.specs.declared.Figures.{Figures}
use Rattle.mail_answers.specs.AfterMail.{write_numbers, read_numbers}
use Rattle.writer.specs.Writer.{status}
use Rattle.start.specs.declared.Started.{Started}
use Rattle.scroll.specs.declared.FrameShift.{FrameShift}
use Rattle.row.specs.declared.DrawnRow.{DrawnRow}
use Rattle.beside.specs.declared.BesideRow.{BesideRow}
use Rattle.answers.specs.AfterCall.{after_sheet, after_start, row_answered}
use Rattle.shifts.specs.AfterShift.{after_shift, beside_answered}
use Rattle.mending.specs.declared.MendAnswer.{MendAnswer}
use Rattle.mending.specs.declared.MendAnswer.TheVariants as Mend
use Rattle.converter.specs.declared.Conversion.{Conversion}
use Rattle.thagaduvin_mend.specs.MendCalls as Mending
use Rattle.thagaduvin_convert.specs.ConvertCalls as Converting
use Rattle.refusals.specs.Refusals.{of_sheet, of_start, of_shift, of_row, of_beside, of_mend, of_convert, of_write, of_bus, of_written, of_read, has, within}
use Rattle.refusals.proofs.Told.{more-told}
use Rattle.statuses.specs.Statuses.{Status}

module _ (ns : List ℕ) where
  pub one : (n : ℕ) → within (n ∷ []) ns ≡ true → Status ns n
  one n h = more-told 0 (255 ∷ ns) n (more-told 255 ns n (both (has n ns) true h).0)

  pub of-sheet : (answer : List ℕ) (a : Result Sheet Refusal) → within (of_sheet a) ns ≡ true → Status ns (after_sheet answer a).status
  of-sheet answer (Ok s) h = refl
  of-sheet answer (Err r) h = one r.number h

  pub of-start : (state answer : List ℕ) (a : Result Started Refusal) → within (of_start a) ns ≡ true → Status ns (after_start state answer a).status
  of-start state answer (Ok s) h = refl
  of-start state answer (Err r) h = one r.number h

  pub of_row_lem : (state answer cells : List ℕ) (a : Result DrawnRow Refusal) → within (of_row a) ns ≡ true → Status ns (row_answered state answer cells a).status
  of_row_lem state answer cells (Ok d) h = refl
  of_row_lem state answer cells (Err r) h = one r.number h

  pub of-bus : (totals answer : List ℕ) (t : Totals) (a : Result Figures Refusal) → within (of_bus a) ns ≡ true → Status ns (after_answer totals answer t a).status
  of-bus totals answer t (Ok f) h = refl
  of-bus totals answer t (Err r) h = one r.number h

  pub of-written : (answer text : List ℕ) (a : Result ℕ Refusal) → within (of_written a) ns ≡ true → Status ns (write_numbers answer text a).status
  of-written answer text (Ok n) h = refl
  of-written answer text (Err r) h = one r.number h

  pub of-read : (answer cells : List ℕ) (a : Result ℕ Refusal) → within (of_read a) ns ≡ true → Status ns (read_numbers answer cells a).status
  of-read answer cells (Ok n) h = refl
  of-read answer cells (Err r) h = one r.number h

  pub of-write : (a : Result (Unit {0}) Refusal) → within (of_write a) ns ≡ true → Status ns (status a)
  of-write (Ok tt) h = refl
  of-write (Err r) h = one r.number h

  pub of_shift_lem : (scroll answer : List ℕ) (a : Result FrameShift Refusal) → within (of_shift a) ns ≡ true → Status ns (after_shift scroll answer a).status
  of_shift_lem scroll answer (Ok s) h = refl
  of_shift_lem scroll answer (Err r) h = one r.number h

  pub of-beside : (cells list answer : List ℕ) (a : Result (Option BesideRow) Refusal) → within (of_beside a) ns ≡ true → Status ns (beside_answered cells list answer a).status
  of-beside cells list answer (Ok None) h = refl
  of-beside cells list answer (Ok (Some d)) h = refl
  of-beside cells list answer (Err r) h = one r.number h

  pub of-mend : (settings answer m : List ℕ) (a : MendAnswer) → within (of_mend a) ns ≡ true → Status ns (Mending.by_answer settings answer m a).status
  of-mend settings answer m Mend.Whole h = refl
  of-mend settings answer m (Mend.Changed c σ) h = refl
  of-mend settings answer m (Mend.Refused r) h = one r.number h

  pub of-convert : (settings m : List ℕ) (a : Result Conversion Refusal) → within (of_convert a) ns ≡ true → Status ns (Converting.by_answer settings m a).status
  of-convert settings m (Ok c) h = refl
  of-convert settings m (Err r) h = one r.number h
