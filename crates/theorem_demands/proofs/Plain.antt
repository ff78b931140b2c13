-- The calls that read no memory: the sheet, the latch, effects joined and applied, texts, the bus report, the writer call, the lines of the
-- panel and their cells.
use Rattle.std.proofs.Common.{Option, Some, None, Result}
use mathlib.Core.Path.{◌≡◌, refl}
use mathlib.Core.Bool.{Bool, true, false, ◌&&◌}
use mathlib.Core.List.{List, [], ◌∷◌}
use Prim.Native.Nat.{ℕ, ◌≤◌}
use native.Mathlib.Omega.{arith}
use lib.IntN.{ℤ}
use lib.ListN.{length}
use lib.Dec.{eqb, leb}
use Rattle.memory.specs.Word.{when◌then◌else◌, at}
use Rattle.memory.specs.Reading.{refusal, fault}
use Rattle.memory.proofs.ReadBounds.{if-cases}
use Rattle.memory.specs.declared.Refusal.{Refusal}
use Rattle.settings.specs.Good.{good}
use Rattle.settings.specs.Sheet.{sheet_call}
use Rattle.settings.specs.declared.Sheet.{Sheet}
use Rattle.settings.specs.declared.Settings.{Settings}
use Rattle.codes.specs.Attribute.{ignores}
use Rattle.joining.specs.declared.Part.{Part}
use Rattle.joining.specs.declared.Part.TheVariants.{Keep, Set, Refuse}
use Rattle.joining.specs.declared.Effect.{Effect}
use Rattle.joining.specs.Join.{part_for, apply_part}
use Rattle.bus.specs.declared.BusRow.{BusRow}
use Rattle.bus.specs.declared.Reported.{Reported}
use Rattle.bus.specs.Bus.{burst_count, added, all_fit, reported}
use Rattle.bus.specs.Numbers.{totals_at, Called, after_bus}
use Rattle.writer.specs.declared.Span.{Span}
use Rattle.writer.specs.Writer.{share, may_write, Wrote, write_word}
use Rattle.state.specs.declared.State.{State}
use Rattle.mail.specs.Mail.{mail_text}
use Rattle.mail.specs.Write.{Mailed, write_mail}
use Rattle.mail_reader.specs.Reader as Reader
use Rattle.mail_reader.specs.Read.{ReadBack, answered, read_mail}
use Rattle.mail_answers.specs.AfterMail.{Lent, after_write, after_read}
use Rattle.numbers.specs.Decode.{settings_in, state_in, yes}
use Rattle.numbers.specs.Places.{within}
use Rattle.answers.specs.AfterCall.{Answered, after_sheet}
use Rattle.effects.specs.EffectNumbers.{effect_limits, part_at, effect_at, part_written, effect_written, effect_in}
use Rattle.effects.specs.AfterEffect.{after_apply}
use Rattle.thagaduvin.specs.Calls.{sheet_from, host_sheet, latch_from, host_latch}
use Rattle.thagaduvin.specs.MailCalls.{write_from, host_write_mail, host_read_mail}
use Rattle.thagaduvin.specs.BusCalls.{host_bus}
use Rattle.thagaduvin.specs.WriterCalls as Word
use Rattle.thagaduvin_effect.specs.EffectCalls.{join_from, join_with, host_join, apply_from, host_apply}
use Rattle.panel.specs.Shown.{Layer, ShowCalled, sized, show_call}
use Rattle.line_numbers.specs.LineNumbers.{line_asked}
use Rattle.thagaduvin_scroll.specs.PanelCalls.{host_line, shown_answered, host_shown}
use Rattle.refusals.specs.Refusals as Refusals
use Rattle.statuses.proofs.Read.{Listed, BothListed, effect-listed}
use Rattle.theorem_demands.specs.Demands.{of_answer, of_text, of_bus, of_word, Kept, Tells, Silent}
use Rattle.theorem_demands.proofs.Ways.{none_kept, accepted-kept, refused-kept, none-silent, accepted-silent, refused-silent, none-tells, accepted-tells, refused-tells}
use Rattle.theorem_demands.proofs.Reading.{room}

-- ---- the sheet ----

pub sheet-tells : (settings answer : List ℕ) → Tells 0 Refusals.sheet_numbers [] answer (of_answer (host_sheet settings answer))
unfolding host_sheet sheet_call
sheet-tells settings answer = if-cases Right (eqb (length answer) 21) (λ e. by (room 21 answer e (omega arith)) (settings_in settings)) (λ _. none-tells)
  where
    Right : Answered → Type 0
    Right x = Tells 0 Refusals.sheet_numbers [] answer (of_answer x)

    by : 3 ≤ length answer → (s : Option Settings) → Right (sheet_from answer s)
    by l (Some σ) =
        if-cases (λ (a : Result Sheet Refusal). Right (after_sheet answer a)) (good σ) (λ _. accepted-tells _ _)
        (λ _. refused-tells refl l (refusal 0 (fault 2)) refl refl)
    by l None = none-tells

-- ---- the latch, and effects joined ----

pub latch-kept : (latch : ℕ) (state answer : List ℕ) → Kept [] [] answer (of_answer (host_latch latch state answer))
unfolding host_latch
latch-kept latch state answer = if-cases (λ (x : Answered). Kept [] [] answer (of_answer x)) (eqb (length answer) 4) (λ _. by (state_in state)) (λ _. none_kept)
  where
    by : (s : Option State) → Kept [] [] answer (of_answer (latch_from latch answer s))
    by (Some s) = accepted-kept _ _
    by None = none_kept

pub join_kept : (first second joined : List ℕ) → Kept [] [] joined (of_answer (host_join first second joined))
unfolding host_join
join_kept first second joined = if-cases (λ (x : Answered). Kept [] [] joined (of_answer x)) (eqb (length joined) 12) (λ _. by (effect_in first)) (λ _. none_kept)
  where
    from : (d : Effect) (e : Option Effect) → Kept [] [] joined (of_answer (join_from joined d e))
    from d (Some e) = accepted-kept _ _
    from d None = none_kept

    by : (d : Option Effect) → Kept [] [] joined (of_answer (join_with second joined d))
    by (Some d) = from d (effect_in second)
    by None = none_kept

-- ---- an effect applied: the row of a part's refusal is its second number ----

abbrev RowIs : ℕ → Part → Type 0
RowIs row Keep = Unit {0}
RowIs row (Set w) = Unit {0}
RowIs row (Refuse r) = r.row ≡ row

abbrev RowsAre : List ℕ → Option Effect → Type 0
RowsAre xs (Some e) = RowIs (at xs 1) e.clear × RowIs (at xs 7) e.set
RowsAre xs None = Unit {0}

part-row : (number row address from sets word : ℕ) → RowIs row (part_at number row address from sets word)
part-row number row address from sets word =
    if-cases (RowIs row) (eqb number 0) (λ _. if-cases (RowIs row) (yes sets) (λ _. tt) (λ _. tt)) (λ _. refl)

rows_are : (xs : List ℕ) → RowsAre xs (effect_in xs)
unfolding effect_in effect_written effect_at
rows_are xs =
    if-cases (RowsAre xs) (within effect_limits xs)
    (λ _. if-cases (RowsAre xs)
    (part_written (at xs 0) (at xs 1) (at xs 2) (at xs 3) (at xs 4) (at xs 5) && part_written (at xs 6) (at xs 7) (at xs 8) (at xs 9) (at xs 10) (at xs 11))
    (λ _. (
      part-row (at xs 0) (at xs 1) (at xs 2) (at xs 3) (at xs 4) (at xs 5),
      part-row (at xs 6) (at xs 7) (at xs 8) (at xs 9) (at xs 10) (at xs 11),
    ))
    (λ _. tt))
    (λ _. tt)

module _ (effect : List ℕ) (latch : ℕ) (answer : List ℕ) where
  abbrev Applied : ℕ → Answered → Type 0
  Applied row x = Tells row Refusals.effect_numbers [] answer (of_answer x)

  part-tells : 3 ≤ length answer → (row : ℕ) (p : Part) → Listed p → RowIs row p → Applied row (after_apply answer (apply_part p latch))
  part-tells l row Keep h e = accepted-tells _ _
  part-tells l row (Set w) h e = accepted-tells _ _
  part-tells l row (Refuse r) h e = refused-tells refl l r e h

  pub apply-tells : Applied (at effect (when ignores latch then 7 else 1)) (host_apply effect latch answer)
  unfolding host_apply
  apply-tells =
      if-cases (Applied _) (eqb (length answer) 4)
      (λ e. by (room 4 answer e (omega arith)) (effect_in effect) (effect-listed effect) (rows_are effect)) (λ _. none-tells)
    where
      for : 3 ≤ length answer → (t : Bool) (e : Effect) → BothListed (Some e) → RowsAre effect (Some e)
          → Applied (at effect (when t then 7 else 1)) (after_apply answer (apply_part (part_for t e) latch))
      for l false e h k = part-tells l _ e.clear h.0 k.0
      for l true e h k = part-tells l _ e.set h.1 k.1

      by : 3 ≤ length answer → (e : Option Effect) → BothListed e → RowsAre effect e → Applied (at effect (when ignores latch then 7 else 1)) (apply_from latch answer e)
      by l (Some e) h k = for l (ignores latch) e h k
      by l None h k = none-tells

-- ---- texts ----

pub write-mail-silent : (settings cells text answer : List ℕ)
    → Silent Refusals.write_mail_numbers (text ∷ []) answer (of_text (host_write_mail settings cells text answer))
unfolding host_write_mail write_mail
write-mail-silent settings cells text answer = if-cases Right (eqb (length answer) 1) (λ _. by (settings_in settings)) (λ _. none-silent)
  where
    Right : Lent → Type 0
    Right x = Silent Refusals.write_mail_numbers (text ∷ []) answer (of_text x)

    Mails : Mailed → Type 0
    Mails x = Right (after_write answer x)

    by : (s : Option Settings) → Right (write_from cells text answer s)
    by (Some σ) =
        if-cases Mails (eqb (length cells) 132)
        (λ _. if-cases Mails (good σ)
        (λ _. if-cases Mails (leb (length (mail_text σ cells)) (length text)) (λ _. accepted-silent _ _) (λ _. refused-silent refl 23 refl))
        (λ _. refused-silent refl 2 refl))
        (λ _. refused-silent refl 1 refl)
    by None = none-silent

pub read-mail-kept : (text cells answer : List ℕ) → Kept Refusals.read_mail_numbers (cells ∷ []) answer (of_text (host_read_mail text cells answer))
unfolding host_read_mail read_mail
read-mail-kept text cells answer = if-cases Right (eqb (length answer) 1) (λ _. by (Reader.read_row text)) (λ _. none_kept)
  where
    Right : Lent → Type 0
    Right x = Kept Refusals.read_mail_numbers (cells ∷ []) answer (of_text x)

    by : (o : Reader.Outcome) → Right (after_read answer (answered cells o))
    by (Reader.row cs) =
        if-cases (λ (x : ReadBack). Right (after_read answer x)) (leb (length cs) (length cells)) (λ _. accepted-kept _ _) (λ _. refused-kept refl 23 _ refl)
    by (Reader.stops offset) = refused-kept refl 24 _ refl

-- ---- the bus report, and the writer call ----

pub bus-silent : (h : BusRow) (totals answer : List ℕ) → Silent Refusals.bus_numbers (totals ∷ []) answer (of_bus (host_bus h totals answer))
unfolding host_bus reported
bus-silent h totals answer =
    if-cases (λ (x : Called). Right x) (eqb (length totals) 7 && (eqb (length answer) 2 && leb (at totals 6) 1))
    (λ _. if-cases Reports (eqb (burst_count h.burst) 0) (λ _. refused-silent refl 20 refl)
    (λ _. if-cases Reports (all_fit (added (totals_at totals) h)) (λ _. accepted-silent _ _) (λ _. refused-silent refl 21 refl)))
    (λ _. none-silent)
  where
    Right : Called → Type 0
    Right x = Silent Refusals.bus_numbers (totals ∷ []) answer (of_bus x)

    Reports : Reported → Type 0
    Reports x = Right (after_bus totals answer x)

pub write-silent : (m : List ℕ) (own other : Span) (address word : ℕ)
    → Silent Refusals.writer_numbers (m ∷ []) [] (of_word (Word.host_write_word m own other address word))
unfolding Word.host_write_word write_word
write-silent m own other address word =
    if-cases Right (share own other) (λ _. refused-silent refl 16 refl)
    (λ _. if-cases Right (may_write own address (length m)) (λ _. accepted-silent _ _) (λ _. refused-silent refl 15 refl))
  where
    Right : Wrote → Type 0
    Right x = Silent Refusals.writer_numbers (m ∷ []) [] (of_word (Word.after_write x))

-- ---- the lines of the panel, and their cells ----

pub line-silent : (shift : ℤ) (above : ℕ) (heights : List ℕ) (rows y : ℕ) (answer : List ℕ)
    → Silent [] [] answer (of_answer (host_line shift above heights rows y answer))
unfolding host_line
line-silent shift above heights rows y answer =
    if-cases (λ (x : Answered). Silent [] [] answer (of_answer x)) (eqb (length answer) 7 && line_asked shift above heights rows)
    (λ _. accepted-silent _ _) (λ _. none-silent)

pub shown-silent : (still background : Layer) (behind cells : List ℕ) → Silent (1 ∷ []) [] cells (of_answer (host_shown still background behind cells))
unfolding host_shown show_call
shown-silent still background behind cells =
    if-cases (λ (x : ShowCalled). Silent (1 ∷ []) [] cells (of_answer (shown_answered x)))
    (sized still.cells && sized background.cells && sized behind && eqb (length cells) 132) (λ _. accepted-silent _ _) (λ _. refused-silent refl 1 refl)
