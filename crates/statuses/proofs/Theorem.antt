-- Each call's status: 255 for slices that are none, else what its answer tells.
use Rattle.std.proofs.Common.{Option, Some, None}
use mathlib.Core.Path.{refl}
use mathlib.Core.Bool.{◌&&◌}
use mathlib.Core.List.{List, [], ◌∷◌}
use Prim.Native.Nat.{ℕ}
use native.Mathlib.Omega.{arith}
use lib.IntN.{ℤ, pos}
use lib.Signed.{lt_z}
use lib.ListN.{length}
use lib.Dec.{eqb, leb}
use Rattle.memory.specs.Word.{at}
use Rattle.memory.proofs.ReadBounds.{Words, if-cases}
use Rattle.settings.specs.declared.PointerWords.{PointerWords}
use Rattle.settings.specs.declared.Settings.{Settings}
use Rattle.settings.specs.Sheet.{sheet_call}
use Rattle.state.specs.declared.State.{State}
use Rattle.listed.specs.Listed.{start_listed, row_listed}
use Rattle.joining.specs.declared.Effect.{Effect}
use Rattle.bus.specs.declared.BusRow.{BusRow}
use Rattle.bus.specs.Numbers.{totals_at, Called}
use Rattle.bus.specs.Bus.{reported}
use Rattle.mail.specs.Write.{write_mail}
use Rattle.mail_reader.specs.Read.{read_mail}
use Rattle.mail_answers.specs.AfterMail.{Lent}
use Rattle.writer.specs.declared.Span.{Span}
use Rattle.writer.specs.Writer.{write_word}
use Rattle.numbers.specs.Decode.{settings_at, settings_in, state_in}
use Rattle.answers.specs.AfterCall.{Answered, Stated}
use Rattle.listed_answers.specs.AfterListed.{StatedListed, DrawnListed}
use Rattle.effects.specs.EffectNumbers.{effect_in}
use Rattle.thagaduvin.specs.Calls.{sheet_from, host_sheet, start_from, host_start, row_from, row_with, host_row, latch_from, host_latch}
use Rattle.thagaduvin_effect.specs.EffectCalls.{effect_from, effect_with, host_effect, join_from, join_with, host_join, apply_from, host_apply}
use Rattle.thagaduvin.specs.MailCalls.{write_from, host_write_mail, host_read_mail}
use Rattle.thagaduvin.specs.BusCalls.{host_bus}
use Rattle.thagaduvin.specs.WriterCalls.{host_write_word}
use Rattle.answers.specs.Changing.{Left}
use Rattle.scroll.specs.Scroll.{shift_call}
use Rattle.listed_beside.specs.ListedBeside.{beside_listed}
use Rattle.shifts.specs.AfterShift.{scroll_of, BesideDone, after_beside, no_state, below_state, beside_from}
use Rattle.panel.specs.Shown.{Layer, ShowCalled, sized, show_call}
use Rattle.line_numbers.specs.LineNumbers.{line_asked}
use Rattle.thagaduvin_scroll.specs.ScrollCalls.{shift_from, host_shift, beside_with, host_beside}
use Rattle.thagaduvin_scroll.specs.PanelCalls.{host_line, shown_answered, host_shown}
use Rattle.blame.proofs.Frames.{Registers}
use Rattle.mending.specs.Mending.{mend_step}
use Rattle.thagaduvin_mend.specs.MendCalls.{mend_with, host_mend}
use Rattle.converter.specs.Converter.{convert_call}
use Rattle.thagaduvin_convert.specs.ConvertCalls.{convert_with, host_convert}
use Rattle.refusals.specs.Refusals.{sheet_numbers, start_listed_numbers, row_listed_numbers, effect_numbers, shift_numbers, beside_numbers, mend_numbers, convert_numbers, writer_numbers, bus_numbers, write_mail_numbers, read_mail_numbers}
use Rattle.refusals.proofs.Told.{sheet-told, shift-told}
use Rattle.refusals.proofs.ToldListed.{start-listed-told, row-listed-told, write-told}
use Rattle.refusals.proofs.ToldTexts.{bus-told, write-mail-told, read-mail-told}
use Rattle.refusals.proofs.ToldOthers.{beside-told, mend-told, convert-told}
use Rattle.statuses.specs.Statuses.{Status, Statuses}
use Rattle.statuses.proofs.Tables.{of-sheet, of-start, of_row_lem, of-bus, of-written, of-read, of-write, of_shift_lem, of-beside, of-mend, of-convert}
use Rattle.statuses.proofs.Read.{BothListed, effect-listed, applied}

sheet-status : (settings answer : List ℕ) → Status sheet_numbers (host_sheet settings answer).status
unfolding host_sheet
sheet-status settings answer =
    if-cases (λ (x : Answered). Status sheet_numbers x.status) (eqb (length answer) 21) (λ _. by (settings_in settings)) (λ _. refl)
  where
    by : (s : Option Settings) → Status sheet_numbers (sheet_from answer s).status
    by (Some σ) = of-sheet sheet_numbers answer (sheet_call σ) (sheet-told σ)
    by None = refl

start-status : (settings m : List ℕ) (latch : ℕ) (state list answer : List ℕ) → Status start_listed_numbers (host_start settings m latch state list answer).status
unfolding host_start
start-status settings m latch state list answer =
    if-cases (λ (x : StatedListed). Status start_listed_numbers x.status) (eqb (length state) 23 && eqb (length answer) 4)
    (λ _. by (settings_in settings)) (λ _. refl)
  where
    by : (s : Option Settings) → Status start_listed_numbers (start_from m latch state list answer s).status
    by (Some σ) = of-start start_listed_numbers state answer (start_listed latch σ m list).answer (start-listed-told latch σ m list)
    by None = refl

row-status : (settings m state cells list answer : List ℕ) → Status row_listed_numbers (host_row settings m state cells list answer).status
unfolding host_row
row-status settings m state cells list answer =
    if-cases (λ (x : DrawnListed). Status row_listed_numbers x.status) (eqb (length answer) 8) (λ _. by (settings_in settings)) (λ _. refl)
  where
    from : (σ : Settings) (s : Option State) → Status row_listed_numbers (row_from σ m state cells list answer s).status
    from σ (Some s) =
        of_row_lem row_listed_numbers state answer (row_listed σ m s cells list).buffer (row_listed σ m s cells list).answer (row-listed-told σ m s cells list)
    from σ None = refl

    by : (s : Option Settings) → Status row_listed_numbers (row_with m state cells list answer s).status
    by (Some σ) = from σ (state_in state)
    by None = refl

latch-status : (latch : ℕ) (state answer : List ℕ) → Status [] (host_latch latch state answer).status
unfolding host_latch
latch-status latch state answer = if-cases (λ (x : Answered). Status [] x.status) (eqb (length answer) 4) (λ _. by (state_in state)) (λ _. refl)
  where
    by : (s : Option State) → Status [] (latch_from latch answer s).status
    by (Some s) = refl
    by None = refl

effect-status : (settings m state effect : List ℕ) → Status [] (host_effect settings m state effect).status
unfolding host_effect
effect-status settings m state effect =
    if-cases (λ (x : Stated). Status [] x.status) (eqb (length effect) 12) (λ _. by (settings_in settings)) (λ _. refl)
  where
    from : (σ : Settings) (s : Option State) → Status [] (effect_from σ m state effect s).status
    from σ (Some s) = refl
    from σ None = refl

    by : (s : Option Settings) → Status [] (effect_with m state effect s).status
    by (Some σ) = from σ (state_in state)
    by None = refl

join-status : (first second joined : List ℕ) → Status [] (host_join first second joined).status
unfolding host_join
join-status first second joined = if-cases (λ (x : Answered). Status [] x.status) (eqb (length joined) 12) (λ _. by (effect_in first)) (λ _. refl)
  where
    from : (d : Effect) (e : Option Effect) → Status [] (join_from joined d e).status
    from d (Some e) = refl
    from d None = refl

    by : (d : Option Effect) → Status [] (join_with second joined d).status
    by (Some d) = from d (effect_in second)
    by None = refl

apply-status : (effect : List ℕ) (latch : ℕ) (answer : List ℕ) → Status effect_numbers (host_apply effect latch answer).status
unfolding host_apply
apply-status effect latch answer =
    if-cases (λ (x : Answered). Status effect_numbers x.status) (eqb (length answer) 4) (λ _. by (effect_in effect) (effect-listed effect)) (λ _. refl)
  where
    by : (e : Option Effect) → BothListed e → Status effect_numbers (apply_from latch answer e).status
    by (Some e) h = applied e latch answer h
    by None h = refl

write-mail-status : (settings cells text answer : List ℕ) → Status write_mail_numbers (host_write_mail settings cells text answer).status
unfolding host_write_mail
write-mail-status settings cells text answer =
    if-cases (λ (x : Lent). Status write_mail_numbers x.status) (eqb (length answer) 1) (λ _. by (settings_in settings)) (λ _. refl)
  where
    by : (s : Option Settings) → Status write_mail_numbers (write_from cells text answer s).status
    by (Some σ) = of-written write_mail_numbers answer (write_mail σ cells text).buffer (write_mail σ cells text).answer (write-mail-told σ cells text)
    by None = refl

read-mail-status : (text cells answer : List ℕ) → Status read_mail_numbers (host_read_mail text cells answer).status
unfolding host_read_mail
read-mail-status text cells answer =
    if-cases (λ (x : Lent). Status read_mail_numbers x.status) (eqb (length answer) 1)
    (λ _. of-read read_mail_numbers answer (read_mail text cells).buffer (read_mail text cells).answer (read-mail-told text cells)) (λ _. refl)

bus-status : (h : BusRow) (totals answer : List ℕ) → Status bus_numbers (host_bus h totals answer).status
unfolding host_bus
bus-status h totals answer =
    if-cases (λ (x : Called). Status bus_numbers x.status) (eqb (length totals) 7 && (eqb (length answer) 2 && leb (at totals 6) 1))
    (λ _. of-bus bus_numbers totals answer (reported (totals_at totals) h).totals (reported (totals_at totals) h).answer (bus-told (totals_at totals) h)) (λ _. refl)

write-status : (m : List ℕ) (own other : Span) (address word : ℕ) → Status writer_numbers (host_write_word m own other address word).status
unfolding host_write_word
write-status m own other address word = of-write writer_numbers (write_word m own other address word).answer (write-told m own other address word)

shift-status : (settings m : List ℕ) (soft : PointerWords) (scroll answer : List ℕ) → Status shift_numbers (host_shift settings m soft scroll answer).status
unfolding host_shift
shift-status settings m soft scroll answer =
    if-cases (λ (x : Stated). Status shift_numbers x.status) (eqb (length scroll) 3 && eqb (length answer) 5) (λ _. by (settings_in settings)) (λ _. refl)
  where
    by : (s : Option Settings) → Status shift_numbers (shift_from m soft scroll answer s).status
    by (Some σ) =
        of_shift_lem shift_numbers scroll answer (shift_call σ m soft (scroll_of scroll)) (shift-told σ m soft (scroll_of scroll))
    by None = refl

beside-status : (settings m : List ℕ) (shift : ℤ) (soft : PointerWords) (latch : ℕ) (state cells list answer : List ℕ)
    → Status beside_numbers (host_beside settings m shift soft latch state cells list answer).status
unfolding host_beside beside_from
beside-status settings m shift soft latch state cells list answer =
    if-cases Right (eqb (length answer) 8) (λ _. by (settings_in settings)) (λ _. refl)
  where
    Right : BesideDone → Type 0
    Right x = Status beside_numbers x.status

    of : (σ : Settings) (s : State) → Right (after_beside answer (beside_listed σ m shift soft latch s cells list))
    of σ s =
        let x = beside_listed σ m shift soft latch s cells list in
        of-beside beside_numbers x.buffer x.list answer x.answer (beside-told σ m shift soft latch s cells list)

    from : (σ : Settings) (s : Option State) → Right (below_state σ m shift soft latch cells list answer s)
    from σ (Some s) = of σ s
    from σ None = refl

    by : (s : Option Settings) → Right (beside_with m shift soft latch state cells list answer s)
    by (Some σ) = if-cases Right (lt_z (pos 0) shift) (λ _. from σ (state_in state)) (λ _. of σ no_state)
    by None = refl

line-status : (shift : ℤ) (above : ℕ) (heights : List ℕ) (rows y : ℕ) (answer : List ℕ) → Status [] (host_line shift above heights rows y answer).status
unfolding host_line
line-status shift above heights rows y answer =
    if-cases (λ (x : Answered). Status [] x.status) (eqb (length answer) 7 && line_asked shift above heights rows) (λ _. refl) (λ _. refl)

shown-status : (still background : Layer) (behind cells : List ℕ) → Status (1 ∷ []) (host_shown still background behind cells).status
unfolding host_shown show_call
shown-status still background behind cells =
    if-cases (λ (x : ShowCalled). Status (1 ∷ []) (shown_answered x).status)
    (sized still.cells && sized background.cells && sized behind && eqb (length cells) 132) (λ _. refl) (λ _. refl)

-- TOP's and TOW's words are read as 16 bits
registers : (xs : List ℕ) → Registers (settings_at xs)
unfolding settings_at
registers xs = record { top = omega arith; tow = omega arith }

mend-status : (settings m : List ℕ) (latch : ℕ) (answer : List ℕ) → Words m → Status mend_numbers (host_mend settings m latch answer).status
unfolding host_mend settings_in
mend-status settings m latch answer w =
    if-cases Right (eqb (length answer) 8)
    (λ _. if-cases (λ (s : Option Settings). Right (mend_with settings m latch answer s)) (eqb (length settings) 18) (λ _. mended) (λ _. refl)) (λ _. refl)
  where
    Right : Left → Type 0
    Right x = Status mend_numbers x.status

    mended : Right (mend_with settings m latch answer (Some (settings_at settings)))
    mended =
        let x = mend_step latch (settings_at settings) m in
        of-mend mend_numbers settings answer x.memory x.answer (mend-told latch (settings_at settings) m w (registers settings))

convert-status : (settings m : List ℕ) (marks latch : ℕ) (answer : List ℕ) → Status convert_numbers (host_convert settings m marks latch answer).status
unfolding host_convert
convert-status settings m marks latch answer =
    if-cases (λ (x : Left). Status convert_numbers x.status) (eqb (length answer) 4) (λ _. by (settings_in settings)) (λ _. refl)
  where
    by : (s : Option Settings) → Status convert_numbers (convert_with settings m marks latch answer s).status
    by (Some σ) =
        let x = convert_call latch σ m marks in of-convert convert_numbers settings x.memory x.answer (convert-told latch σ m marks)
    by None = refl

pub statuses : Statuses
statuses = record {
  sheet = sheet-status;
  start = start-status;
  row = row-status;
  latch = latch-status;
  effect = effect-status;
  join = join-status;
  apply = apply-status;
  write_mail = write-mail-status;
  read_mail = read-mail-status;
  bus = bus-status;
  write_word = write-status;
  shift = shift-status;
  beside = beside-status;
  line = line-status;
  shown = shown-status;
  mend = mend-status;
  convert = convert-status;
}
