-- The same of the row beside the cut, of a mending step and of a conversion.
use Rattle.std.proofs.Common.{Result, Ok, Err}
use mathlib.Core.Path.{◌≡◌, refl, sym, subst, ◌∙◌}
use mathlib.Core.Bool.{true, false}
use mathlib.Core.List.{List, [], ◌∷◌}
use Prim.Native.Nat.{ℕ, zero, suc, ◌-◌, ◌/◌, ◌%◌, ◌<◌}
use native.Mathlib.Omega.{arith}
use lib.IntN.{ℤ, pos}
use lib.Signed.{lt_z}
use lib.ListN.{length, get_or}
use lib.Dec.{eqb, ltb}
use borrow.Author.Tests.{eqb-true, eqb-false, lt-ltb}
use Rattle.memory.specs.declared.Fault.{Fault}
use Rattle.memory.specs.declared.Refusal.{Refusal}
use Rattle.memory.specs.Reading.{Reading, done, refuse, ask, nobody, Outcome, given, refused, run}
use Rattle.memory.proofs.ReadBounds.{Words, if-cases}
use Rattle.settings.specs.declared.Interlace.{Interlace}
use Rattle.settings.specs.declared.Interlace.TheVariants.{Progressive, RepeatField, Video}
use Rattle.settings.specs.declared.PointerWords.{PointerWords}
use Rattle.settings.specs.declared.Settings.{Settings}
use Rattle.settings.specs.Good.{good, fits_mode, check_settings}
use Rattle.settings.specs.Timing.{lines_in, lines_for_rows}
use Rattle.settings.proofs.GoodLaws.{ordered, left-true, right-true}
use Rattle.blocks.specs.declared.MainBlock.{MainBlock}
use Rattle.windows.specs.Window.{first_window}
use Rattle.state.specs.declared.Fields.{Fields}
use Rattle.state.specs.declared.State.{State}
use Rattle.state.specs.State.{state_of}
use Rattle.start.specs.Start.{first_fields, window_start, start_from, started, start_call}
use Rattle.row.specs.Row.{row_call}
use Rattle.row.specs.declared.DrawnRow.{DrawnRow}
use Rattle.beside.specs.Beside.{BesideCalled, told, with_one_line, with_top, after_start, row_above}
use Rattle.listed.specs.Listed.{row_listed}
use Rattle.listed_beside.specs.ListedBeside.{BesideListed, below_listed, above_listed, beside_listed}
use Rattle.blame.specs.declared.Verdict.{Verdict}
use Rattle.blame.specs.Blame.{main_of}
use Rattle.blame.proofs.Comes as Comes
use Rattle.blame.proofs.Frames.{Registers, Judged, whole, blames, Fair, judged, as-it-is, verdict-fair}
use Rattle.mending.specs.Mending.{by_verdict, mend_step}
use Rattle.converter.specs.Walk.{word_of, read_on, shared, marked, Walked, went, halted, walk}
use Rattle.converter.specs.Below.{state_after}
use Rattle.converter.specs.Converter.{Followed, ended, stopped, onwards, follow_rows, follow, Called, convert_by, convert_call}
use Rattle.refusals.specs.Refusals.{start_numbers, beside_numbers, mend_numbers, convert_numbers, of_start, of_row, of_beside, of_mend, of_convert, has, within}
use Rattle.refusals.proofs.Refuses.{within_more, Refuses, weaken, dones, refuses, asks, bind, Told, given-told, refused-told, run-told}
use Rattle.refusals.proofs.Told.{settings-refuse, window-refuses, top-refuses, below-refuses, one_told, start-told, row-told-by}
use Rattle.refusals.proofs.ToldListed.{row-listed-by}

apart : true ≡ false → ⊥
apart e = let z : ◌≡◌ {A = ℕ} 0 1 = cc in omega arith

has-lines : (f : Fields) → 0 < f.left → ltb 0 f.left ≡ false → ⊥
has-lines f l e = apart (sym (lt-ltb 0 f.left l) ∙ e)

-- ---- the row beside the cut ----

-- good settings have lines for rows, so a start's state has
some-lines : (mode : Interlace) (σ : Settings) → fits_mode mode σ ≡ true → σ.vsd < σ.val → 0 < lines_in mode (σ.val - σ.vsd)
some-lines Progressive σ h l = omega arith
some-lines Video σ h l = omega arith
some-lines RepeatField σ h l =
    let val : σ.val % 2 ≡ 1 = search (left-true, right-true, eqb-true) depth 8 in
    let vsd : σ.vsd % 2 ≡ 1 = search (left-true, right-true, eqb-true) depth 8 in
    omega arith

good-lines : (σ : Settings) → good σ ≡ true → 0 < lines_in σ.interlace (σ.val - σ.vsd)
unfolding good
good-lines σ g = some-lines σ.interlace σ (search (left-true, right-true) depth 8) (ordered σ g).vsd-val

module _ (m : List ℕ) where
  abbrev Gives : {A : Type 0} → (A → Type 0) → Reading A → Type 0
  Gives P p = Comes.Comes m (λ _. Unit {0}) P p

  anything : {A : Type 0} (p : Reading A) → Gives (λ _. Unit {0}) p
  anything (done a) = Comes.dones tt
  anything (refuse x) = Comes.refuses tt
  anything (ask q f) = Comes.asks tt (anything (f (get_or m (q.address / 2) 0)))

  start-lines : (latch : ℕ) (σ : Settings) → Gives (λ (s : State). 0 < s.fields.left) (start_from latch σ)
  unfolding start_from check_settings window_start first_fields lines_for_rows
  start-lines latch σ =
      Comes.bind m (λ _. Unit {0}) {P = λ _. good σ ≡ true}
      (Comes.check-then m (λ _. Unit {0}) 2 nobody (good σ) (λ _. tt) λ _ g. Comes.check-comes m (λ _. Unit {0}) 17 nobody σ.linear (λ _. tt) λ _. g) λ _ g.
      Comes.bind m (λ _. Unit {0}) (anything _) λ b _. Comes.bind m (λ _. Unit {0}) (anything _) λ w _. Comes.dones (good-lines σ g)

-- a row's answer tells what the row's does
as_row : (n : ℕ) (a : Result DrawnRow Refusal) → of_beside (told n a) ≡ of_row a
as_row n (Ok d) = refl
as_row n (Err r) = refl

module _ (σ : Settings) (m : List ℕ) where
  above-told : (latch : ℕ) (buffer : List ℕ) → within (of_beside (row_above σ m latch buffer).answer) beside_numbers ≡ true
  unfolding row_above start_call
  above-told latch buffer =
      if-cases (λ (c : BesideCalled). within (of_beside c.answer) beside_numbers ≡ true) (eqb (length buffer) 132)
      (λ _. by (run m (start_from latch σ)) refl) (λ _. refl)
    where
      by : (o : Outcome State) → run m (start_from latch σ) ≡ o → within (of_beside (after_start σ m buffer (started o)).answer) beside_numbers ≡ true
      by (refused x) e =
          within_more start_numbers beside_numbers refl (x.number ∷ []) (subst (λ (o : Outcome State). within (of_start (started o)) start_numbers ≡ true) e (start-told latch σ m))
      by (given n s) e =
          let lines = Comes.comes-given m (λ _. Unit {0}) 0 (start-lines m latch σ) e in
          rw (as_row n (row_call σ m s buffer).answer)
          (row-told-by beside_numbers refl σ m s buffer (record { drawing = refl; range = λ _. refl; lines = λ k. absurd (has-lines s.fields lines k) }))

pub beside-told : (σ : Settings) (m : List ℕ) (shift : ℤ) (soft : PointerWords) (latch : ℕ) (last : State) (buffer list : List ℕ)
    → within (of_beside (beside_listed σ m shift soft latch last buffer list).answer) beside_numbers ≡ true
unfolding beside_listed below_listed above_listed
beside-told σ m shift soft latch last buffer list =
    if-cases Within (lt_z (pos 0) shift) (λ _. below) (λ _. if-cases Within (lt_z shift (pos 0)) (λ _. above) (λ _. refl))
  where
    Within : BesideListed → Type 0
    Within x = within (of_beside x.answer) beside_numbers ≡ true

    one : State
    one = state_of last.latch (with_one_line last.fields)

    below : within (of_beside (told 0 (row_listed σ m one buffer list).answer)) beside_numbers ≡ true
    below =
        rw (as_row 0 (row_listed σ m one buffer list).answer)
        (row-listed-by beside_numbers refl σ m one buffer list (record { drawing = refl; range = λ _. refl; lines = λ k. absurd (apart k) }))

    above : Within (above_listed (with_top σ soft) m latch buffer list)
    above =
        let start = above-told (with_top σ soft) m latch buffer in
        if-cases Within (eqb (length buffer) 132) (λ _. if-cases Within (eqb (length list) 12000) (λ _. start) (λ _. refl)) (λ _. start)

-- ---- a mending step ----

pub main-refuses : (σ : Settings) → Refuses (2 ∷ 17 ∷ 6 ∷ 14 ∷ []) (main_of σ)
unfolding main_of
main-refuses σ = bind (settings-refuse σ refl refl) λ _. top-refuses refl refl σ.linear σ.top

pub mend-told : (latch : ℕ) (σ : Settings) (m : List ℕ) → Words m → Registers σ → within (of_mend (mend_step latch σ m).answer) mend_numbers ≡ true
unfolding mend_step
mend-told latch σ m b regs = by (verdict-fair σ m b regs latch)
  where
    rows : {v : Verdict} → Judged σ m b regs v → within (of_mend (by_verdict σ m v).answer) mend_numbers ≡ true
    rows whole = refl
    rows (blames h k) = refl

    main : {o : Outcome MainBlock} {x : Fault} → Told mend_numbers o → o ≡ refused x → within (x.number ∷ []) mend_numbers ≡ true
    main given-told e = let q : ◌≡◌ {A = ℕ} 0 1 = cc in absurd (omega arith)
    main {x} (refused-told {x = y} h) e = let same : y ≡ x = cc in one_told mend_numbers x.number (rw (← same) h)

    by : {v : Verdict} → Fair σ m b regs latch v → within (of_mend (by_verdict σ m v).answer) mend_numbers ≡ true
    by (judged h) = rows h
    by (as-it-is e) = main (run-told refl 0 m (weaken refl (main-refuses σ))) e

-- ---- a conversion ----

-- what following a reading comes to: 18, 7 and 19 are the walk's own
data Met {A : Type 0} : Walked A → Type 0 where
  went_on : {marks : List ℕ} {a : A} → Met (went marks a)
  met : {x : Fault} → has x.number convert_numbers ≡ true → Met (halted x)

data Ends : Followed → Type 0 where
  to_end : {marks : List ℕ} → Ends (ended marks)
  stops : {r : Refusal} → has r.number convert_numbers ≡ true → Ends (stopped r)

onwards-told : {A : Type 0} (row : ℕ) {w : Walked A} {next : List ℕ → A → Followed} → Met w
    → ((marks : List ℕ) (a : A) → Ends (next marks a)) → Ends (onwards row w next)
onwards-told row (went_on {marks} {a}) k = k marks a
onwards-told row (met h) k = stops h

module _ (m : List ℕ) where
  walk-told : {A : Type 0} (held : ℕ) (marks : List ℕ) {p : Reading A} → Refuses convert_numbers p → Met (walk held m marks p)
  unfolding walk
  walk-told held marks dones = went_on
  walk-told held marks (refuses h) = met h
  walk-told held marks (asks {q} g) =
      if-cases Met (read_on held m q.address q.from) (λ _. met refl) λ _.
      if-cases Met (ltb (q.address / 2) (length m))
      (λ _. if-cases Met (shared marks q) (λ _. met refl) (λ _. walk-told held (marked marks q) (g (word_of m q.address)))) (λ _. met refl)

  rows_told : (n : ℕ) (σ : Settings) (marks : List ℕ) (s : State) → Ends (follow_rows n σ m marks s)
  unfolding follow_rows
  rows_told zero σ marks s = to_end
  rows_told (suc n) σ marks s =
      if-cases Ends (eqb s.fields.left 0) (λ _. to_end) λ e.
      let some = eqb-false s.fields.left 0 e in
      onwards-told s.fields.row
      (walk-told 0 marks (below-refuses σ s (record { drawing = refl; range = λ _. refl; lines = λ k. absurd (has-lines s.fields (omega arith) k) })))
      λ marks₁ r. rows_told n σ marks₁ (state_after r)

  follow-told : (latch : ℕ) (σ : Settings) → Ends (follow latch σ m)
  unfolding follow window_start first_window
  follow-told latch σ =
      onwards-told 0 (walk-told _ _ (top-refuses refl refl false σ.top)) λ marks b.
      onwards-told 0 (walk-told _ marks (bind (window-refuses refl σ.linear 0 0 _) λ w. dones)) λ marks₁ s.
      rows_told s.fields.left σ marks₁ s

pub convert-told : (latch : ℕ) (σ : Settings) (m : List ℕ) (marks : ℕ) → within (of_convert (convert_call latch σ m marks).answer) convert_numbers ≡ true
unfolding convert_call convert_by
convert-told latch σ m marks =
    if-cases Within (eqb marks (length m))
    (λ _. if-cases Within (good σ) (λ _. if-cases Within σ.linear (λ _. refl) (λ _. by (follow-told m latch σ))) (λ _. refl)) (λ _. refl)
  where
    Within : Called → Type 0
    Within c = within (of_convert c.answer) convert_numbers ≡ true

    by : {f : Followed} → Ends f → Within (convert_by σ m f)
    by to_end = refl
    by (stops {r} h) = one_told convert_numbers r.number h
