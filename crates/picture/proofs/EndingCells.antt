-- After row 0 of one list the state is the other's first one, but for its row number, lines left and format: so the rows are drawn alike.
use Rattle.std.proofs.Common.{None}
use mathlib.Core.Path.{◌≡◌, refl, sym, ap, subst, ◌∙◌}
use mathlib.Core.Bool.{Bool, true}
use mathlib.Core.List.{List, [], ◌∷◌, ◌++◌, append-nil}
use mathlib.Core.Option.{Option, none, some}
use Prim.Native.Nat.{ℕ, suc, ◌≤◌}
use native.Mathlib.Omega.{arith}
use lib.IntN.{pos, negsuc, nat_abs}
use lib.Signed.{lt_z}
use lib.ListN.{get_elem?}
use borrow.Author.Tests.{ltb-true}
use Rattle.memory.specs.Reading.{Outcome, given, run_from, run}
use Rattle.memory.specs.Address.{null}
use Rattle.memory.proofs.ReadBounds.{Words, if-cases}
use Rattle.settings.specs.declared.Settings.{Settings}
use Rattle.settings.specs.Timing.{lines_for_rows}
use Rattle.blocks.specs.declared.MainBlock.{MainBlock}
use Rattle.windows.specs.Window.{window_at, first_window}
use Rattle.background.specs.Background.{BackgroundRow, background_block}
use Rattle.state.specs.declared.Fields.{Fields}
use Rattle.state.specs.declared.State.{State}
use Rattle.plan.specs.Plan.{next_fields}
use Rattle.start.specs.Top.{registered, top_block}
use Rattle.start.specs.Start.{first_format, first_fields}
use Rattle.row.specs.Row.{code_settings, Row, row}
use Rattle.frame.specs.Frame.{FrameRow, rest, frame}
use Rattle.frame.proofs.Frames.{Ends, complete, refusing, rest-ends}
use Rattle.beside.specs.Beside.{with_top}
use Rattle.insertion.proofs.Chains.{next_of}
use Rattle.picture.specs.Picture.{PictureRow, picture_rows, frame_rows, onward, below_of, below_rows, above_row, picture, first}
use Rattle.picture.specs.Ending.{Linked, linked}
use Rattle.picture.specs.EndingCells.{ButCursor, SameFill, Leaves, CellsUp, CellsDown}
use Rattle.picture.proofs.Above.{above-down}
use Rattle.picture.proofs.Grounds.{Started, Opening, opened, closed, opening}
use Rattle.picture.proofs.Following.{Successive, stops, draws, following, rest-following}
use Rattle.picture.proofs.Heights.{refuses-none}
use Rattle.picture.proofs.PlainRows.{Plain, row_plain, GoesOn, Trace, trace-then, trace, Similar, same-cells}

-- a start without windows has none in hand
start_plain : {latch : ℕ} {σ : Settings} {m : List ℕ} {s : State} → Started latch σ m s → null (registered σ.linear σ.tow) ≡ true → s.fields.window ≡ None
unfolding first_fields first_window window_at run_from
start_plain st tow =
    let h : given st.window-from None ≡ given st.window-words st.window = rw tow at st.window-read in
    let absent : st.window ≡ None = cc in
    ap (λ (f : Fields). f.window) st.leads ∙ absent

given-same : {A : Type 0} {o : Outcome A} {i j : ℕ} {x y : A} → o ≡ given i x → o ≡ given j y → x ≡ y
given-same e f = cc

-- the rows of a list from its start; and those after its row 0, which leaves a latch
data Traced (latch : ℕ) (σ : Settings) (m : List ℕ) : List PictureRow → Type 0 where
  untraced : Traced latch σ m []
  traced : {s : State} {qs : List PictureRow} → Started latch σ m s → Trace σ m s qs → Traced latch σ m qs

data AfterFirst (latch : ℕ) (σ : Settings) (m : List ℕ) (left : ℕ) : List PictureRow → Type 0 where
  bare : AfterFirst latch σ m left []
  headed : {s : State} {n : ℕ} {r : Row} {q : PictureRow} {qs : List PictureRow} → Started latch σ m s → run m (row σ s) ≡ given n r → (next_of r).latch ≡ left
      → Trace σ m (next_of r) qs → AfterFirst latch σ m left (q ∷ qs)

module _ (σ τ : Settings) (m : List ℕ) (tow : null (registered σ.linear σ.tow) ≡ true) (tow' : null (registered τ.linear τ.tow) ≡ true)
    (linear : σ.linear ≡ τ.linear) (lk : Linked σ.linear m σ.top τ.top) (fill : SameFill σ.linear m σ.top τ.top) where
  -- the state after row 0 of one list, and the first of the other
  after_first : {latch latch' n : ℕ} {s t : State} {r : Row} → Started latch σ m s → Started latch' τ m t → run m (row σ s) ≡ given n r
      → (next_of r).latch ≡ latch' → Similar (next_of r) t
  unfolding first_fields next_fields
  after_first {s} {t} {r} st st' e latched = by lk
    where
      plain : Plain σ m s r
      plain = row_plain σ m s (start_plain st tow) e

      top' : run m (top_block σ.linear τ.top) ≡ given st'.words st'.main
      top' = ap (λ (l : Bool). run m (top_block l τ.top)) linear ∙ st'.read

      by : Linked σ.linear m σ.top τ.top → Similar (next_of r) t
      by (linked {a} {b} {g} reads-a reads-b reads-g same) =
          let one : st.main ≡ a = given-same st.read reads-a in
          let two : st'.main ≡ b = given-same top' reads-b in
          let first-row : run m (background_block σ.linear a.rows (first_format a.lines)) ≡ given plain.words plain.ground =
          ap (λ (x : MainBlock). run m (background_block σ.linear x.rows (first_format x.lines))) (sym one)
          ∙ ap (λ (f : Fields). run m (background_block σ.linear f.next f.format)) (sym st.leads) ∙ plain.read in
          let three : plain.ground ≡ g = given-same first-row reads-g in
          record {
            latch = latched ∙ sym st'.latched;
            fill = ap (λ (f : Fields). f.fill) plain.leads ∙ ap (λ (f : Fields). f.fill) st.leads
                ∙ fill st.main st'.main _ _ st.read top' ∙ sym (ap (λ (f : Fields). f.fill) st'.leads);
            next = ap (λ (f : Fields). f.next.address) plain.leads ∙ ap (λ (g : BackgroundRow). g.block.link.address) three ∙ sym same
                ∙ ap (λ (x : MainBlock). x.rows.address) (sym two) ∙ sym (ap (λ (f : Fields). f.next.address) st'.leads);
            plain = ap (λ (f : Fields). f.window) plain.leads;
            plain' = start_plain st' tow';
          }

  cells-after : code_settings σ ≡ code_settings τ → {latch left : ℕ} {ps bs : List PictureRow} → AfterFirst latch σ m left ps → Traced left τ m bs
      → (i : ℕ) (q r : PictureRow) → get_elem? ps (suc i) ≡ some q → get_elem? bs i ≡ some r → ButCursor q.cells r.cells
  cells-after c bare b i q r e f = refuses-none (sym e)
  cells-after c (headed st d l k) untraced i q r e f = refuses-none (sym f)
  cells-after c (headed st d l k) (traced st' k') i q r e f = same-cells σ τ m c (after_first st st' d l) k k' i q r e f

-- ---- the lists of pictures ----
module _ (latch : ℕ) (σ : Settings) (m : List ℕ) where
  frame-traced : Traced latch σ m (frame_rows latch σ m)
  unfolding frame_rows
  frame-traced = by (opening latch σ m)
    where
      by : Opening latch σ m → Traced latch σ m (frame_rows latch σ m)
      by (opened {n} {s} e st) = rw e (traced st (trace σ m (rest-following σ m (record { state = s; words = n }))))
      by (closed e) = rw e untraced

  above-traced : Traced latch σ m (above_row latch σ m)
  unfolding above_row
  above-traced = by (opening latch σ m)
    where
      by : Opening latch σ m → Traced latch σ m (above_row latch σ m)
      by (opened {n} {s} e st) = rw e (traced st (trace σ m (following σ m 1 (record { state = s; words = n }))))
      by (closed e) = rw e untraced

  module _ (left : ℕ) where
    after-rows : {s : State} {rs : List FrameRow} {o : Option State} → Started latch σ m s → Successive σ m s rs o
        → ((r : FrameRow) → get_elem? rs 0 ≡ some r → r.answer.next.latch ≡ left) → AfterFirst latch σ m left (picture_rows σ m s rs)
    unfolding picture_rows
    after-rows st stops leaves = bare
    after-rows st (draws l e k) leaves = headed st e (leaves _ refl) (trace σ m k)

    frame-after : Leaves latch σ m left → AfterFirst latch σ m left (frame_rows latch σ m)
    unfolding frame_rows frame
    frame-after leaves = by (opening latch σ m)
      where
        by : Opening latch σ m → AfterFirst latch σ m left (frame_rows latch σ m)
        by (opened {n} {s} e st) = rw e (after-rows st (rest-following σ m (record { state = s; words = n })) (rw e at leaves))
        by (closed e) = rw e bare

    -- on with other rows, where a frame of a line or more is accepted
    after_then : {s t u : State} {rs : List FrameRow} {o : Option State} {qs : List PictureRow} → Started latch σ m s → Successive σ m s rs o → o ≡ some t
        → t.fields.left ≡ 0 → 1 ≤ s.fields.left → ((r : FrameRow) → get_elem? rs 0 ≡ some r → r.answer.next.latch ≡ left) → GoesOn t u → Trace σ m u qs
        → AfterFirst latch σ m left (picture_rows σ m s rs ++ qs)
    unfolding picture_rows
    after_then {t} st (stops {s}) e ended line leaves g k =
        let same : s ≡ t = cc in
        absurd (omega (arith, ap (λ (s : State). s.fields.left) same))
    after_then st (draws l d c) e ended line leaves g k = headed st d (leaves _ refl) (trace-then σ m c e g k)

    below-after : Words m → 1 ≤ lines_for_rows σ → (frame latch σ m).refusal ≡ none → Leaves latch σ m left → (n : ℕ)
        → AfterFirst latch σ m left (frame_rows latch σ m ++ below_rows σ m n (frame latch σ m))
    unfolding frame_rows frame below_rows first_fields
    below-after w line ok leaves n = by (opening latch σ m)
      where
        by_end : (k : ℕ) (s : State) → Started latch σ m s → 1 ≤ s.fields.left
            → ((r : FrameRow) → get_elem? (rest σ m (record { state = s; words = k })).rows 0 ≡ some r → r.answer.next.latch ≡ left)
            → (rest σ m (record { state = s; words = k })).refusal ≡ none → Ends (rest σ m (record { state = s; words = k }))
            → AfterFirst latch σ m left (picture_rows σ m s (rest σ m (record { state = s; words = k })).rows
            ++ below_of σ m n (rest σ m (record { state = s; words = k })).refusal (rest σ m (record { state = s; words = k })).state)
        by_end k s st some-lines leaves ok (refusing a) = refuses-none (sym a ∙ ok)
        by_end k s st some-lines leaves ok (complete {s = t} a b c) =
            rw (a, b)
            (after_then st (rest-following σ m (record { state = s; words = k })) b c some-lines leaves (record { latch = refl; fill = refl; next = refl; window = refl })
            (trace σ m (rest-following σ m (onward n t))))

        by : Opening latch σ m → AfterFirst latch σ m left (frame_rows latch σ m ++ below_rows σ m n (frame latch σ m))
        by (opened {n = k} {s} e st) =
            let lines = ap (λ (f : Fields). f.left) st.leads in
            rw e (by_end k s st (omega arith) (rw e at leaves) (rw e at ok) (rest-ends σ m w (record { state = s; words = k })))
        by (closed e) = refuses-none (rw e at ok)

pub cells_up : CellsUp
unfolding picture with_top
cells_up shift soft latch latch' σ m w lk tow fill line ok leaves i q r e f =
    cells-after σ (with_top σ soft) m tow tow refl lk fill refl
    (if-cases (λ (rs : List PictureRow). AfterFirst latch σ m latch' (frame_rows latch σ m ++ rs)) (lt_z (pos 0) shift)
    (λ _. below-after latch σ m latch' w line ok leaves (nat_abs shift)) (λ _. rw append-nil (frame-after latch σ m latch' leaves)))
    (frame-traced latch' (with_top σ soft) m) i q r e f

-- one start
started-similar : {latch : ℕ} {σ : Settings} {m : List ℕ} {s t : State} → null (registered σ.linear σ.tow) ≡ true → Started latch σ m s
    → Started latch σ m t → Similar s t
unfolding first_fields
started-similar tow a b =
    let main : a.main ≡ b.main = given-same a.read b.read in
    record {
      latch = a.latched ∙ sym b.latched;
      fill = ap (λ (f : Fields). f.fill) a.leads ∙ ap (λ (x : MainBlock). x.fill) main ∙ sym (ap (λ (f : Fields). f.fill) b.leads);
      next = ap (λ (f : Fields). f.next.address) a.leads ∙ ap (λ (x : MainBlock). x.rows.address) main
          ∙ sym (ap (λ (f : Fields). f.next.address) b.leads);
      plain = start_plain a tow;
      plain' = start_plain b tow;
    }

first-element : (rs : List PictureRow) {r : PictureRow} → first rs ≡ some r → get_elem? rs 0 ≡ some r
first-element [] e = e
first-element (x ∷ rs) e = e

first-cells : {latch : ℕ} {σ : Settings} {m : List ℕ} {qs rs : List PictureRow} → null (registered σ.linear σ.tow) ≡ true → Traced latch σ m qs
    → Traced latch σ m rs → (q r : PictureRow) → first qs ≡ some q → first rs ≡ some r → ButCursor q.cells r.cells
first-cells tow untraced b q r e f = refuses-none (sym e)
first-cells tow (traced st k) untraced q r e f = refuses-none (sym f)
first-cells {σ} {m} {qs} {rs} tow (traced st k) (traced st' k') q r e f =
    same-cells σ σ m refl (started-similar tow st st') k k' 0 q r (first-element qs e) (first-element rs f)

pub cells-down : CellsDown
unfolding picture with_top
cells-down (pos n) soft latch σ m lk tow fill down = absurd (omega (arith, ltb-true n 0 down))
cells-down (negsuc n) soft latch σ m lk tow fill down =
    let τ = with_top σ soft in
    let above = subst (Traced latch τ m) (sym (above-down n soft latch σ m)) (above-traced latch τ m) in (
      first-cells tow above (frame-traced latch τ m),
      λ leaves. cells-after τ σ m tow tow refl lk fill refl (frame-after latch τ m latch leaves) (frame-traced latch σ m),
    )
