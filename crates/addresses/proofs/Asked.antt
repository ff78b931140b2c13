-- The addresses that this crate writes are those that an accepted start or row asked for, in order.
use mathlib.Core.Path.{◌≡◌, refl, ap, sym, ◌∙◌}
use mathlib.Core.Bool.{Bool, true, false, ◌&&◌}
use mathlib.Core.List.{List}
use Prim.Native.Nat.{ℕ, ◌/◌, ◌%◌, ◌^◌, ◌<◌, ◌≤◌}
use native.Mathlib.Omega.{arith}
use lib.ListN.{length, get_or, set}
use lib.Seq.{get_or-set_same, get_or-set_other}
use lib.Dec.{eqb}
use lib.Bits.{bit_or, or_shr, or_mod, or_zero_r}
use borrow.Author.Tests.{eqb-true, eqb-false}
use Rattle.memory.specs.Reading.{given, run, asked}
use Rattle.memory.proofs.ReadBounds.{Words, if-cases, reads-asked}
use Rattle.settings.specs.declared.Settings.{Settings}
use Rattle.state.specs.declared.Fields.{Fields}
use Rattle.state.specs.declared.State.{State}
use Rattle.codes.specs.Attribute.{source_of}
use Rattle.codes.specs.Codes.{blank}
use Rattle.cells.specs.Cells.{row_cells}
use Rattle.cells.specs.Answers.{Drawable}
use Rattle.plan.specs.Plan.{Plan, plan}
use Rattle.start.specs.Start.{start_from}
use Rattle.row.specs.Row.{code_settings, Row, row, with_cursor}
use Rattle.row.proofs.RowLaws.{plan-drawable}
use Rattle.row.proofs.RowBound.{row_reads}
use Rattle.addresses.specs.Addresses.{start_addresses, row_addresses}
use Rattle.addresses.proofs.Trace.{trace-of, parts, joined, alone, trace-done, trace-same}
use Rattle.addresses.proofs.AskedBlocks.{plan-asked, start-asked}
use Rattle.addresses.proofs.AskedCells.{Alike, cells-asked}

pub asked-start : (latch : ℕ) (σ : Settings) (m : List ℕ) {n : ℕ} {s : State} → run m (start_from latch σ) ≡ given n s
    → asked m (start_from latch σ) ≡ start_addresses σ
asked-start latch σ m e = start-asked m σ latch (trace-of 0 m (start_from latch σ) e)

module _ (σ : Settings) (m : List ℕ) (b : Words m) (s : State) (byte : s.fields.fill.code < 256) where
  pub asked-row : {n k : ℕ} {p : Plan} {r : Row} (cs : List ℕ) → given n p ≡ run m (plan σ s.fields) → run m (row σ s) ≡ given k r
      → Alike r.drawing.cells cs → asked m (row σ s) ≡ row_addresses (code_settings σ) m s.fields p.overlay p.segments cs
  unfolding row row_addresses
  asked-row {p = p} {r = r} cs e g same =
      let f = s.fields in
      let u = parts (plan σ f) _ (trace-of 0 m (row σ s) g) in
      let q = u.result in
      let is : q ≡ p = (trace-same u.one (trace-of 0 m (plan σ f) (sym e))).1 in
      let v = parts (row_cells (code_settings σ) f.fill q.overlay q.segments (blank s.latch)) _ u.two in
      let ended = trace-done v.two in
      let sound : Drawable σ.hidden q.overlay q.segments = rw is (plan-drawable σ m b f e).0 in
      let drawn : v.result.cells ≡ r.drawing.cells = ap (λ (x : Row). x.drawing.cells) ended.1 in
      joined u.sum (plan-asked m σ f u.one)
      (alone v.sum (cells-asked m b (code_settings σ) f.fill byte cs q.overlay q.segments s.latch sound (rw drawn same) v.one) ended.0)
      ∙ ap (λ (x : Plan). row_addresses (code_settings σ) m f x.overlay x.segments cs) is

  -- a row's addresses fit a list after those of a start
  pub row_room : length (asked m (row σ s)) ≤ 11690
  row_room = reads-asked m b (row_reads σ s)

-- the cursor's mark is no part of a source
pub cursor-alike : (σ : Settings) (f : Fields) (cs : List ℕ) → Alike cs (with_cursor σ f cs)
unfolding with_cursor
cursor-alike σ f cs i l =
    if-cases (λ (k : List ℕ). source_of (get_or k i 0) ≡ source_of (get_or cs i 0)) (σ.cursor && eqb f.cursor.y f.row) (λ _. by (eqb i f.cursor.x) refl) (λ _. refl)
  where
    x : ℕ
    x = f.cursor.x

    source : (c : ℕ) → source_of (bit_or c (2 ^ 22)) ≡ source_of c
    source c = ap (λ (n : ℕ). n % 4) (or_shr c (2 ^ 22) 20) ∙ or_mod (c / 2 ^ 20) 4 2 ∙ or_zero_r _

    by : (t : Bool) → eqb i x ≡ t → source_of (get_or (set cs x (bit_or (get_or cs x 0) (2 ^ 22))) i 0) ≡ source_of (get_or cs i 0)
    by true h =
        let e : i ≡ x = eqb-true i x h in
        ap (λ (j : ℕ). source_of (get_or (set cs x (bit_or (get_or cs x 0) (2 ^ 22))) j 0)) e ∙ ap source_of (get_or-set_same cs x _ 0 (omega arith)) ∙ source (get_or cs x 0)
        ∙ ap (λ (j : ℕ). source_of (get_or cs j 0)) (sym e)
    by false h = ap source_of (get_or-set_other cs x i _ 0 (eqb-false i x h))
