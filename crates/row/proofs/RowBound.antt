-- Document 01: "The word count is every word read; a row reads fewer than 12,000." "Row chains may loop: the lines run out." And a row
-- has 132 cells.
use mathlib.Core.Path.{◌≡◌, refl, ◌∙◌}
use mathlib.Core.Bool.{◌&&◌}
use mathlib.Core.List.{List}
use Prim.Native.Nat.{ℕ, ◌+◌, ◌<◌, ◌≤◌}
use native.Mathlib.Omega.{arith}
use native.Mathlib.Nat.{le_refl}
use lib.ListN.{length, length-set}
use lib.Dec.{eqb, lit≤}
use Rattle.memory.specs.Reading.{Outcome, given, run, asked}
use Rattle.memory.proofs.ReadBounds.{Words, Reads, dones, bind, Within, given-within, refused-within, if-cases, run-reads, reads-given, reads-asked}
use Rattle.settings.specs.declared.Settings.{Settings}
use Rattle.state.specs.declared.Fields.{Fields}
use Rattle.state.specs.declared.State.{State}
use Rattle.row.specs.Row.{code_settings, Row, row, with_cursor, Called, answered, row_call}
use Rattle.windows.proofs.WindowBounds.{Placed, After}
use Rattle.plan.proofs.PlanBounds.{plan-reads}
use Rattle.codes.specs.Codes.{blank}
use Rattle.cells.proofs.CellBounds.{cells-read}

-- 132 cells, and a next state one row further, within 4095, with fewer lines left, the same fill, and a window in hand whose number is
-- at most its first row
pub record Drawn (s : State) (r : Row) : Type 0 where
  pub whole : length r.drawing.cells ≡ 132
  pub within : s.fields.row + s.fields.left ≤ 4095
  pub numbered : r.next.row ≡ s.fields.row + 1
  pub fewer : r.next.left < s.fields.left
  pub fill : r.next.fill ≡ s.fields.fill
  pub placed : Placed r.next.window
  pub after : After s.fields.window r.next.window

-- a row: 167 words of blocks, 30 segments of 384, and 3 fill runs
pub row_reads : (σ : Settings) (s : State) → Reads (Drawn s) 11690 (row σ s)
unfolding row
row_reads σ s =
    bind {n = 167} {k = 11523} (lit≤ tt) (plan-reads σ s.fields) λ p hp.
    bind {n = 11523} {k = 0} (lit≤ tt)
    (cells-read (code_settings σ) s.fields.fill p.overlay p.segments (blank s.latch) hp.few hp.narrow hp.inside hp.edges (refl, refl)) λ d h.
    dones
    (record {
      whole = omega arith;
      within = hp.within;
      numbered = hp.numbered;
      fewer = hp.fewer;
      fill = hp.fill;
      placed = hp.placed;
      after = hp.after;
    })

-- the cursor's mark adds no cell
pub cursor-length : (σ : Settings) (f : Fields) (cs : List ℕ) → length (with_cursor σ f cs) ≡ length cs
unfolding with_cursor
cursor-length σ f cs =
    if-cases (λ (r : List ℕ). length r ≡ length cs) (σ.cursor && eqb f.cursor.y f.row) (λ _. simp length-set) (λ _. refl)

answered-length : (σ : Settings) (s : State) (buffer : List ℕ) {t : ℕ} {o : Outcome Row} → length buffer ≡ 132
    → Within (Drawn s) t o → length (answered σ s.fields buffer o).buffer ≡ 132
answered-length σ s buffer l (given-within {a = r} _ h) = cursor-length σ s.fields r.drawing.cells ∙ h.whole
answered-length σ s buffer l refused-within = l

-- on a memory of 16-bit words
module _ (σ : Settings) (m : List ℕ) (b : Words m) (s : State) where
  pub row-drawn : {n : ℕ} {r : Row} → run m (row σ s) ≡ given n r → (n < 12000) × Drawn s r
  row-drawn e = let k = reads-given 0 m b (row_reads σ s) e in (omega arith, k.1)

  pub row-bound : (n : ℕ) (r : Row) → run m (row σ s) ≡ given n r → (n < 12000) × (length r.drawing.cells ≡ 132)
  row-bound n r e = let k = row-drawn e in (k.0, k.1.whole)

  -- a refused row asks for fewer than 12,000 words too
  pub row-asks : length (asked m (row σ s)) < 12000
  row-asks = omega (arith, reads-asked m b (row_reads σ s))

  -- an accepted row leaves fewer lines than it found, whatever its block links to
  pub lines-run-out : (n : ℕ) (r : Row) → run m (row σ s) ≡ given n r → r.next.left < s.fields.left
  lines-run-out n r e = (row-drawn e).1.fewer

  -- a row buffer of 132 cells has 132 after the call, accepted or refused
  pub buffer-length : (buffer : List ℕ) → length buffer ≡ 132 → length (row_call σ m s buffer).buffer ≡ 132
  unfolding row_call
  buffer-length buffer l =
      if-cases (λ (c : Called). length c.buffer ≡ 132) (eqb (length buffer) 132)
      (λ _. answered-length σ s buffer l (run-reads 0 m b (le_refl 11690) (row_reads σ s))) (λ _. l)
