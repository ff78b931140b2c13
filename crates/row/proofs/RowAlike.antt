-- A row drawn from two latches with the same bit 13 asks alike and ends alike but for its cells. And the plan of a row does not depend
-- on its latch.
use mathlib.Core.Path.{◌≡◌, refl}
use mathlib.Core.List.{List, []}
use Prim.Native.Nat.{ℕ}
use Rattle.memory.specs.declared.Fault.{Fault}
use Rattle.memory.specs.Reading.{Reading, done, ◌>>=◌, Outcome, given, refused, run_from, run}
use Rattle.memory.proofs.Laws.{bind-given, bind-refused}
use Rattle.memory.proofs.Related.{Rel, dones, bind, bind-same}
use Rattle.settings.specs.declared.Settings.{Settings}
use Rattle.blocks.specs.declared.RowFormat.{RowFormat}
use Rattle.state.specs.declared.Fields.{Fields}
use Rattle.state.specs.State.{state_of}
use Rattle.plan.specs.Plan.{Plan, plan}
use Rattle.codes.specs.Attribute.{ignores}
use Rattle.codes.specs.Codes.{Drawing, blank, no_list}
use Rattle.cells.specs.Cells.{row_cells}
use Rattle.cells.proofs.Alike.{kept, Alike, alike, cells-keeps}
use Rattle.row.specs.Row.{code_settings, Row, drawn_by, row}

module _ (l₁ l₂ : ℕ) where
  -- two rows that end alike: one plan, and drawings that stand alike
  pub data EndAlike : Row → Row → Type 0 where
    ends : (lines : ℕ) (format : RowFormat) (next : Fields) (d e : Drawing) → Alike l₁ l₂ d e
        → EndAlike (record { lines = lines; format = format; next = next; drawing = d }) (record { lines = lines; format = format; next = next; drawing = e })

  pub row-alike : ignores l₁ ≡ ignores l₂ → (σ : Settings) (f : Fields) → Rel EndAlike (row σ (state_of l₁ f)) (row σ (state_of l₂ f))
  unfolding row
  row-alike same σ f =
      bind-same (plan σ f) λ p.
      bind (cells-keeps l₁ l₂ same (code_settings σ) f.fill p.overlay p.segments _ _ (alike 0 no_list [] [] kept)) λ d e r.
      dones (ends p.lines p.format p.next d e r)

-- a row's outcome, against that of its plan: an accepted row has that plan's next fields
pub data Planned : Outcome Plan → Outcome Row → Type 0 where
  accepts : {i n : ℕ} {p : Plan} {r : Row} → r.next ≡ p.next → Planned (given i p) (given n r)
  refusing : {o : Outcome Plan} {x : Fault} → Planned o (refused x)

pub row-planned : (σ : Settings) (m : List ℕ) (f : Fields) (latch : ℕ) → Planned (run m (plan σ f)) (run m (row σ (state_of latch f)))
unfolding row run_from
row-planned σ m f latch = by-plan (run m (plan σ f)) refl
  where
    drawn : Plan → Reading Drawing
    drawn p = row_cells (code_settings σ) f.fill p.overlay p.segments (blank latch)

    ended : Plan → Drawing → Reading Row
    ended p d = done (drawn_by p d)

    by-cells : (i : ℕ) (p : Plan) (o : Outcome Drawing) → run_from i m (drawn p) ≡ o → Planned (given i p) (run_from i m (drawn p >>= ended p))
    by-cells i p (given n d) e = rw (bind-given i m (drawn p) (ended p) e) (accepts refl)
    by-cells i p (refused x) e = rw (bind-refused i m (drawn p) (ended p) e) refusing

    by-plan : (o : Outcome Plan) → run m (plan σ f) ≡ o → Planned o (run m (plan σ f >>= λ p. drawn p >>= ended p))
    by-plan (given i p) e = rw (bind-given 0 m (plan σ f) (λ p. drawn p >>= ended p) e) (by-cells i p (run_from i m (drawn p)) refl)
    by-plan (refused x) e = rw (bind-refused 0 m (plan σ f) (λ p. drawn p >>= ended p) e) refusing
