-- The laws by which a proof follows the rows of a frame: one for each outcome of its next row.
use Rattle.std.proofs.Common.{Ok, Err}
use mathlib.Core.Path.{◌≡◌, refl, sym, ap, ◌∙◌}
use mathlib.Core.Bool.{Bool, true, false}
use mathlib.Core.List.{List}
use Prim.Native.Nat.{ℕ, zero, suc, ◌<◌, ◌≤◌}
use native.Mathlib.Omega.{arith}
use native.Mathlib.Nat.{le_refl}
use lib.Dec.{eqb}
use borrow.Author.Tests.{eq-eqb, ne_eqb}
use Rattle.memory.specs.Word.{when◌then◌else◌}
use Rattle.memory.specs.declared.Fault.{Fault}
use Rattle.memory.specs.Reading.{Outcome, given, refused, run}
use Rattle.memory.proofs.ReadBounds.{Words}
use Rattle.settings.specs.declared.Settings.{Settings}
use Rattle.state.specs.declared.State.{State}
use Rattle.row.specs.Row.{Row, row}
use Rattle.row.proofs.RowBound.{row-drawn}
use Rattle.blame.specs.declared.Place.{Place}
use Rattle.blame.specs.declared.Verdict.{Verdict}
use Rattle.blame.specs.declared.Verdict.TheVariants.{Whole}
use Rattle.blame.specs.Blame.{leader, refused_row, next_state, by_row, rows_within, rows}
use Rattle.blame.specs.Answers.{walked}

if-same : (b : Bool) (x : Verdict) {y z : Verdict} → (b ≡ false → y ≡ z) → (when b then x else y) ≡ (when b then x else z)
if-same true x h = refl
if-same false x h = h refl

module _ (σ : Settings) (m : List ℕ) (w : Words m) where
  -- two ways to go on that agree wherever fewer lines are left
  agree : (f g : Place → State → Verdict) (led : Place) (number : ℕ) (s : State) (o : Outcome Row) → run m (row σ s) ≡ o
      → ((led : Place) (t : State) → t.fields.left < s.fields.left → f led t ≡ g led t) → by_row f led number o ≡ by_row g led number o
  agree f g led number s (given n r) e same = same led (next_state r) (row-drawn σ m w s e).1.fewer
  agree f g led number s (refused x) e same = refl

  none_left : (n : ℕ) (led : Place) (s : State) → s.fields.left ≡ 0 → rows_within n σ m led s ≡ Whole
  unfolding rows_within
  none_left zero led s e = refl
  none_left (suc n) led s e = rw (eq-eqb _ 0 e)

  -- numbers of rows that the lines left do not exceed give one verdict: what the definition counts down never runs out
  enough : (n k : ℕ) (led : Place) (s : State) → s.fields.left ≤ n → s.fields.left ≤ k → rows_within n σ m led s ≡ rows_within k σ m led s
  unfolding rows_within
  enough zero k led s h l = none_left zero led s (omega arith) ∙ sym (none_left k led s (omega arith))
  enough (suc n) zero led s h l = none_left (suc n) led s (omega arith)
  enough (suc n) (suc k) led s h l =
      if-same (eqb s.fields.left 0) Whole λ _.
      agree (rows_within n σ m) (rows_within k σ m) _ _ s (run m (row σ s)) refl λ led₁ t less. enough n k led₁ t (omega arith) (omega arith)

  module _ (led : Place) (s : State) where
    pub rows_end : s.fields.left ≡ 0 → rows σ m led s ≡ Whole
    unfolding rows
    rows_end e = none_left _ led s e

    -- the verdict is the next row's, and the verdict from there
    pub rows_row : (s.fields.left ≡ 0 → ⊥)
        → rows σ m led s ≡ by_row (rows σ m) (leader s.fields.row s.fields.window led) s.fields.row (run m (row σ s))
    unfolding rows rows_within
    rows_row l =
        let n = s.fields.left in
        enough n (suc n) led s (le_refl n) (omega arith) ∙ rw (ne_eqb n 0 l)
        (agree (rows_within n σ m) (rows σ m) _ _ s (run m (row σ s)) refl λ led₁ t less. enough n _ led₁ t (omega arith) (le_refl _))

    -- from what `walk_row` says of the row
    pub next-fewer : {t : State} → Ok t ≡ walked (run m (row σ s)) → t.fields.left < s.fields.left
    next-fewer {t} e = by (run m (row σ s)) refl e
      where
        by : (o : Outcome Row) → run m (row σ s) ≡ o → Ok t ≡ walked o → t.fields.left < s.fields.left
        by (given n r) h k =
            let same : t ≡ next_state r = cc in
            omega (arith, ap (λ (t : State). t.fields.left) same, (row-drawn σ m w s h).1.fewer)
        by (refused x) h k = let q : ◌≡◌ {A = ℕ} 0 1 = cc in absurd (omega arith)

    pub next-rows : (s.fields.left ≡ 0 → ⊥) → {t : State} → Ok t ≡ walked (run m (row σ s))
        → rows σ m led s ≡ rows σ m (leader s.fields.row s.fields.window led) t
    next-rows l {t} e = rows_row l ∙ by (run m (row σ s)) e
      where
        by : (o : Outcome Row) → Ok t ≡ walked o → by_row (rows σ m) (leader s.fields.row s.fields.window led) s.fields.row o
            ≡ rows σ m (leader s.fields.row s.fields.window led) t
        by (given n r) k = let same : next_state r ≡ t = cc in ap (rows σ m _) same
        by (refused x) k = let q : ◌≡◌ {A = ℕ} 0 1 = cc in absurd (omega arith)

    pub refused-rows : (s.fields.left ≡ 0 → ⊥) → {x : Fault} → Err x ≡ walked (run m (row σ s))
        → rows σ m led s ≡ refused_row (leader s.fields.row s.fields.window led) s.fields.row x
    refused-rows l {x} e = rows_row l ∙ by (run m (row σ s)) e
      where
        by : (o : Outcome Row) → Err x ≡ walked o → by_row (rows σ m) (leader s.fields.row s.fields.window led) s.fields.row o
            ≡ refused_row (leader s.fields.row s.fields.window led) s.fields.row x
        by (given n r) k = let q : ◌≡◌ {A = ℕ} 0 1 = cc in absurd (omega arith)
        by (refused y) k = let same : y ≡ x = cc in ap (refused_row _ _) same
