-- A frame, accepted or not, as the rows that follow one another: each is an accepted row of the state that the one before gave. From
-- this its heights are 1 to 32, and the rows of an accepted one fill the screen.
use mathlib.Core.Path.{◌≡◌, refl, sym, ap, subst}
use mathlib.Core.Bool.{Bool, true, false}
use mathlib.Core.List.{List, [], ◌∷◌}
use mathlib.Core.Option.{Option, some}
use Prim.Native.Nat.{ℕ, zero, suc, ◌+◌, ◌≤◌}
use native.Mathlib.Omega.{arith}
use lib.Dec.{eqb}
use borrow.Author.Tests.{eqb-true, eqb-false}
use Rattle.memory.specs.Reading.{Outcome, given, refused, run}
use Rattle.memory.proofs.ReadBounds.{Words}
use Rattle.settings.specs.declared.Settings.{Settings}
use Rattle.state.specs.declared.State.{State}
use Rattle.row.specs.Row.{Row, row, answered}
use Rattle.frame.specs.declared.Progress.{Progress}
use Rattle.frame.specs.Step.{row_step, Stepped, stepped, step}
use Rattle.frame.specs.Frame.{FrameRow, Frame, by_step, blank, within, rest}
use Rattle.frame.proofs.StepLaws.{no_line, by_row}
use Rattle.insertion.specs.Insertion.{lines_of}
use Rattle.insertion.proofs.Chains.{next_of, drawn_row, right-buffer}
use Rattle.picture.specs.Picture.{picture_row, picture_rows, heights_of}
use Rattle.picture.specs.Heights.{Tall, Cut, Fills, empty, last, whole}
use Rattle.picture.proofs.Grounds.{Grounded, row-grounded, height-bounds, lines-taken, lines_left}

module _ (σ : Settings) (m : List ℕ) where
  pub data Successive : State → List FrameRow → Option State → Type 0 where
    stops : {s : State} → Successive s [] (some s)
    draws : {s : State} {n : ℕ} {r : Row} {rs : List FrameRow} {o : Option State} → (s.fields.left ≡ 0 → ⊥) → run m (row σ s) ≡ given n r
        → Successive (next_of r) rs o → Successive s (drawn_row σ s n r ∷ rs) o

  module _ (go : Progress → Frame) (go_on : (q : Progress) → Successive q.state (go q).rows (go q).state) (p : Progress) where
    abbrev Goes : Stepped → Type 0
    Goes x = Successive p.state (by_step go p x).rows (by_step go p x).state

    by-outcome : (p.state.fields.left ≡ 0 → ⊥) → (o : Outcome Row) → run m (row σ p.state) ≡ o
        → Goes (stepped (row_step p (answered σ p.state.fields blank o).answer) (answered σ p.state.fields blank o).buffer)
    by-outcome l (given k r) e = draws l e (go_on _)
    by-outcome l (refused x) e = stops

    by_lines : (b : Bool) → eqb p.state.fields.left 0 ≡ b → Goes (step σ m p blank)
    by_lines true e = rw (no_line σ m p blank (eqb-true p.state.fields.left 0 e)) stops
    by_lines false e =
        let l = eqb-false p.state.fields.left 0 e in
        subst Goes (by_row σ m p blank l (sym (right-buffer σ m p.state))) (by-outcome l (run m (row σ p.state)) refl)

  pub following : (n : ℕ) (p : Progress) → Successive p.state (within n σ m p).rows (within n σ m p).state
  unfolding within
  following zero p = stops
  following (suc n) p = by_lines (within n σ m) (following n) p (eqb p.state.fields.left 0) refl

  pub rest-following : (p : Progress) → Successive p.state (rest σ m p).rows (rest σ m p).state
  unfolding rest
  rest-following p = following p.state.fields.left p

  module _ (w : Words m) where
    pub follows-tall : {s : State} {rs : List FrameRow} {o : Option State} → Successive s rs o → Tall (picture_rows σ m s rs)
    unfolding picture_rows picture_row
    follows-tall stops = tt
    follows-tall (draws {s} l e k) = let h = height-bounds w (row-grounded σ m s e) in (h.0, h.1, follows-tall k)

    pub follows-cut : {s : State} {rs : List FrameRow} {o : Option State} → Successive s rs o → Cut rs
    follows-cut stops = tt
    follows-cut (draws {s} l e k) = (omega (arith, lines-taken w (row-grounded σ m s e)), follows-cut k)

    -- rows that follow one another until no line is left
    pub follows-fills : {s : State} {rs : List FrameRow} {o : Option State} {t : State} → Successive s rs o → o ≡ some t → t.fields.left ≡ 0
        → Fills s.fields.left (heights_of (picture_rows σ m s rs)) (lines_of rs)
    unfolding picture_rows picture_row
    follows-fills {t} (stops {s}) e z =
        let same : s ≡ t = cc in
        let end : s.fields.left ≡ 0 = omega (arith, ap (λ (s : State). s.fields.left) same) in
        rw end empty
    follows-fills {t} (draws {s} {n} {r} l e k) e' z = by k e' (follows-fills k e' z)
      where
        g : Grounded σ m s.fields r.lines r.next
        g = row-grounded σ m s e

        h : ℕ
        h = r.next.format.lines

        cut : (left lines : ℕ) → 1 ≤ left → left ≤ h → lines ≡ left → Fills left (h ∷ []) (lines ∷ [])
        cut left lines one fits same = rw same (last one fits)

        by : {rs : List FrameRow} {o : Option State} → Successive (next_of r) rs o → o ≡ some t
            → Fills r.next.left (heights_of (picture_rows σ m (next_of r) rs)) (lines_of rs)
            → Fills s.fields.left (h ∷ heights_of (picture_rows σ m (next_of r) rs)) (r.lines ∷ lines_of rs)
        by stops same i =
            let ended : next_of r ≡ t = cc in
            let none : r.next.left ≡ 0 = omega (arith, ap (λ (s : State). s.fields.left) ended) in
            let left = lines_left w g in
            cut s.fields.left r.lines (omega arith) (omega arith) (omega (arith, lines-taken w g))
        by (draws l' e'' k') same i =
            let left = lines_left w g in
            let all : s.fields.left ≡ h + r.next.left = omega arith in
            let own : r.lines ≡ h = omega (arith, lines-taken w g) in
            rw (all, own) (whole {n = r.next.left} (omega arith) i)
