-- The verdict is the frame's: whole where the frame is not refused, with its refusal's number, or its refusal, where it is. The pointer that
-- it blames for a 7 begins where the refusal tells.
use mathlib.Core.Path.{◌≡◌, refl}
use mathlib.Core.Bool.{Bool, true, false}
use mathlib.Core.List.{List}
use mathlib.Core.Option.{Option, none, some}
use Prim.Native.Nat.{ℕ, zero, suc}
use lib.Dec.{eqb}
use Rattle.memory.specs.declared.Fault.{Fault}
use Rattle.memory.specs.declared.Refusal.{Refusal}
use Rattle.memory.specs.Word.{when◌then◌else◌}
use Rattle.memory.specs.Reading.{Outcome, given, refused, refusal, run}
use Rattle.settings.specs.declared.Settings.{Settings}
use Rattle.blocks.specs.declared.MainBlock.{MainBlock}
use Rattle.state.specs.declared.State.{State}
use Rattle.start.specs.Start.{start_from, started}
use Rattle.row.specs.Row.{Row, row, answered, row_call}
use Rattle.frame.specs.declared.Progress.{Progress}
use Rattle.frame.specs.declared.StepAnswer.TheVariants.{Ended}
use Rattle.frame.specs.Step.{begun, begin, row_step, Stepped, stepped, step}
use Rattle.frame.specs.Frame.{by_step, blank, within, rest, from_begin, frame}
use Rattle.blame.specs.declared.Place.{Place}
use Rattle.blame.specs.declared.Place.TheVariants.{Register}
use Rattle.blame.specs.declared.Verdict.{Verdict}
use Rattle.blame.specs.declared.Verdict.TheVariants.{Whole, Blamed, Refused}
use Rattle.blame.specs.Blame.{blamed, mendable, refused_row, by_row, rows_within, rows, main_of, by_start, verdict}
use Rattle.blame.proofs.Frames.{start-refused, tow-told}
use Rattle.mending.specs.Mending.{place_address}
use Rattle.mending.proofs.Steps.{Sixteen}

pub data SameAs : Verdict → Option Refusal → Type 0 where
  same_whole : SameAs Whole none
  same-blamed : {p : Place} {n : ℕ} {r : Refusal} → r.number ≡ n → (r.number ≡ 7 → place_address p ≡ r.from) → SameAs (Blamed p n) (some r)
  same-refused : {r : Refusal} → SameAs (Refused r) (some r)

-- where the pointer to blame for a 7 begins
row_from : (led : Place) (number : ℕ) (x : Fault) → x.number ≡ 7 → place_address (blamed led x) ≡ (refusal number x).from
unfolding blamed
row_from led number x h = rw h

tow-from : (number : ℕ) (x : Fault) → x.from ≡ 0 → x.number ≡ 7 → 0 ≡ (refusal number x).from
tow-from number x e h = rw (h, e)

module _ (σ : Settings) (m : List ℕ) where
  refused-same : (led : Place) (number : ℕ) (x : Fault) → SameAs (refused_row led number x) (some (refusal number x))
  refused-same led number x = by (mendable x.number)
    where
      by : (t : Bool) → SameAs (when t then Blamed (blamed led x) x.number else Refused (refusal number x)) (some (refusal number x))
      by true = same-blamed refl (row_from led number x)
      by false = same-refused

  -- the row call that a frame makes
  blank-call : (s : State) → row_call σ m s blank ≡ answered σ s.fields blank (run m (row σ s))
  unfolding row_call
  blank-call s = refl

  -- one row, and the rows after it
  row_same : (n : ℕ) (led : Place) (p : Progress) → ((led : Place) (q : Progress) → SameAs (rows_within n σ m led q.state) (within n σ m q).refusal)
      → (o : Outcome Row)
      → SameAs (by_row (rows_within n σ m) led p.state.fields.row o)
      (by_step (within n σ m) p (stepped (row_step p (answered σ p.state.fields blank o).answer) (answered σ p.state.fields blank o).buffer)).refusal
  row_same n led p go_on (given k r) = go_on led _
  row_same n led p go_on (refused x) = refused-same led p.state.fields.row x

  rows_same : (n : ℕ) (led : Place) (p : Progress) → SameAs (rows_within n σ m led p.state) (within n σ m p).refusal
  unfolding rows_within within step
  rows_same zero led p = same_whole
  rows_same (suc n) led p =
      rw (blank-call p.state) (by-line (eqb p.state.fields.left 0) _ _ (row_same n _ p (rows_same n) (run m (row σ p.state))))
    where
      by-line : (t : Bool) (v : Verdict) (s : Stepped) → SameAs v (by_step (within n σ m) p s).refusal
          → SameAs (when t then Whole else v) (by_step (within n σ m) p (when t then stepped (Ended p.state.fields.row p.words) blank else s)).refusal
      by-line true v s h = same_whole
      by-line false v s h = h

  pub frame_same : (latch : ℕ) → Sixteen σ m → SameAs (verdict latch σ m) (frame latch σ m).refusal
  unfolding verdict frame begin rows rest
  frame_same latch w = by-main (run m (main_of σ)) refl
    where
      by-start : (n : ℕ) (k : MainBlock) → run m (main_of σ) ≡ given n k → (o : Outcome State) → run m (start_from latch σ) ≡ o
          → SameAs (by_start σ m (given n k) o) (from_begin σ m (begun (started o))).refusal
      by-start n k e (given j s) h = rows_same _ Register (record { state = s; words = j })
      by-start n k e (refused x) h = same-blamed refl (tow-from 0 x (tow-told σ m w.words w.registers latch e h))

      by-main : (o : Outcome MainBlock) → run m (main_of σ) ≡ o
          → SameAs (by_start σ m o (run m (start_from latch σ))) (from_begin σ m (begun (started (run m (start_from latch σ))))).refusal
      by-main (refused x) e = rw (start-refused σ m w.words w.registers latch e) same-refused
      by-main (given n k) e = by-start n k e (run m (start_from latch σ)) refl
