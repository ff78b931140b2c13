-- Every row of a picture is an accepted row, so that its height is 1 to 32; and a frame is accepted where no line is left.
use Rattle.std.proofs.Common.{Result, Ok, Err}
use mathlib.Core.Path.{◌≡◌, sym, ap, ◌∙◌}
use mathlib.Core.List.{List}
use mathlib.Core.Option.{Option, none, some}
use Prim.Native.Nat.{ℕ}
use native.Mathlib.Omega.{arith}
use lib.IntN.{pos}
use lib.Signed.{lt_z}
use Rattle.memory.specs.declared.Refusal.{Refusal}
use Rattle.memory.proofs.ReadBounds.{Words, if-cases}
use Rattle.settings.specs.declared.Settings.{Settings}
use Rattle.settings.specs.Timing.{lines_for_rows}
use Rattle.start.specs.Start.{first_fields}
use Rattle.state.specs.declared.Fields.{Fields}
use Rattle.state.specs.declared.State.{State}
use Rattle.frame.specs.declared.Progress.{Progress}
use Rattle.frame.specs.Step.{begin}
use Rattle.frame.specs.Frame.{Frame, rest, from_begin, frame}
use Rattle.frame.proofs.Frames.{Ends, complete, refusing, rest-ends}
use Rattle.insertion.specs.Insertion.{lines_of}
use Rattle.panel.specs.Line.{is_down}
use Rattle.picture.specs.Picture.{rows_from, begun_rows, frame_rows, below_of, onward, below_rows, first_row, above_row, picture, heights_of}
use Rattle.picture.specs.Heights.{Tall, Cut, RowsAreTall, RowsAreCut, Fills, RowsFill}
use Rattle.picture.proofs.Grounds.{Opening, opened, closed, opening}
use Rattle.picture.proofs.Following.{following, rest-following, follows-tall, follows-cut, follows-fills}

-- a frame that is refused is not accepted
pub refuses-none : {A B : Type 0} {a : A} → ◌≡◌ {A = Option A} (some a) none → B
refuses-none e = let z : ◌≡◌ {A = ℕ} 0 1 = cc in absurd (omega arith)

module _ (σ : Settings) (m : List ℕ) (w : Words m) where
  begun-tall : (x : Result Progress Refusal) → Tall (begun_rows σ m x)
  begun-tall (Ok p) = follows-tall σ m w (rest-following σ m p)
  begun-tall (Err r) = tt

  pub frame-tall : (latch : ℕ) → Tall (frame_rows latch σ m)
  unfolding frame_rows
  frame-tall latch = begun-tall (begin latch σ m)

  below_by : (n : ℕ) (r : Option Refusal) (s : Option State) → Tall (below_of σ m n r s)
  below_by n none (some s) = follows-tall σ m w (rest-following σ m (onward n s))
  below_by n none none = tt
  below_by n (some r) s = tt

  below-tall : (n : ℕ) (f : Frame) → Tall (below_rows σ m n f)
  unfolding below_rows
  below-tall n f = below_by n f.refusal f.state

  first-tall : (x : Result Progress Refusal) → Tall (first_row σ m x)
  first-tall (Ok p) = follows-tall σ m w (following σ m 1 p)
  first-tall (Err r) = tt

  pub above-tall : (latch : ℕ) → Tall (above_row latch σ m)
  unfolding above_row
  above-tall latch = first-tall (begin latch σ m)

  begun-cut : (x : Result Progress Refusal) → Cut (from_begin σ m x).rows
  begun-cut (Ok p) = follows-cut σ m w (rest-following σ m p)
  begun-cut (Err r) = tt

  -- an accepted frame in progress fills the lines left
  pub rest-fills : (p : Progress) → (rest σ m p).refusal ≡ none
      → Fills p.state.fields.left (heights_of (rows_from σ m p)) (lines_of (rest σ m p).rows)
  rest-fills p ok = by (rest-ends σ m w p)
    where
      by : Ends (rest σ m p) → Fills p.state.fields.left (heights_of (rows_from σ m p)) (lines_of (rest σ m p).rows)
      by (complete a b c) = follows-fills σ m w (rest-following σ m p) b c
      by (refusing a) = refuses-none (sym a ∙ ok)

pub rows-are-tall : RowsAreTall
unfolding picture
rows-are-tall shift soft latch σ m w = (
  frame-tall σ m w latch,
  if-cases Tall (lt_z (pos 0) shift) (λ _. below-tall σ m w _ _) (λ _. tt),
  if-cases Tall (is_down shift) (λ _. above-tall _ m w latch) (λ _. tt),
)

pub rows-are-cut : RowsAreCut
unfolding frame
rows-are-cut latch σ m w = begun-cut σ m w (begin latch σ m)

pub rows_fill : RowsFill
unfolding frame frame_rows first_fields
rows_fill latch σ m w ok = by (opening latch σ m)
  where
    by : Opening latch σ m → Fills (lines_for_rows σ) (heights_of (begun_rows σ m (begin latch σ m))) (lines_of (from_begin σ m (begin latch σ m)).rows)
    by (opened {n} {s} e k) =
        let left : s.fields.left ≡ lines_for_rows σ = ap (λ (f : Fields). f.left) k.leads in
        rw (e, ← left) (rest-fills σ m w (record { state = s; words = n }) (rw e at ok))
    by (closed e) = refuses-none (rw e at ok)
