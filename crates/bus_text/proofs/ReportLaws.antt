-- The text of a report, from a frame's start and by each answer of a step.
use Rattle.std.proofs.Common.{Ok, Err}
use mathlib.Core.Path.{◌≡◌, sym, ap, subst, ◌∙◌}
use mathlib.Core.List.{List, ◌++◌, append_assoc}
use Prim.Native.Nat.{ℕ, ◌≤◌}
use native.Mathlib.Omega.{arith}
use lib.ListN.{length}
use Rattle.memory.specs.declared.Refusal.{Refusal}
use Rattle.memory.proofs.ReadBounds.{Words}
use Rattle.settings.specs.declared.Settings.{Settings}
use Rattle.row.specs.declared.DrawnRow.{DrawnRow}
use Rattle.frame.specs.declared.Progress.{Progress}
use Rattle.frame.specs.declared.StepAnswer.{StepAnswer}
use Rattle.frame.specs.declared.StepAnswer.TheVariants as Step
use Rattle.frame.specs.Step.{Stepped, stepped, begin, step, in_bound}
use Rattle.frame.specs.Frame.{frame_row, by_step, rest, frame}
use Rattle.frame.specs.Frame as Frame
use Rattle.frame.proofs.StepLaws.{Advances, advances}
use Rattle.frame.proofs.Frames.{next-step}
use Rattle.frame.proofs.Calls.{in-bound, made-next, started-made}
use Rattle.bus.specs.Bus.{reported}
use Rattle.bus.specs.Bus as Bus
use Rattle.lines.specs.Lines.{text, refusal_line}
use Rattle.bus_text.specs.declared.Text.TheVariants.{Rows}
use Rattle.bus_text.specs.declared.Reporting.{Reporting}
use Rattle.bus_text.specs.BusLines.{total_line, largest_line}
use Rattle.bus_text.specs.FrameReport.{one_screen, bus_row, bus_rows, by_answer, rows_text, frame_text}
use Rattle.bus_text.specs.ToCome.{from_row, to_come, advanced}

-- the two last lines, written as one
regroup : (line end name d s e r f last : List ℕ) → line ++ (end ++ name) ++ d ++ s ++ e ++ r ++ f ++ last ≡ (line ++ end) ++ (name ++ d ++ s ++ e ++ r ++ f ++ last)
regroup line end name d s e r f last = simp append_assoc

pub two-lines : (line d e f : List ℕ)
    → line ++ text "\nlargest: words " ++ d ++ text ", screen " ++ e ++ text ", row " ++ f ++ text "\n"
    ≡ (line ++ text "\n") ++ (text "largest: words " ++ d ++ text ", screen " ++ e ++ text ", row " ++ f ++ text "\n")
two-lines line d e f = regroup line (text "\n") (text "largest: words ") d (text ", screen ") e (text ", row ") f (text "\n")

-- a step of the frame in progress of the report p, with a right row buffer b
module _ (p : Reporting) (m : List ℕ) (w : Words m) (b : List ℕ) (l : length b ≡ 132) where
  abbrev σ : Settings
  σ = p.settings

  by-step : {x : StepAnswer} {cells : List ℕ} → stepped x cells ≡ step σ m (in_bound p.progress) b
      → (rest σ m (in_bound p.progress) ≡ Frame.by_answer (rest σ m) (in_bound p.progress) x cells) × Advances (in_bound p.progress) x
  by-step {x} {cells} e = (
    next-step σ m w (in_bound p.progress) b l ∙ ap (by_step (rest σ m) (in_bound p.progress)) (sym e),
    subst (Advances (in_bound p.progress)) (ap (λ (s : Stepped). s.answer) (sym e)) (advances σ m w (in_bound p.progress) b),
  )

  -- what a row that is handed in prints, then the text of the report after it
  pub row-text : {q : Progress} {r : DrawnRow} {cells : List ℕ} → stepped (Step.Drawn r q) cells ≡ step σ m (in_bound p.progress) b
      → let h = bus_row p.burst one_screen p.before (frame_row r cells) in
      by_answer h (from_row m (advanced p q (reported p.totals h).totals)) (reported p.totals h).answer ≡ to_come m (Rows p)
  unfolding to_come rows_text bus_rows
  row-text {q} e =
      let k = by-step e in
      rw (k.0, in-bound q (made-next σ m w (omega arith) k.1))

  pub end-text : {rows words : ℕ} {cells : List ℕ} → stepped (Step.Ended rows words) cells ≡ step σ m (in_bound p.progress) b
      → total_line p.totals ++ largest_line p.totals ≡ to_come m (Rows p)
  unfolding to_come rows_text bus_rows
  end-text e = rw (by-step e).0

  pub refusal-text : {r : Refusal} {cells : List ℕ} → stepped (Step.Refused r) cells ≡ step σ m (in_bound p.progress) b
      → refusal_line r ≡ to_come m (Rows p)
  unfolding to_come rows_text bus_rows
  refusal-text e = rw (by-step e).0

-- from a start
module _ (σ : Settings) (m : List ℕ) (w : Words m) where
  pub begun-small : {p : Progress} → begin 0 σ m ≡ Ok p → p.words ≤ 12000
  begun-small e = let k = started-made σ m w 0 e in omega arith

  module _ (burst : ℕ) where
    pub begun-text : {p : Progress} → begin 0 σ m ≡ Ok p
        → to_come m (Rows (record { settings = σ; burst = burst; before = p.words; totals = Bus.none; progress = p })) ≡ frame_text burst σ m
    unfolding to_come frame_text frame
    begun-text {p} e = rw (e, in-bound p (started-made σ m w 0 e).1)

    pub refused-text : {r : Refusal} → begin 0 σ m ≡ Err r → refusal_line r ≡ frame_text burst σ m
    unfolding frame_text rows_text bus_rows frame
    refused-text e = rw e
