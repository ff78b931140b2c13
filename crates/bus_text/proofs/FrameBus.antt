-- A frame's own figures: the words of its start go with row 0, so that the words of the rows handed in are the frame's; with a burst count
-- they are all accepted, and the report has the frame's words as its total.
use Rattle.std.proofs.Common.{Result, Ok, Err}
use mathlib.Core.Path.{◌≡◌, refl, sym, ap, ◌∙◌}
use mathlib.Core.List.{List, [], ◌∷◌}
use Prim.Native.Nat.{ℕ, ◌+◌, ◌*◌, ◌<◌, ◌≤◌}
use native.Mathlib.Omega.{arith}
use lib.ListN.{length}
use Rattle.memory.proofs.ReadBounds.{Words}
use Rattle.memory.specs.declared.Refusal.{Refusal}
use Rattle.settings.specs.declared.Settings.{Settings}
use Rattle.frame.specs.Step.{begin}
use Rattle.frame.specs.declared.Progress.{Progress}
use Rattle.frame.specs.Frame.{FrameRow, rest, frame, row_words}
use Rattle.frame.proofs.Frames.{induction, rest-rows, rest-words}
use Rattle.frame.proofs.Calls.{started-made}
use Rattle.bus.specs.Bus.{burst_count, none}
use Rattle.bus.specs.Rows.{report, accepted, sum, words_of, bursts_of, released_of, Counting, none_left, counting}
use Rattle.bus.proofs.Reports.{few-bursts, few-released, words-summed, all-accepted}
use Rattle.bus_text.specs.FrameReport.{bus_rows, start_words, frame_bus}

-- the words of a frame's rows, and those that go with the first of them
rows_words : (burst screen before : ℕ) (rs : List FrameRow) → 0 < length rs → sum words_of (bus_rows burst screen before rs) ≡ before + row_words rs
unfolding sum bus_rows row_words
rows_words burst screen before [] h = absurd (omega arith)
rows_words burst screen before (r ∷ []) h = omega arith
rows_words burst screen before (r ∷ s ∷ rs) h = omega (arith, rows_words burst screen 0 (s ∷ rs) (omega arith))

-- every row of a frame has the same burst register
module _ (burst screen : ℕ) (count : burst_count burst ≡ 0 → ⊥) where
  rows-counting : (before : ℕ) (rs : List FrameRow) → Counting (bus_rows burst screen before rs)
  unfolding bus_rows
  rows-counting before [] = none_left
  rows-counting before (r ∷ rs) = counting count (rows-counting 0 rs)

  -- the sums of rows by the sum of their words
  rows_few : burst < 65536 → (before : ℕ) (rs : List FrameRow)
      → (sum bursts_of (bus_rows burst screen before rs) ≤ sum words_of (bus_rows burst screen before rs))
      × (sum released_of (bus_rows burst screen before rs) ≤ 3825 * sum words_of (bus_rows burst screen before rs))
  unfolding bus_rows sum
  rows_few h before [] = (omega arith, omega arith)
  rows_few h before (r ∷ rs) =
      let k = rows_few h 0 rs in
      let n = before + r.answer.words in
      (omega (arith, few-bursts burst n count), omega (arith, few-released burst n count h))

-- "a row reads fewer than 12,000"
rows_bound : (σ : Settings) (m : List ℕ) → Words m → (p : Progress) → row_words (rest σ m p).rows ≤ 12000 * length (rest σ m p).rows
unfolding row_words
rows_bound σ m w =
    induction σ m w (λ p f. row_words f.rows ≤ 12000 * length f.rows) (λ p h. omega arith) (λ p r l. omega arith)
    (λ p q r cells f h i. omega (arith, h.few))

-- a frame with a row, and so with a start that is accepted
module _ (latch : ℕ) (σ : Settings) (m : List ℕ) (w : Words m) (drawn : 0 < length (frame latch σ m).rows) where
  begun : (x : Result Progress Refusal) → begin latch σ m ≡ x → ((frame latch σ m).words ≡ start_words x + row_words (frame latch σ m).rows) × ((frame latch σ m).words ≤ 49152000)
  unfolding frame
  begun (Ok p) e =
      let k = started-made σ m w latch e in
      let n = (rest-rows σ m w p).1 in
      rw e (rest-words σ m w p, omega (arith, k.0, k.1, n, rest-words σ m w p, rows_bound σ m w p))
  begun (Err r) e = absurd (none-drawn (rw e at drawn))
    where
      none-drawn : 0 < 0 → ⊥
      none-drawn h = omega arith

  module _ (burst screen : ℕ) where
    -- the words of the rows handed in are the frame's
    pub bus-words : sum words_of (frame_bus burst screen latch σ m) ≡ (frame latch σ m).words
    bus-words = rows_words burst screen (start_words (begin latch σ m)) (frame latch σ m).rows drawn ∙ sym (begun (begin latch σ m) refl).0

    -- none is refused, and their total is the frame's words
    module _ (count : burst_count burst ≡ 0 → ⊥) (register : burst < 65536) where
      pub none-refused : accepted none (frame_bus burst screen latch σ m) ≡ frame_bus burst screen latch σ m
      unfolding none
      none-refused =
          let k = rows_few burst screen count register (start_words (begin latch σ m)) (frame latch σ m).rows in
          let n = (begun (begin latch σ m) refl).1 in
          let s = bus-words in
          all-accepted none (frame_bus burst screen latch σ m) (rows-counting burst screen count _ _) (omega arith) (omega arith) (omega arith)

      pub total-words : (report none (frame_bus burst screen latch σ m)).words ≡ (frame latch σ m).words
      unfolding none
      total-words =
          let k = words-summed none (frame_bus burst screen latch σ m) in
          let e = ap (sum words_of) none-refused in
          let f = bus-words in
          omega arith
