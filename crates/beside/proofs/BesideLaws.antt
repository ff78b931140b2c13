-- What the row beside the cut comes to: a law for each way through its definitions.
use Rattle.std.proofs.Common.{Result, Ok, Err}
use mathlib.Core.Path.{◌≡◌, ap, ◌∙◌}
use mathlib.Core.List.{List}
use Prim.Native.Nat.{ℕ, ◌≤◌}
use native.Mathlib.Omega.{arith}
use lib.ListN.{length}
use borrow.Author.Tests.{eq-eqb, ne_eqb}
use Rattle.memory.specs.declared.Refusal.{Refusal}
use Rattle.memory.specs.Reading.{Outcome, fault, refusal}
use Rattle.memory.proofs.ReadBounds.{Words, Within, given-within, refused-within, run-reads}
use Rattle.settings.specs.declared.Settings.{Settings}
use Rattle.state.specs.declared.State.{State}
use Rattle.state.specs.State.{state_of}
use Rattle.start.specs.declared.Started.{Started}
use Rattle.start.specs.Start.{started, start_call}
use Rattle.start.proofs.StartBound.{start-reads}
use Rattle.row.specs.Row.{called, row_call}
use Rattle.row.specs.declared.DrawnRow.{DrawnRow}
use Rattle.beside.specs.Beside.{told, beside_called, told_call, with_one_line, row_below, after_start, row_above}

-- a start reads at most 13 words
few_words : {P : State → Type 0} {o : Outcome State} (s : Started) → Within P 13 o → Ok s ≡ started o → s.words ≤ 13
few_words s (given-within {k} {a} h _) e =
    let same : s ≡ record { words = k; state = a } = cc in
    let w : s.words ≡ k = ap (λ (t : Started). t.words) same in
    omega arith
few_words s refused-within e = let z : ◌≡◌ {A = ℕ} 0 1 = cc in absurd (omega arith)

pub start-words : (latch : ℕ) (σ : Settings) (m : List ℕ) → Words m → {s : Started} → Ok s ≡ start_call latch σ m → s.words ≤ 13
unfolding start_call
start-words latch σ m w {s} e = few_words s (run-reads 0 m w (omega arith) (start-reads latch σ)) e

module _ (σ : Settings) (m : List ℕ) (buffer : List ℕ) {answer : Result DrawnRow Refusal} {out : List ℕ} where
  pub below : (last : State) → called answer out ≡ row_call σ m (state_of last.latch (with_one_line last.fields)) buffer
      → beside_called (told 0 answer) out ≡ row_below σ m last buffer
  unfolding row_below
  below last e = ap (told_call 0) e

  pub above : (latch : ℕ) {s : Started} → length buffer ≡ 132 → Ok s ≡ start_call latch σ m
      → called answer out ≡ row_call σ m s.state buffer → beside_called (told s.words answer) out ≡ row_above σ m latch buffer
  unfolding row_above
  above latch {s} h d e = rw (eq-eqb (length buffer) 132 h) (ap (told_call s.words) e ∙ ap (after_start σ m buffer) d)

module _ (σ : Settings) (m : List ℕ) (latch : ℕ) (buffer : List ℕ) where
  pub unfit : (length buffer ≡ 132 → ⊥) → beside_called (Err (refusal 0 (fault 1))) buffer ≡ row_above σ m latch buffer
  unfolding row_above
  unfit h = rw (ne_eqb (length buffer) 132 h)

  pub start-refused : {r : Refusal} → length buffer ≡ 132 → Err r ≡ start_call latch σ m
      → beside_called (Err r) buffer ≡ row_above σ m latch buffer
  unfolding row_above
  start-refused h d = rw (eq-eqb (length buffer) 132 h) (ap (after_start σ m buffer) d)
