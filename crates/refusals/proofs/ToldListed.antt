-- The same of starts and rows with a list, which add 25, and of the writer call; and an example of each number that they add.
use mathlib.Core.Path.{◌≡◌, refl}
use mathlib.Core.Bool.{true}
use mathlib.Core.List.{List, [], ◌∷◌, ◌++◌}
use Prim.Native.Nat.{ℕ}
use lib.ListN.{length, replicate}
use lib.Dec.{eqb}
use Rattle.memory.proofs.ReadBounds.{if-cases}
use Rattle.settings.specs.declared.Settings.{Settings}
use Rattle.state.specs.declared.State.{State}
use Rattle.start.specs.Start.{start_call}
use Rattle.row.specs.Row.{row_call}
use Rattle.listed.specs.Listed.{StartListed, start_listed, RowListed, row_listed}
use Rattle.writer.specs.declared.Span.{Span}
use Rattle.writer.specs.Writer.{share, may_write, Wrote, write_word}
use Rattle.refusals.specs.Refusals.{start_numbers, start_listed_numbers, row_listed_numbers, writer_numbers, of_start, of_row, of_write, within}
use Rattle.refusals.proofs.Refuses.{within_more}
use Rattle.refusals.proofs.Told.{Lists, any-state, start-told, row-told-by}
use Rattle.refusals.proofs.Examples.{plain}

pub start-listed-told : (latch : ℕ) (σ : Settings) (m list : List ℕ) → within (of_start (start_listed latch σ m list).answer) start_listed_numbers ≡ true
unfolding start_listed
start-listed-told latch σ m list =
    if-cases (λ (x : StartListed). within (of_start x.answer) start_listed_numbers ≡ true) (eqb (length list) 12000)
    (λ _. within_more start_numbers start_listed_numbers refl (of_start (start_call latch σ m)) (start-told latch σ m)) (λ _. refl)

pub row-listed-by : (ns : List ℕ) → within (1 ∷ 25 ∷ 2 ∷ 17 ∷ 7 ∷ []) ns ≡ true → (σ : Settings) (m : List ℕ) (s : State) (buffer list : List ℕ)
    → Lists ns s.fields → within (of_row (row_listed σ m s buffer list).answer) ns ≡ true
unfolding row_listed
row-listed-by ns h σ m s buffer list l =
    let told = row-told-by ns (within_more (1 ∷ 25 ∷ 2 ∷ 17 ∷ 7 ∷ []) ns h (1 ∷ 2 ∷ 17 ∷ 7 ∷ []) refl) σ m s buffer l in
    if-cases Told (eqb (length buffer) 132)
    (λ _. if-cases Told (eqb (length list) 12000) (λ _. told) (λ _. within_more (1 ∷ 25 ∷ 2 ∷ 17 ∷ 7 ∷ []) ns h (25 ∷ []) refl)) (λ _. told)
  where
    Told : RowListed → Type 0
    Told x = within (of_row x.answer) ns ≡ true

pub row-listed-told : (σ : Settings) (m : List ℕ) (s : State) (buffer list : List ℕ)
    → within (of_row (row_listed σ m s buffer list).answer) row_listed_numbers ≡ true
row-listed-told σ m s buffer list = row-listed-by row_listed_numbers refl σ m s buffer list (any-state refl s.fields)

pub write-told : (m : List ℕ) (own other : Span) (a w : ℕ) → within (of_write (write_word m own other a w).answer) writer_numbers ≡ true
unfolding write_word
write-told m own other a w =
    if-cases (λ (x : Wrote). within (of_write x.answer) writer_numbers ≡ true) (share own other) (λ _. refl)
    (λ _. if-cases (λ (x : Wrote). within (of_write x.answer) writer_numbers ≡ true) (may_write own a (length m)) (λ _. refl) (λ _. refl))

-- ---- examples ----

-- no places, in a start and in a row with 132 cells; with 131 cells it is 1
pub listed-25 : (s : State) → (of_start (start_listed 0 plain [] []).answer ≡ 25 ∷ [])
    × (of_row (row_listed plain [] s (replicate 131 0) []).answer ++ of_row (row_listed plain [] s (replicate 132 0) []).answer ≡ 1 ∷ 25 ∷ [])
unfolding start_listed row_listed row_call
listed-25 s = (refl, refl)

abbrev span : ℕ → ℕ → Span
span first last = record { first = first; last = last }

-- spans 0 to 2 and 2 to 5; then an odd address of 0 to 2
pub writes : of_write (write_word (0 ∷ 0 ∷ []) (span 0 2) (span 2 5) 0 7).answer ++ of_write (write_word (0 ∷ 0 ∷ []) (span 0 2) (span 4 5) 1 7).answer
    ≡ writer_numbers
unfolding write_word
writes = refl

-- an address of the other's span, and one outside memory
pub writes-15 : of_write (write_word (0 ∷ 0 ∷ 0 ∷ []) (span 0 2) (span 4 5) 4 7).answer ++ of_write (write_word (0 ∷ []) (span 0 2) (span 4 5) 2 7).answer
    ≡ 15 ∷ 15 ∷ []
unfolding write_word
writes-15 = refl
