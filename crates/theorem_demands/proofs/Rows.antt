-- Starts, rows and rows beside the cut, with their lists: what each comes to, whatever its numbers' places are.
use Rattle.std.proofs.Common.{Ok, Err, Some, None}
use mathlib.Core.Path.{◌≡◌, refl, sym, ap, ◌∙◌}
use mathlib.Core.Bool.{Bool, true, false}
use mathlib.Core.List.{List, ◌∷◌}
use Prim.Native.Nat.{ℕ, ◌+◌, ◌/◌}
use native.Mathlib.Omega.{arith}
use native.Mathlib.Nat.{zero-add}
use lib.IntN.{ℤ, pos}
use lib.Signed.{lt_z}
use lib.ListN.{length, get_or}
use lib.Dec.{eqb}
use Rattle.memory.specs.Word.{when◌then◌else◌}
use Rattle.memory.specs.declared.Refusal.{Refusal}
use Rattle.memory.specs.Reading.{Reading, done, refuse, ask, Outcome, given, refused, run, asked, fault, refusal, ◌>>=◌}
use Rattle.memory.proofs.Laws.{after, run-after, bind-given, bind-refused}
use Rattle.memory.proofs.ReadBounds.{if-cases}
use Rattle.settings.specs.declared.PointerWords.{PointerWords}
use Rattle.settings.specs.declared.Settings.{Settings}
use Rattle.state.specs.declared.State.{State}
use Rattle.state.specs.State.{state_of}
use Rattle.start.specs.Start.{first_fields, window_start, start_from, started, start_call}
use Rattle.row.specs.declared.DrawnRow.{DrawnRow}
use Rattle.row.specs.Row.{Row, row, called, answered, row_call}
use Rattle.beside.specs.declared.BesideRow.{BesideRow}
use Rattle.beside.specs.Beside.{BesideCalled, told_call, with_one_line, with_top, after_start, row_above}
use Rattle.listed.specs.Listed.{unless_refused, list_after, StartListed, start_with, start_listed, RowListed, row_with, called_with, row_listed}
use Rattle.listed_beside.specs.ListedBeside.{BesideListed, beside_with, told_listed, above_with, below_listed, above_listed, beside_listed}
use Rattle.blame.proofs.Comes as Comes
use Rattle.refusals.proofs.Refuses.{Refuses}
use Rattle.refusals.proofs.Told.{start-refuses, drawing_checks, any-state, row-refuses}
use Rattle.theorem_demands.specs.Demands.{Outside, Inside}
use Rattle.theorem_demands.proofs.Ways.{apart}
use Rattle.theorem_demands.proofs.Missed.{read-inside, run-missed}

-- the checks of a row's reading
abbrev row_checks : List ℕ
row_checks = 2 ∷ 17 ∷ 3 ∷ 4 ∷ drawing_checks

row-checks : (σ : Settings) (s : State) → Refuses row_checks (row σ s)
row-checks σ s = row-refuses σ s (any-state refl s.fields) refl refl

-- refused with the list and the row buffer as they were, or accepted with a list of addresses that are inside memory
pub data StartEnds (m list : List ℕ) : StartListed → Type 0 where
  start-refused : (r : Refusal) → r.row ≡ 0 → Outside m r.number r.address → StartEnds m list (start_with (Err r) list)
  start-given : (n : ℕ) (s : State) (l : List ℕ) → Inside m n l → StartEnds m list (start_with (Ok (record { words = n; state = s })) l)

pub data RowEnds (m : List ℕ) (number : ℕ) (cells list : List ℕ) : RowListed → Type 0 where
  row-refused : (r : Refusal) → r.row ≡ number → Outside m r.number r.address → RowEnds m number cells list (row_with (Err r) cells list)
  row-drawn : (d : DrawnRow) (b l : List ℕ) → Inside m d.words l → RowEnds m number cells list (row_with (Ok d) b l)

pub data BesideEnds (m : List ℕ) (number : ℕ) (cells list : List ℕ) : BesideListed → Type 0 where
  no_row : BesideEnds m number cells list (beside_with (Ok None) cells list)
  beside-refused : (r : Refusal) → r.row ≡ number → Outside m r.number r.address
      → BesideEnds m number cells list (beside_with (Err r) cells list)
  beside-drawn : (d : BesideRow) (b l : List ℕ) → Inside m d.words l → BesideEnds m number cells list (beside_with (Ok (Some d)) b l)

-- ---- a start ----

pub start-ends : (latch : ℕ) (σ : Settings) (m list : List ℕ) → StartEnds m list (start_listed latch σ m list)
unfolding start_listed start_call
start-ends latch σ m list =
    if-cases (StartEnds m list) (eqb (length list) 12000) (λ _. by (run m (start_from latch σ)) refl)
    (λ _. start-refused _ refl (λ e. absurd (omega (arith, e))))
  where
    by : (o : Outcome State) → run m (start_from latch σ) ≡ o
        → StartEnds m list (start_with (started o) (unless_refused o (asked m (start_from latch σ)) list))
    by (given n s) e = start-given n s _ (read-inside m (start_from latch σ) e list)
    by (refused x) e = start-refused (refusal 0 x) refl (run-missed m (start-refuses latch σ) refl e)

-- ---- a row ----

-- the row call on a right row buffer
right : (σ : Settings) (m : List ℕ) (s : State) (cells : List ℕ) → eqb (length cells) 132 ≡ true
    → row_call σ m s cells ≡ answered σ s.fields cells (run m (row σ s))
unfolding row_call
right σ m s cells e = rw e

wrong : (σ : Settings) (m : List ℕ) (s : State) (cells : List ℕ) → eqb (length cells) 132 ≡ false
    → row_call σ m s cells ≡ called (Err (refusal s.fields.row (fault 1))) cells
unfolding row_call
wrong σ m s cells e = rw e

pub row_ends : (σ : Settings) (m : List ℕ) (s : State) (cells list : List ℕ) → RowEnds m s.fields.row cells list (row_listed σ m s cells list)
unfolding row_listed
row_ends σ m s cells list =
    if-cases Ends (eqb (length cells) 132)
    (λ e. if-cases Ends (eqb (length list) 12000) (λ _. rw (right σ m s cells e) (by (run m (row σ s)) refl))
    (λ _. row-refused _ refl (λ q. absurd (omega (arith, q)))))
    (λ e. rw (wrong σ m s cells e) (row-refused (refusal s.fields.row (fault 1)) refl (λ q. absurd (omega (arith, q)))))
  where
    Ends : RowListed → Type 0
    Ends = RowEnds m s.fields.row cells list

    by : (o : Outcome Row) → run m (row σ s) ≡ o → Ends (called_with (answered σ s.fields cells o) (unless_refused o (asked m (row σ s)) list))
    by (given n r) e = row-drawn _ _ _ (read-inside m (row σ s) e list)
    by (refused x) e = row-refused (refusal s.fields.row x) refl (run-missed m (row-checks σ s) refl e)

-- ---- the row beside the cut ----

below : {m : List ℕ} {number : ℕ} {cells list : List ℕ} {x : RowListed} → RowEnds m number cells list x → BesideEnds m number cells list (told_listed x)
below (row-refused r e k) = beside-refused r e k
below {m} (row-drawn d b l h) = let same : Inside m (0 + d.words) l = rw (zero-add d.words) h in beside-drawn _ b l same

-- a start's state is of row 0
module _ (m : List ℕ) where
  anything : {A : Type 0} (p : Reading A) → Comes.Comes m (λ _. Unit {0}) (λ _. Unit {0}) p
  anything (done a) = Comes.dones tt
  anything (refuse x) = Comes.refuses tt
  anything (ask q f) = Comes.asks tt (anything (f (get_or m (q.address / 2) 0)))

  start-row : (latch : ℕ) (σ : Settings) {n : ℕ} {s : State} → run m (start_from latch σ) ≡ given n s → s.fields.row ≡ 0
  unfolding start_from window_start first_fields
  start-row latch σ e =
      Comes.comes-given m (λ _. Unit {0}) 0
      (Comes.bind m (λ _. Unit {0}) {P = λ _. Unit {0}} {R = λ (s : State). s.fields.row ≡ 0} (anything _) λ _ _.
      Comes.bind m (λ _. Unit {0}) (anything _) λ b _. Comes.bind m (λ _. Unit {0}) (anything _) λ w _. Comes.dones refl) e

module _ (σ : Settings) (m : List ℕ) (latch : ℕ) (cells list : List ℕ) where
  abbrev Ends : BesideListed → Type 0
  Ends x = BesideEnds m 0 cells list x

  abbrev both : Reading Row
  both = start_from latch σ >>= row σ

  -- .. then its row, whose words come after the start's
  after-start : (n : ℕ) (s : State) → run m (start_from latch σ) ≡ given n s → (o : Outcome Row) → run m (row σ s) ≡ o
      → Ends (above_with (told_call n (answered σ s.fields cells o)) (unless_refused (after n o) (asked m both) list))
  after-start n s e (given k r) h =
      beside-drawn _ _ _ (read-inside m both (bind-given 0 m (start_from latch σ) (row σ) e ∙ run-after n m (row σ s) ∙ ap (after n) h) list)
  after-start n s e (refused x) h = beside-refused (refusal s.fields.row x) (start-row m latch σ e) (run-missed m (row-checks σ s) refl h)

  by-start : eqb (length cells) 132 ≡ true → (o : Outcome State) → run m (start_from latch σ) ≡ o
      → Ends (above_with (after_start σ m cells (started o)) (list_after m both list))
  by-start l (refused x) e =
      rw (bind-refused 0 m (start_from latch σ) (row σ) e) (beside-refused (refusal 0 x) refl (run-missed m (start-refuses latch σ) refl e))
  by-start l (given n s) e =
      rw (right σ m s cells l, bind-given 0 m (start_from latch σ) (row σ) e ∙ run-after n m (row σ s)) (after-start n s e (run m (row σ s)) refl)

  above-ends : Ends (above_listed σ m latch cells list)
  unfolding above_listed row_above start_call
  above-ends =
      if-cases Ends (eqb (length cells) 132)
      (λ e. if-cases Ends (eqb (length list) 12000)
      (λ _. if-cases (λ (c : BesideCalled). Ends (above_with c (list_after m both list))) (eqb (length cells) 132)
      (λ _. by-start e (run m (start_from latch σ)) refl) (λ q. apart (sym e ∙ q)))
      (λ _. beside-refused _ refl (λ q. absurd (omega (arith, q)))))
      (λ e. if-cases (λ (c : BesideCalled). Ends (above_with c list)) (eqb (length cells) 132) (λ q. apart (sym q ∙ e))
      (λ _. beside-refused _ refl (λ q. absurd (omega (arith, q)))))

pub beside-ends : (σ : Settings) (m : List ℕ) (shift : ℤ) (soft : PointerWords) (latch : ℕ) (last : State) (cells list : List ℕ)
    → BesideEnds m (when lt_z (pos 0) shift then last.fields.row else 0) cells list (beside_listed σ m shift soft latch last cells list)
unfolding beside_listed below_listed
beside-ends σ m shift soft latch last cells list = by (lt_z (pos 0) shift)
  where
    down : BesideListed
    down = when lt_z shift (pos 0) then above_listed (with_top σ soft) m latch cells list else beside_with (Ok None) cells list

    by : (t : Bool) → BesideEnds m (when t then last.fields.row else 0) cells list
        (when t then told_listed (row_listed σ m (state_of last.latch (with_one_line last.fields)) cells list) else down)
    by true = below (row_ends σ m (state_of last.latch (with_one_line last.fields)) cells list)
    by false = if-cases (BesideEnds m 0 cells list) (lt_z shift (pos 0)) (λ _. above-ends (with_top σ soft) m latch cells list) (λ _. no_row)
