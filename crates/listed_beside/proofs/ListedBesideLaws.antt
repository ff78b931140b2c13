-- What the row beside the cut leaves in its list: a law for each way through its definitions.
use Rattle.std.proofs.Common.{Result, Ok, Err, None}
use mathlib.Core.Path.{◌≡◌, refl, ap, ap₂, sym, ◌∙◌}
use mathlib.Core.Bool.{Bool, true, false}
use mathlib.Core.List.{List, ◌++◌}
use Prim.Native.Nat.{ℕ, ◌+◌, ◌≤◌}
use native.Mathlib.Omega.{arith}
use lib.IntN.{ℤ, pos}
use lib.Signed.{lt_z}
use lib.Dec.{eqb}
use lib.ListN.{length, length-append}
use lib.Seq.{sets}
use borrow.Author.Tests.{eq-eqb, ne_eqb}
use Rattle.memory.specs.Word.{when◌then◌else◌}
use Rattle.memory.specs.declared.Refusal.{Refusal}
use Rattle.memory.specs.Reading.{Reading, ◌>>=◌, Outcome, given, refused, fault, refusal, run, asked}
use Rattle.memory.proofs.Laws.{bind-given, bind-refused, after, run-after}
use Rattle.memory.proofs.ReadBounds.{Words, reads-asked}
use Rattle.settings.specs.declared.PointerWords.{PointerWords}
use Rattle.settings.specs.declared.Settings.{Settings}
use Rattle.state.specs.declared.State.{State}
use Rattle.state.specs.State.{state_of}
use Rattle.start.specs.declared.Started.{Started}
use Rattle.start.specs.Start.{start_from, started, start_call}
use Rattle.row.proofs.RowBound.{row_reads}
use Rattle.row.specs.Row.{Row, row, Called, called, answered, row_call}
use Rattle.row.specs.declared.DrawnRow.{DrawnRow}
use Rattle.beside.specs.Beside.{told, BesideCalled, beside_called, told_call, with_one_line, row_below, with_top, row_above, beside_call}
use Rattle.beside.proofs.BesideLaws as Beside
use Rattle.addresses.specs.Addresses.{start_addresses}
use Rattle.addresses.proofs.PlaceLaws.{sets-append}
use Rattle.addresses.proofs.Asked.{asked-start}
use Rattle.listed.specs.Listed.{list_after, row_with, called_with, row_listed}
use Rattle.listed.specs.Answers.{placed}
use Rattle.listed.proofs.ListedLaws.{sets-written, words-asked, asked-bind, sets-before}
use Rattle.listed_beside.specs.ListedBeside.{BesideListed, beside_with, told_listed, above_with, below_listed, above_listed, beside_listed}

-- up
pub below : (σ : Settings) (m : List ℕ) (last : State) (buffer l : List ℕ) {r : Result DrawnRow Refusal} {out k : List ℕ}
    → row_with r out k ≡ row_listed σ m (state_of last.latch (with_one_line last.fields)) buffer l → beside_with (told 0 r) out k ≡ below_listed σ m last buffer l
unfolding below_listed
below σ m last buffer l e = ap told_listed e

-- down: check 1, then 25
module _ (σ : Settings) (m : List ℕ) (latch : ℕ) (buffer l : List ℕ) where
  pub other-buffer : (length buffer ≡ 132 → ⊥) → beside_with (Err (refusal 0 (fault 1))) buffer l ≡ above_listed σ m latch buffer l
  unfolding above_listed
  other-buffer h = rw (ne_eqb (length buffer) 132 h) (ap (λ c. above_with c l) (Beside.unfit σ m latch buffer h))

  pub other-list : length buffer ≡ 132 → (length l ≡ 12000 → ⊥) → beside_with (Err (refusal 0 (fault 25))) buffer l ≡ above_listed σ m latch buffer l
  unfolding above_listed
  other-list h k = rw (eq-eqb (length buffer) 132 h, ne_eqb (length l) 12000 k)

  -- the start and its row, one after the other
  abbrev both : Reading Row
  both = start_from latch σ >>= row σ

  list-refused : {r : Refusal} → Err r ≡ start_call latch σ m → l ≡ list_after m both l
  unfolding start_call
  list-refused {r} e = by (run m (start_from latch σ)) refl e
    where
      by : (o : Outcome State) → run m (start_from latch σ) ≡ o → Err r ≡ started o → l ≡ list_after m both l
      by (given n s) h e = let q : ◌≡◌ {A = ℕ} 0 1 = cc in absurd (omega arith)
      by (refused x) h e = rw (bind-refused 0 m (start_from latch σ) (row σ) h)

  -- the addresses of an accepted row, then those of its start before them
  abbrev pub start_too : Result DrawnRow Refusal → List ℕ → List ℕ
  start_too (Ok d) k = sets k 0 (start_addresses σ)
  start_too (Err r) k = k

  module _ (b : Words m) (s : Started) (len : length l ≡ 12000) (few : s.words ≤ 13)
      (h : run m (start_from latch σ) ≡ given s.words s.state) where
    abbrev xs : List ℕ
    xs = start_addresses σ

    abbrev ys : List ℕ
    ys = asked m (row σ s.state)

    is : asked m (start_from latch σ) ≡ xs
    is = asked-start latch σ m h

    count : s.words ≡ 0 + length xs
    count = words-asked 0 m (start_from latch σ) h ∙ ap (λ (k : List ℕ). 0 + length k) is

    goes_on : {o : Outcome Row} → run m (row σ s.state) ≡ o → run m both ≡ after s.words o
    goes_on e = bind-given 0 m (start_from latch σ) (row σ) h ∙ run-after s.words m (row σ s.state) ∙ ap (after s.words) e

    by-outcome : (o : Outcome Row) {r : Result DrawnRow Refusal} {out : List ℕ} → run m (row σ s.state) ≡ o → called r out ≡ answered σ s.state.fields buffer o
        → start_too r (placed r s.words ys l) ≡ list_after m both l
    by-outcome (refused x) f e = ap (λ (c : Called). start_too c.answer (placed c.answer s.words ys l)) e ∙ rw (goes_on f)
    by-outcome (given n t) f e =
        let room : length (xs ++ ys) ≤ length l = omega (arith, length-append xs ys, reads-asked m b (row_reads σ s.state), count) in
        ap (λ (c : Called). start_too c.answer (placed c.answer s.words ys l)) e
        ∙ sets-before l 0 xs s.words ys (omega (arith, count))
        ∙ ap (λ (k : ℕ). sets (sets l 0 xs) k ys) count
        ∙ sym (sets-append l 0 xs ys)
        ∙ sets-written (xs ++ ys) l room
        ∙ rw (goes_on f, asked-bind 0 m (start_from latch σ) (row σ) h, is)

start-given : (s : Started) (o : Outcome State) → Ok s ≡ started o → o ≡ given s.words s.state
start-given s (given n t) e =
    let same : s ≡ record { words = n; state = t } = cc in
    ap₂ given (ap (λ (x : Started). x.words) (sym same)) (ap (λ (x : Started). x.state) (sym same))
start-given s (refused x) e = let q : ◌≡◌ {A = ℕ} 0 1 = cc in absurd (omega arith)

-- down: the start is refused; its row is answered
module _ (σ : Settings) (m : List ℕ) (latch : ℕ) (buffer l : List ℕ) (h : length buffer ≡ 132) (k : length l ≡ 12000) where
  pub start-refused : {r : Refusal} → Err r ≡ start_call latch σ m → beside_with (Err r) buffer l ≡ above_listed σ m latch buffer l
  unfolding above_listed
  start-refused d =
      rw (eq-eqb (length buffer) 132 h, eq-eqb (length l) 12000 k)
      (ap₂ above_with (Beside.start-refused σ m latch buffer h d) (list-refused σ m latch buffer l d))

  pub above : Words m → (s : Started) (r : Result DrawnRow Refusal) (out list : List ℕ) → Ok s ≡ start_call latch σ m
      → called r out ≡ answered σ s.state.fields buffer (run m (row σ s.state))
      → list ≡ start_too σ m latch buffer l r (placed r s.words (asked m (row σ s.state)) l)
      → beside_with (told s.words r) out list ≡ above_listed σ m latch buffer l
  unfolding above_listed start_call row_call
  above b s r out list d e f =
      let call : called r out ≡ row_call σ m s.state buffer = rw (eq-eqb (length buffer) 132 h) e in
      let few = Beside.start-words latch σ m b d in
      let given_by = start-given s (run m (start_from latch σ)) d in
      rw (eq-eqb (length buffer) 132 h, eq-eqb (length l) 12000 k)
      (ap₂ above_with (Beside.above σ m buffer latch h d call) (f ∙ by-outcome σ m latch buffer l b s k few given_by (run m (row σ s.state)) refl e))

-- with a list of 12,000 places the answer and the second row buffer are those of the row beside the cut without one
module _ (σ : Settings) (m : List ℕ) (latch : ℕ) (last : State) (buffer l : List ℕ) (places : length l ≡ 12000) where
  abbrev without_list : BesideListed → BesideCalled
  without_list x = beside_called x.answer x.buffer

  below-same : without_list (below_listed σ m last buffer l) ≡ row_below σ m last buffer
  unfolding below_listed row_below row_listed
  below-same = rw (eq-eqb (length l) 12000 places) (by (eqb (length buffer) 132))
    where
      s : State
      s = state_of last.latch (with_one_line last.fields)

      by : (t : Bool) → without_list (told_listed (when t then called_with (row_call σ m s buffer) (list_after m (row σ s) l) else called_with (row_call σ m s buffer) l))
          ≡ told_call 0 (row_call σ m s buffer)
      by true = refl
      by false = refl

  above_same : without_list (above_listed σ m latch buffer l) ≡ row_above σ m latch buffer
  unfolding above_listed
  above_same = rw (eq-eqb (length l) 12000 places) (by (eqb (length buffer) 132))
    where
      by : (t : Bool) → without_list (when t then above_with (row_above σ m latch buffer) (list_after m (start_from latch σ >>= row σ) l) else above_with (row_above σ m latch buffer) l)
          ≡ row_above σ m latch buffer
      by true = refl
      by false = refl

pub without-list : (σ : Settings) (m : List ℕ) (shift : ℤ) (soft : PointerWords) (latch : ℕ) (last : State) (buffer l : List ℕ) → length l ≡ 12000
    → beside_called (beside_listed σ m shift soft latch last buffer l).answer (beside_listed σ m shift soft latch last buffer l).buffer
    ≡ beside_call σ m shift soft latch last buffer
unfolding beside_listed beside_call
without-list σ m shift soft latch last buffer l places = by (lt_z (pos 0) shift) (lt_z shift (pos 0))
  where
    by : (t u : Bool)
        → (let x : BesideListed = when t then below_listed σ m last buffer l else when u then above_listed (with_top σ soft) m latch buffer l else beside_with (Ok None) buffer l in beside_called x.answer x.buffer)
        ≡ (when t then row_below σ m last buffer else when u then row_above (with_top σ soft) m latch buffer else beside_called (Ok None) buffer)
    by true u = below-same σ m latch last buffer l places
    by false true = above_same (with_top σ soft) m latch last buffer l places
    by false false = refl
