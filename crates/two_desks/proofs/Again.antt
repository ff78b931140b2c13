-- One call is the lemma of two memories that agree on the words read; of an accepted row the list has the addresses of these words.
use Rattle.std.proofs.Common.{Ok, Err}
use mathlib.Core.Path.{◌≡◌, refl, sym, subst, ◌∙◌}
use mathlib.Core.Bool.{Bool, true, false, ◌&&◌}
use mathlib.Core.List.{List, []}
use Prim.Native.Nat.{ℕ}
use native.Mathlib.Omega.{arith}
use lib.ListN.{length, take, drop}
use lib.Seq.{take-append_seam}
use lib.Dec.{eqb}
use Rattle.memory.specs.Word.{when◌then◌else◌}
use Rattle.memory.specs.Reading.{Outcome, given, refused, fault, refusal, run, asked}
use Rattle.memory.proofs.Agree.{All, none, SameWord}
use Rattle.settings.specs.declared.Settings.{Settings}
use Rattle.state.specs.declared.State.{State}
use Rattle.row.specs.declared.DrawnRow.{DrawnRow}
use Rattle.row.specs.Row.{Row, row, Called, called, answered, row_call}
use Rattle.listed.specs.Listed as Listed
use Rattle.listed.specs.Listed.{unless_refused, list_after, called_with, row_with, RowListed, row_listed}
use Rattle.listed.proofs.ListedLaws.{words-asked}
use Rattle.desks.specs.Finds.{words_read}
use Rattle.desks.specs.Depends.{◌∈◌, Write, written}
use Rattle.desks.proofs.ReadLaws.{given-read}
use Rattle.desks.proofs.Writes.{every, written-length, written-other}
use Rattle.two_desks.specs.DeskCalls.{sized, read_by}
use Rattle.two_desks.specs.Again.{Untouched, Again}
use Rattle.two_desks.proofs.CallLaws.{listed_same, answer-same, read_same}

module _ (σ : Settings) (s : State) (buffer list m : List ℕ) where
  -- what a reading that was accepted reads stands in the first places of the list, as many as its words
  read-list : (o : Outcome Row) → run m (row σ s) ≡ o → (r : DrawnRow) → (answered σ s.fields buffer o).answer ≡ Ok r
      → words_read m (row σ s) ≡ take r.words (unless_refused o (asked m (row σ s)) list)
  unfolding Listed.written
  read-list (given n x) e r a =
      let count : n ≡ r.words = cc in
      let many : r.words ≡ length (asked m (row σ s)) = omega (arith, words-asked 0 m (row σ s) e, count) in
      given-read 0 m (row σ s) e
      ∙ rw many (sym (take-append_seam (asked m (row σ s)) (drop (length (asked m (row σ s))) list)))
  read-list (refused x) e r a = let z : ◌≡◌ {A = ℕ} 0 1 = cc in absurd (omega arith)

  -- the call, by the two tests on its buffers
  abbrev tried : Bool → Bool → RowListed
  tried t u =
      let c : Called = when t then answered σ s.fields buffer (run m (row σ s)) else called (Err (refusal s.fields.row (fault 1))) buffer in
      when t
      then (when u then called_with c (list_after m (row σ s) list) else row_with (Err (refusal s.fields.row (fault 25))) buffer list)
      else called_with c list

  -- .. and one refused 1 or 25 reads nothing
  by_size : (P : ℕ → Type 0) (r : DrawnRow) (t u : Bool) → (tried t u).answer ≡ Ok r
      → ((a : ℕ) → a ∈ take r.words (tried t u).list → P a) → All P (when t && u then words_read m (row σ s) else [])
  by_size P r true true e h =
      every (words_read m (row σ s)) λ a i. h a (subst (λ (l : List ℕ). a ∈ l) (read-list (run m (row σ s)) refl r e) i)
  by_size P r true false e h = none
  by_size P r false u e h = none

  read_all : (P : ℕ → Type 0) (r : DrawnRow) → (row_listed σ m s buffer list).answer ≡ Ok r
      → ((a : ℕ) → a ∈ take r.words (row_listed σ m s buffer list).list → P a) → All P (sized buffer list (words_read m (row σ s)))
  unfolding row_listed row_call
  read_all P r e h = by_size P r (eqb (length buffer) 132) (eqb (length list) 12000) e h

  row_stays : (ws : List Write) (r : DrawnRow) → (row_listed σ m s buffer list).answer ≡ Ok r
      → Untouched ws (take r.words (row_listed σ m s buffer list).list)
      → row_listed σ (written m ws) s buffer list ≡ row_listed σ m s buffer list
  row_stays ws r e h =
      let same = read_all (SameWord m (written m ws)) r e λ a i. sym (written-other a m ws λ w j. h w j a i) in
      sym (listed_same m (written m ws) (sym (written-length m ws)) σ s buffer list same)

pub again : Again
again = record {
  call = λ own other s c m₁ m₂ len h.
      let all = every (read_by m₁ s c) h in
      (answer-same m₁ m₂ len own other s c all, read_same m₁ m₂ len s c all);
  row = λ σ s buffer list m ws r. row_stays σ s buffer list m ws r;
}
