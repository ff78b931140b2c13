-- Demand 3 with lists: a call stands on the state that the effects above it make, so that the row drawn alone is the same reading and asks for
-- the same addresses.
use Rattle.std.proofs.Common.{Result, Err}
use mathlib.Core.Path.{◌≡◌, refl, ap, ap₂, ◌∙◌}
use mathlib.Core.Bool.{Bool, true, false, ◌&&◌}
use mathlib.Core.List.{List, [], ◌∷◌, ◌++◌}
use Prim.Native.Nat.{ℕ, ◌+◌, ◌/◌}
use native.Mathlib.Omega.{arith}
use lib.ListN.{length, get_or, take, drop}
use lib.Seq.{take-append_seam}
use lib.Dec.{eqb, ltb}
use Rattle.memory.specs.Word.{when◌then◌else◌}
use Rattle.memory.specs.declared.Fault.{Fault}
use Rattle.memory.proofs.ReadBounds.{both}
use Rattle.memory.specs.Reading.{Reading, done, refuse, ask, fault, refusal, absent, Outcome, given, refused, run_from, run, asked}
use Rattle.memory.specs.declared.Refusal.{Refusal}
use Rattle.settings.specs.declared.Settings.{Settings}
use Rattle.state.specs.declared.Fields.{Fields}
use Rattle.state.specs.declared.State.{State}
use Rattle.state.specs.State.{state_of}
use Rattle.row.specs.Row.{Row, row, Called, called, answered, row_call}
use Rattle.joining.specs.declared.Effect.{Effect}
use Rattle.joining.specs.Join.{empty, apply}
use Rattle.joining.proofs.Joining.{apply-empty}
use Rattle.row.specs.declared.DrawnRow.{DrawnRow}
use Rattle.effect.specs.Demand.{state_after}
use Rattle.effect.proofs.Alone.{Stands, goes, stays, tail}
use Rattle.listed.specs.Listed.{written, unless_refused, list_after, row_with, called_with, row_listed}
use Rattle.listed_alone.specs.DemandListed.{Call, is_row, on_lent, in_turn, row_alone, drawn_alone, Demand3Listed}

-- ---- as many addresses as words ----

count_turn : {A : Type 0} (t : Bool) (n k : ℕ) (a : ℕ) (l : List ℕ) (o : Outcome A) (x : Fault) {r : A}
    → (o ≡ given k r → k ≡ n + 1 + length l) → (when t then o else refused x) ≡ given k r → k ≡ n + length (a ∷ (when t then l else []))
count_turn true n k a l o x h e = omega (arith, h e)
count_turn false n k a l o x h e = let q : ◌≡◌ {A = ℕ} 0 1 = cc in absurd (omega arith)

count-from : {A : Type 0} (n : ℕ) (m : List ℕ) (p : Reading A) {k : ℕ} {r : A} → run_from n m p ≡ given k r → k ≡ n + length (asked m p)
unfolding run_from asked
count-from n m (done a) {k = k} e = let q : n ≡ k = cc in omega arith
count-from n m (refuse x) e = let q : ◌≡◌ {A = ℕ} 0 1 = cc in absurd (omega arith)
count-from n m (ask q f) {k = k} e =
    count_turn (ltb (q.address / 2) (length m)) n k q.address _ _ (absent q) (count-from (n + 1) m (f (get_or m (q.address / 2) 0))) e

pub as_many : {A : Type 0} (m : List ℕ) (p : Reading A) {n : ℕ} {r : A} → run m p ≡ given n r → length (asked m p) ≡ n
as_many m p {n} e = omega (arith, count-from 0 m p e)

-- ---- one row ----

-- the row call with right buffer and list
pub right : (σ : Settings) (m : List ℕ) (s : State) (b list : List ℕ) → eqb (length b) 132 && eqb (length list) 12000 ≡ true
    → row_listed σ m s b list ≡ called_with (answered σ s.fields b (run m (row σ s))) (list_after m (row σ s) list)
unfolding row_listed row_call
right σ m s b list e = let k = both (eqb (length b) 132) (eqb (length list) 12000) e in rw (k.0, k.1)

-- .. and with another: it is refused, and the state stays
wrong : (σ : Settings) (m : List ℕ) (s : State) (b list : List ℕ) → eqb (length b) 132 && eqb (length list) 12000 ≡ false
    → state_after s (row_listed σ m s b list).answer ≡ s
unfolding row_listed row_call state_after
wrong σ m s b list = by_size (eqb (length b) 132) (eqb (length list) 12000)
  where
    answer : (t u : Bool) → Result DrawnRow Refusal
    answer t u =
        let c : Called = when t then answered σ s.fields b (run m (row σ s)) else called (Err (refusal s.fields.row (fault 1))) b in
        (when t then (when u then called_with c (list_after m (row σ s) list) else row_with (Err (refusal s.fields.row (fault 25))) b list) else called_with c list).answer

    by_size : (t u : Bool) → t && u ≡ false → state_after s (answer t u) ≡ s
    by_size true true e = let q : ◌≡◌ {A = ℕ} 0 1 = cc in absurd (omega arith)
    by_size true false e = refl
    by_size false u e = refl

-- two lists with addresses written into them: the same in as many places as there are addresses
same-list : (addresses a b : List ℕ) {n : ℕ} → length addresses ≡ n → written addresses a ≡ take n (written addresses b) ++ drop n a
unfolding written
same-list addresses a b e = rw (← e, take-append_seam addresses (drop (length addresses) b))

-- one outcome with two buffers and two lists
same_row : (σ : Settings) (m : List ℕ) (s : State) (c : Call) (o : Outcome Row) → run m (row σ s) ≡ o
    → called_with (answered σ s.fields c.buffer o) (unless_refused o (asked m (row σ s)) c.list)
    ≡ on_lent c (answered σ s.fields c.alone_buffer o).answer (answered σ s.fields c.alone_buffer o).buffer
    (unless_refused o (asked m (row σ s)) c.alone_list)
unfolding on_lent
same_row σ m s c (given n r) e =
    ap (row_with _ _) (same-list (asked m (row σ s)) c.list c.alone_list (as_many m (row σ s) e))
same_row σ m s c (refused x) e = refl

-- ---- a list of row calls ----

module _ (σ : Settings) (m : List ℕ) (first : ℕ) where
  -- the call is the row drawn alone
  pub head : {f : Fields} {above : Effect} {s : State} (c : Call) → is_row c ≡ true → Stands σ m first f above s
      → row_listed σ m s c.buffer c.list ≡ row_alone σ m f c (apply above first)
  unfolding row_alone
  head {f} c t (goes {l} h) =
      rw (h, right σ m (state_of l f) c.alone_buffer c.alone_list (both-sizes c))
      (right σ m (state_of l f) c.buffer c.list t ∙ same_row σ m (state_of l f) c (run m (row σ (state_of l f))) refl)
    where
      both-sizes : (c : Call) → eqb (length c.alone_buffer) 132 && eqb (length c.alone_list) 12000 ≡ true
      both-sizes c = rw (c.alone_size, c.alone_places)
  head {s = s} c t (stays x e h) = right σ m s c.buffer c.list t ∙ rw (h, e)

  turn : (c : Call) (cs : List Call) (f : Fields) (above : Effect) (s : State) → Stands σ m first f above s
      → ((f : Fields) (above : Effect) (s : State) → Stands σ m first f above s → in_turn σ m s cs ≡ drawn_alone σ m first f above cs)
      → in_turn σ m s (c ∷ cs) ≡ drawn_alone σ m first f above (c ∷ cs)
  unfolding in_turn drawn_alone
  turn c cs f above s st rest = by_size (is_row c) refl
    where
      by_size : (t : Bool) → is_row c ≡ t → in_turn σ m s (c ∷ cs) ≡ drawn_alone σ m first f above (c ∷ cs)
      by_size true e =
          rw e (ap₂ ◌∷◌ (head c e st) (rw (right σ m s c.buffer c.list e) (rest _ _ _ (tail σ m first f above c.buffer st))))
      by_size false e = rw (e, wrong σ m s c.buffer c.list e) (rest f above s st)

  in-turn : (cs : List Call) (f : Fields) (above : Effect) (s : State) → Stands σ m first f above s
      → in_turn σ m s cs ≡ drawn_alone σ m first f above cs
  unfolding in_turn drawn_alone
  in-turn [] f above s st = refl
  in-turn (c ∷ cs) f above s st = turn c cs f above s st (in-turn cs)

pub demand-3-listed : Demand3Listed
demand-3-listed σ m s calls = in-turn σ m s.latch calls s.fields empty s (goes (apply-empty s.latch))
