-- What a word is read as changes nothing in what a reading comes to: its result or refusal, its count of words, the addresses asked for.
use Rattle.std.proofs.Common.{◌≡◌, ℕ, ◌+◌, ◌/◌, ltb, List, [], ◌∷◌, length, get_or, refl, ap}
use Rattle.memory.specs.Word.{when◌then◌else◌}
use Rattle.memory.specs.Reading.{Role, Reading, done, refuse, ask, read_as, Outcome, refused, absent, run_from, asked}
use Rattle.memory.proofs.ReadBounds.{Reads, dones, refuses, asks}

pub run-as : {A : Type 0} (n : ℕ) (m : List ℕ) (rs : List Role) (p : Reading A) → run_from n m (read_as rs p) ≡ run_from n m p
unfolding run_from read_as
run-as n m [] p = refl
run-as n m (r ∷ rs) (done a) = refl
run-as n m (r ∷ rs) (refuse x) = refl
run-as {A} n m (r ∷ rs) (ask q f) =
    ap (λ (o : Outcome A). when ltb (q.address / 2) (length m) then o else refused (absent q)) (run-as (n + 1) m rs (f (get_or m (q.address / 2) 0)))

pub asked-as : {A : Type 0} (m : List ℕ) (rs : List Role) (p : Reading A) → asked m (read_as rs p) ≡ asked m p
unfolding asked read_as
asked-as m [] p = refl
asked-as m (r ∷ rs) (done a) = refl
asked-as m (r ∷ rs) (refuse x) = refl
asked-as m (r ∷ rs) (ask q f) =
    ap (λ (rest : List ℕ). q.address ∷ (when ltb (q.address / 2) (length m) then rest else [])) (asked-as m rs (f (get_or m (q.address / 2) 0)))

-- nor in a bound on the words, or in what holds of the result
pub as-reads : {A : Type 0} {P : A → Type 0} {n : ℕ} (rs : List Role) {p : Reading A} → Reads P n p → Reads P n (read_as rs p)
unfolding read_as
as-reads [] h = h
as-reads (r ∷ rs) (dones h) = dones h
as-reads (r ∷ rs) refuses = refuses
as-reads (r ∷ rs) (asks l g) = asks l (λ w y. as-reads rs (g w y))
