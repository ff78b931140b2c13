-- Readings that refuse with the numbers of a list only: one law for each way to make a reading of others.
use mathlib.Core.Path.{◌≡◌, refl, sym, ◌∙◌}
use mathlib.Core.Bool.{Bool, true, false, ◌||◌}
use mathlib.Core.List.{List, [], ◌∷◌}
use Prim.Native.Nat.{ℕ, zero, suc, ◌+◌, ◌/◌, ◌≤◌}
use native.Mathlib.Omega.{arith}
use lib.ListN.{length, get_or}
use lib.Dec.{ltb, eqb}
use borrow.Author.Tests.{eqb-true, ltb-false}
use Rattle.memory.specs.declared.Fault.{Fault}
use Rattle.memory.specs.declared.Pointer.{Pointer}
use Rattle.memory.specs.Word.{when◌then◌else◌}
use Rattle.memory.specs.Reading.{Role, Ask, Reading, nobody, done, refuse, ask, ◌>>=◌, read_as, check, check_of, Outcome, given, refused, run_from}
use Rattle.memory.specs.Address.{onward, words}
use Rattle.memory.proofs.ReadBounds.{if-cases, both}
use Rattle.holding.proofs.Holds.{Holds}
use Rattle.holding.proofs.Holds as Shared
use Rattle.refusals.specs.Refusals.{has, within}

-- a list that has all of another's has what the other has, and what lies within the other
pub has_more : (ns ms : List ℕ) → within ns ms ≡ true → (n : ℕ) → has n ns ≡ true → has n ms ≡ true
has_more [] ms h n k = let q : ◌≡◌ {A = ℕ} 0 1 = cc in absurd (omega arith)
has_more (x ∷ ns) ms h n k =
    let e = both (has x ms) (within ns ms) h in by (eqb n x) refl k e.0 (has_more ns ms e.1 n)
  where
    by : (t : Bool) → eqb n x ≡ t → t || has n ns ≡ true → has x ms ≡ true → (has n ns ≡ true → has n ms ≡ true) → has n ms ≡ true
    by true q k now rest = rw (eqb-true n x q) now
    by false q k now rest = rest k

pub within_more : (ns ms : List ℕ) → within ns ms ≡ true → (xs : List ℕ) → within xs ns ≡ true → within xs ms ≡ true
within_more ns ms h [] k = refl
within_more ns ms h (x ∷ xs) k =
    let e = both (has x ns) (within xs ns) k in rw (has_more ns ms h x e.0) (within_more ns ms h xs e.1)

-- whatever the words are, its refusal has a number of the list
pub data Refuses {A : Type 0} (ns : List ℕ) : Reading A → Type 0 where
  dones : {a : A} → Refuses ns (done a)
  refuses : {x : Fault} → has x.number ns ≡ true → Refuses ns (refuse x)
  asks : {q : Ask} {f : ℕ → Reading A} → ((w : ℕ) → Refuses ns (f w)) → Refuses ns (ask q f)

-- .. and so of a longer list
pub weaken : {A : Type 0} {ns ms : List ℕ} → within ns ms ≡ true → {p : Reading A} → Refuses ns p → Refuses ms p
weaken h dones = dones
weaken {ns} {ms} h (refuses {x} k) = refuses (has_more ns ms h x.number k)
weaken h (asks g) = asks λ w. weaken h (g w)

-- one reading after another
pub bind : {A B : Type 0} {ns : List ℕ} {p : Reading A} {k : A → Reading B} → Refuses ns p → ((a : A) → Refuses ns (k a)) → Refuses ns (p >>= k)
unfolding ◌>>=◌
bind (dones {a}) f = f a
bind (refuses h) f = refuses h
bind (asks g) f = asks (λ w. bind (g w) f)

pub check-refuses : {ns : List ℕ} (n : ℕ) (b : Bool) → has n ns ≡ true → Refuses ns (check n b)
check-refuses n true h = dones
check-refuses n false h = refuses h

-- a check and what comes after it, which knows that the check was met
pub check-of-then : {B : Type 0} {ns : List ℕ} (n : ℕ) (p : Pointer) (b : Bool) {k : Unit {0} → Reading B} → has n ns ≡ true
    → ((u : Unit {0}) → b ≡ true → Refuses ns (k u)) → Refuses ns (check_of n p b >>= k)
unfolding ◌>>=◌
check-of-then n p true h f = f tt refl
check-of-then n p false h f = refuses h

pub check-then : {B : Type 0} {ns : List ℕ} (n : ℕ) (b : Bool) {k : Unit {0} → Reading B} → has n ns ≡ true
    → ((u : Unit {0}) → b ≡ true → Refuses ns (k u)) → Refuses ns (check n b >>= k)
check-then n b h f = check-of-then n nobody b h f

-- a check whose number the list has unless it is met
pub unless-then : {B : Type 0} {ns : List ℕ} (n : ℕ) (b : Bool) {k : Unit {0} → Reading B} → (b ≡ false → has n ns ≡ true)
    → ((u : Unit {0}) → Refuses ns (k u)) → Refuses ns (check n b >>= k)
unfolding ◌>>=◌
unless-then n true h f = f tt
unless-then n false h f = refuses (h refl)

pub if-refuses : {A : Type 0} {ns : List ℕ} (b : Bool) {p q : Reading A} → Refuses ns p → Refuses ns q → Refuses ns (when b then p else q)
if-refuses {ns} b h k = if-cases (Refuses ns) b (λ _. h) (λ _. k)

-- of what holds of every reading
pub from-shared : {A : Type 0} {P : A → Type 0} {ns : List ℕ} {p : Reading A} → Holds (λ _. Unit) (λ _ _. Unit) (λ x. has x.number ns ≡ true) P p → Refuses ns p
from-shared (Shared.dones h) = dones
from-shared (Shared.refuses h) = refuses h
from-shared (Shared.asks h g) = asks λ w. from-shared (g w tt)

-- words one after the other: none of its own
pub words-refuse : {ns : List ℕ} (linear : Bool) (k : ℕ) (p : Pointer) → Refuses ns (words linear k p)
unfolding words ◌>>=◌
words-refuse linear zero p = dones
words-refuse linear (suc k) p = asks λ w. bind (words-refuse linear k (onward linear p)) λ ws. dones

-- what a word is read as adds none
pub as-refuses : {A : Type 0} {ns : List ℕ} (rs : List Role) {p : Reading A} → Refuses ns p → Refuses ns (read_as rs p)
unfolding read_as
as-refuses [] h = h
as-refuses (r ∷ rs) dones = dones
as-refuses (r ∷ rs) (refuses e) = refuses e
as-refuses (r ∷ rs) (asks g) = asks λ w. as-refuses rs (g w)

-- what such a reading comes to: a missing word adds 7
pub data Told {A : Type 0} (ns : List ℕ) : Outcome A → Type 0 where
  given-told : {k : ℕ} {a : A} → Told ns (given k a)
  refused-told : {x : Fault} → has x.number ns ≡ true → Told ns (refused x)

pub run-told : {A : Type 0} {ns : List ℕ} → has 7 ns ≡ true → (w : ℕ) (m : List ℕ) {p : Reading A} → Refuses ns p → Told ns (run_from w m p)
unfolding run_from
run-told h w m dones = given-told
run-told h w m (refuses e) = refused-told e
run-told {ns} h w m (asks {q} g) =
    if-cases (Told ns) (ltb (q.address / 2) (length m)) (λ _. run-told h (w + 1) m (g (get_or m (q.address / 2) 0))) (λ _. refused-told h)

-- a reading none of whose checks refuses with 7 is refused 7 by a missing word alone: the address told is outside memory
pub data Missing {A : Type 0} (m : List ℕ) : Outcome A → Type 0 where
  given-missing : {k : ℕ} {a : A} → Missing m (given k a)
  refused-missing : {x : Fault} → (x.number ≡ 7 → length m ≤ x.address / 2) → Missing m (refused x)

pub run-missing : {A : Type 0} {ns : List ℕ} → has 7 ns ≡ false → (w : ℕ) (m : List ℕ) {p : Reading A} → Refuses ns p → Missing m (run_from w m p)
unfolding run_from
run-missing h w m dones = given-missing
run-missing {ns} h w m (refuses {x} e) = refused-missing {x = x} λ n. absurd (apart (sym (rw n at e) ∙ h))
  where
    apart : true ≡ false → ⊥
    apart z = let q : ◌≡◌ {A = ℕ} 0 1 = cc in omega arith
run-missing h w m (asks {q} g) =
    if-cases (Missing m) (ltb (q.address / 2) (length m)) (λ _. run-missing h (w + 1) m (g (get_or m (q.address / 2) 0)))
    (λ e. refused-missing λ _. ltb-false (q.address / 2) (length m) e)
