-- An accepted reading read every word that it asked for, so its addresses are inside memory. A refused one has a number of its list; none of
-- its checks has 7, so 7 is a missing word's, whose address is outside.
use mathlib.Core.Path.{◌≡◌, refl, subst}
use mathlib.Core.Bool.{Bool, true, false}
use mathlib.Core.List.{List, [], ◌∷◌}
use Prim.Native.Nat.{ℕ, zero, suc, ◌+◌, ◌/◌, ◌<◌}
use native.Mathlib.Omega.{arith}
use lib.ListN.{length, get_or, drop, get_or-append}
use lib.Dec.{ltb}
use borrow.Author.Tests.{ltb-true}
use Rattle.memory.specs.Word.{when◌then◌else◌}
use Rattle.memory.specs.declared.Fault.{Fault}
use Rattle.memory.specs.Reading.{Reading, done, refuse, ask, absent, Outcome, given, refused, run_from, run, asked}
use Rattle.listed.specs.Listed.{written}
use Rattle.listed.proofs.ListedLaws.{words-asked}
use Rattle.refusals.specs.Refusals.{has, within}
use Rattle.refusals.proofs.Refuses.{Refuses, weaken, Told, given-told, refused-told, run-told, Missing, given-missing, refused-missing, run-missing}
use Rattle.theorem_demands.specs.Demands.{Outside, Inside}

-- ---- accepted ----

asked-inside : {A : Type 0} (n : ℕ) (m : List ℕ) (p : Reading A) {k : ℕ} {a : A} → run_from n m p ≡ given k a → Inside m (length (asked m p)) (asked m p)
unfolding run_from asked
asked-inside n m (done b) e i h = absurd (omega (arith, h))
asked-inside n m (refuse x) e i h = absurd (omega (arith, h))
asked-inside n m (ask q f) {k} {a} e i h =
    turn (ltb (q.address / 2) (length m)) refl (asked-inside (n + 1) m (f (get_or m (q.address / 2) 0))) e i h
  where
    turn : (t : Bool) → ltb (q.address / 2) (length m) ≡ t
        → (run_from (n + 1) m (f (get_or m (q.address / 2) 0)) ≡ given k a
        → Inside m (length (asked m (f (get_or m (q.address / 2) 0)))) (asked m (f (get_or m (q.address / 2) 0))))
        → (when t then run_from (n + 1) m (f (get_or m (q.address / 2) 0)) else refused (absent q)) ≡ given k a
        → Inside m (suc (length (when t then asked m (f (get_or m (q.address / 2) 0)) else [])))
        (q.address ∷ (when t then asked m (f (get_or m (q.address / 2) 0)) else []))
    turn true b g e zero h = ltb-true (q.address / 2) (length m) b
    turn true b g e (suc i) h = g e i (omega (arith, h))
    turn false b g e i h = let z : ◌≡◌ {A = ℕ} 0 1 = cc in absurd (omega arith)

pub read-inside : {A : Type 0} (m : List ℕ) (p : Reading A) {k : ℕ} {a : A} → run m p ≡ given k a → (list : List ℕ)
    → Inside m k (written (asked m p) list)
unfolding written
read-inside m p {k} e list i h =
    let count = words-asked 0 m p e in
    let less : i < length (asked m p) = omega (arith, h, count) in
    rw (get_or-append (asked m p) (drop (length (asked m p)) list) 0 i less) (asked-inside 0 m p e i less)

-- ---- refused ----

pub missed : {A : Type 0} (m : List ℕ) {o : Outcome A} {x : Fault} → Missing m o → o ≡ refused x → Outside m x.number x.address
missed m given-missing e = let z : ◌≡◌ {A = ℕ} 0 1 = cc in absurd (omega arith)
missed m {x} (refused-missing {x = y} h) e = let same : y ≡ x = cc in subst (λ (f : Fault). Outside m f.number f.address) same h

pub run-missed : {A : Type 0} {ks : List ℕ} (m : List ℕ) {p : Reading A} → Refuses ks p → has 7 ks ≡ false → {x : Fault} → run m p ≡ refused x
    → Outside m x.number x.address
run-missed m h z e = missed m (run-missing z 0 m h) e

pub run-number : {A : Type 0} {ks : List ℕ} (ns m : List ℕ) {p : Reading A} → Refuses ks p → within ks ns ≡ true → has 7 ns ≡ true → {x : Fault}
    → run m p ≡ refused x → has x.number ns ≡ true
run-number {A} ns m h w z e = out (run-told z 0 m (weaken w h)) e
  where
    out : {o : Outcome A} {x : Fault} → Told ns o → o ≡ refused x → has x.number ns ≡ true
    out given-told e = let z : ◌≡◌ {A = ℕ} 0 1 = cc in absurd (omega arith)
    out {x} (refused-told {x = y} h) e = let same : y ≡ x = cc in subst (λ (f : Fault). has f.number ns ≡ true) same h
