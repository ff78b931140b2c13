-- The laws by which a proof follows the marking of a word: one for each way through.
use Rattle.std.proofs.Common.{Result, Ok}
use mathlib.Core.Path.{◌≡◌, refl, ap, sym, ◌∙◌}
use mathlib.Core.List.{List, [], ◌∷◌}
use mathlib.Core.Bool.{Bool, true, false, ◌&&◌, not}
use Prim.Native.Nat.{ℕ, zero, suc, ◌*◌, ◌/◌, ◌%◌, ◌<◌, ◌≤◌}
use native.Mathlib.Omega.{arith}
use lib.ListN.{length, get_or, set, drop}
use lib.Dec.{eqb}
use borrow.Author.Tests.{lt-ltb, le-ltb}
use Rattle.memory.specs.declared.Pointer.{Pointer}
use Rattle.memory.specs.declared.Fault.{Fault}
use Rattle.memory.specs.Reading.{Role, Ask, Reading, ask, asking, in_role, one_pointer, done, absent}
use Rattle.windows.specs.Window.{two_pointers}
use Rattle.blocks.specs.RowBlock.{segment_roles}
use Rattle.converter.specs.Walk.{mark, read_on, over_page_end, shared, shared_word, went, halted, walk}
use Rattle.marking.specs.declared.Shape.TheVariants.{Plain, OnePointer, TwoPointers, Segments}
use Rattle.marking.specs.declared.marked.Marked.{Marked}
use Rattle.marking.specs.Answers.{Kept, passed, trail, trailed, Trails, role_at, pointer_mark, mark_at, Shaped}

-- what is kept: where nothing is done, and by one call after another
pub kept-still : (m : Marked) → Kept m m
kept-still m = record { mem = refl; marks = refl }

pub kept-on : {a b c : Marked} → Kept a b → Kept b c → Kept a c
kept-on k l = record { mem = l.mem ∙ k.mem; marks = l.marks ∙ k.marks }

-- what is marked: nothing; what another reading asks for, whose trail is the same; that, and then what the rest of a reading asks for
module _ {A : Type 0} {held : ℕ} {q : Reading A} where
  pub trails-still : (m : Marked) → trail held m.mem.now m.marks.now q ≡ passed m.marks.now → Trails (Ok tt) m m held q
  trails-still m e = record { kept = kept-still m; marked = sym e }

  pub trails-so : {B : Type 0} {r : Result (Unit {0}) Fault} {a b : Marked} {p : Reading B} → Trails r a b held p
      → (trail held a.mem.now a.marks.now p ≡ trailed r b.marks.now → trail held a.mem.now a.marks.now q ≡ trailed r b.marks.now) → Trails r a b held q
  trails-so t f = record { kept = t.kept; marked = sym (f (sym t.marked)) }

  pub trails-on : {B C : Type 0} {r : Result (Unit {0}) Fault} {a b c : Marked} {p : Reading B} {k : Reading C} → Trails (Ok tt) a b held p → Trails r b c held k
      → (trail held a.mem.now a.marks.now p ≡ passed b.marks.now → trail held a.mem.now a.marks.now q ≡ trail held a.mem.now b.marks.now k) → Trails r a c held q
  trails-on s t f = record { kept = kept-on s.kept t.kept; marked = rw s.kept.mem at t.marked ∙ sym (f (sym s.marked)) }

module _ (held : ℕ) (m marks : List ℕ) (p : Pointer) (k : Role) (role : ℕ) (e : mark k ≡ role) where
  abbrev q : Ask
  q = in_role k (asking p)

  abbrev found : ℕ
  found = get_or marks (p.address / 2) 0

  pub mark-over : read_on held m p.address p.from ≡ true → walk held m marks (ask q done) ≡ halted (over_page_end q)
  unfolding walk
  mark-over t = rw t

  pub mark-absent : read_on held m p.address p.from ≡ false → length m ≤ p.address / 2 → walk held m marks (ask q done) ≡ halted (absent q)
  unfolding walk
  mark-absent t l = rw (t, le-ltb (p.address / 2) (length m) l)

  shared-is : {b : Bool} → not (eqb found 0) && not (eqb found role) ≡ b → shared marks q ≡ b
  unfolding shared
  shared-is h = rw e h

  pub mark-shared : read_on held m p.address p.from ≡ false → p.address / 2 < length m → not (eqb found 0) && not (eqb found role) ≡ true
      → walk held m marks (ask q done) ≡ halted (shared_word q)
  unfolding walk
  mark-shared t l h = rw (t, lt-ltb (p.address / 2) (length m) l, shared-is h)

  pub mark-free : read_on held m p.address p.from ≡ false → p.address / 2 < length m → not (eqb found 0) && not (eqb found role) ≡ false
      → walk held m marks (ask q done) ≡ went (set marks (p.address / 2) role) (get_or m (p.address / 2) 0)
  unfolding walk
  mark-free t l h = rw (t, lt-ltb (p.address / 2) (length m) l, shared-is h, e)

-- the role of a word some words on
pub role-ahead : (i : ℕ) (rs : List Role) → role_at (drop i rs) 0 ≡ role_at rs i
role-ahead zero rs = refl
role-ahead (suc i) [] = refl
role-ahead (suc i) (r ∷ rs) = role-ahead i rs

-- ---- shapes ----
pub plain-shaped : (count : ℕ) → Shaped Plain count []
unfolding mark_at
plain-shaped count i h = refl

past : (i end : ℕ) → end ≤ i → 3 ≡ pointer_mark i end
past i end h = rw (le-ltb i end h)

pub one-shaped : (count : ℕ) → Shaped OnePointer count one_pointer
unfolding mark_at
one-shaped count zero h = refl
one-shaped count (suc zero) h = refl
one-shaped count (suc (suc i)) h = past (suc (suc i)) 2 (omega arith)

pub two_shaped : (count : ℕ) → Shaped TwoPointers count two_pointers
unfolding mark_at
two_shaped count zero h = refl
two_shaped count (suc zero) h = refl
two_shaped count (suc (suc zero)) h = refl
two_shaped count (suc (suc (suc zero))) h = refl
two_shaped count (suc (suc (suc (suc i)))) h = past (suc (suc (suc (suc i)))) 4 (omega arith)

pub segments-shaped : (n : ℕ) → Shaped Segments (5 * n) (segment_roles n)
unfolding mark_at segment_roles
segments-shaped zero i h = absurd (omega arith)
segments-shaped (suc n) zero h = refl
segments-shaped (suc n) (suc zero) h = refl
segments-shaped (suc n) (suc (suc zero)) h = refl
segments-shaped (suc n) (suc (suc (suc zero))) h = refl
segments-shaped (suc n) (suc (suc (suc (suc zero)))) h = refl
segments-shaped (suc n) (suc (suc (suc (suc (suc i))))) h =
    let e : i % 5 ≡ suc (suc (suc (suc (suc i)))) % 5 = omega arith in
    segments-shaped n i (omega arith) ∙ ap (λ (j : ℕ). pointer_mark j 4) e
