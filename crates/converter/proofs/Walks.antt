-- What an accepted walk has met: each word asked for is in memory, none was read on over a page end, and at the end each has the mark of
-- the role that it was read in. So the linear reading on the turned memory gets the words that it needs.
use mathlib.Core.Path.{◌≡◌, refl, ap, sym, subst, ◌∙◌}
use mathlib.Core.Bool.{Bool, true, false}
use mathlib.Core.List.{List, [], ◌∷◌}
use Prim.Native.Nat.{ℕ, zero, suc, ◌+◌, ◌/◌, ◌<◌, ◌≤◌}
use native.Mathlib.Omega.{arith}
use lib.ListN.{length, get_or, length-set}
use lib.Seq.{get_or-set_same, get_or-set_other}
use lib.Dec.{ltb, eqb}
use borrow.Author.Tests.{ltb-true, eqb-true, eqb-false, not-false}
use Rattle.memory.specs.declared.Fault.{Fault}
use Rattle.memory.specs.Word.{when◌then◌else◌}
use Rattle.memory.specs.Reading.{Role, First, Second, Other, Ask, Reading, done, refuse, ask, given, absent, run_from, asked}
use Rattle.memory.proofs.ReadBounds.{Words, Reads}
use Rattle.memory.proofs.ReadBounds as Bounds
use Rattle.converter.specs.Walk.{mark, word_of, read_on, over_page_end, shared, shared_word, marked, Walked, went, halted, walk}
use Rattle.converter.specs.Converter.{turned, turned_memory}
use Rattle.converter.proofs.Alike.{Alike, dones, asks}

-- ---- the turned memory ----
pub turned-length : (marks m : List ℕ) → length (turned_memory marks m) ≡ length m
unfolding turned_memory
turned-length marks [] = refl
turned-length [] (w ∷ m) = refl
turned-length (k ∷ marks) (w ∷ m) = ap suc (turned-length marks m)

turned_none : (k : ℕ) → turned k 0 ≡ 0
turned_none k = if-same (eqb k 1)
  where
    if-same : (b : Bool) → ◌≡◌ {A = ℕ} (when b then 0 else 0) 0
    if-same true = refl
    if-same false = refl

pub turned-word : (marks m : List ℕ) (i : ℕ) → get_or (turned_memory marks m) i 0 ≡ turned (get_or marks i 0) (get_or m i 0)
unfolding turned_memory
turned-word marks [] i = sym (turned_none (get_or marks i 0))
turned-word [] (w ∷ m) i = refl
turned-word (k ∷ marks) (w ∷ m) zero = refl
turned-word (k ∷ marks) (w ∷ m) (suc i) = turned-word marks m i

-- ---- an accepted walk, word by word ----
module _ (held : ℕ) (m : List ℕ) where
  pub data Walks {A : Type 0} (after : List ℕ) (a : A) : List ℕ → Reading A → Type 0 where
    ends : {marks : List ℕ} {x : A} → marks ≡ after → x ≡ a → Walks after a marks (done x)
    goes : {marks : List ℕ} {q : Ask} {f : ℕ → Reading A} → read_on held m q.address q.from ≡ false → ltb (q.address / 2) (length m) ≡ true
        → shared marks q ≡ false → Walks after a (marked marks q) (f (word_of m q.address)) → Walks after a marks (ask q f)

  -- the tests of a word that was accepted
  record Passes {A : Type 0} (r t s : Bool) (w o : Walked A) : Type 0 where
    on : r ≡ false
    there : t ≡ true
    apart : s ≡ false
    rest : w ≡ o

  tests : {A : Type 0} (r t s : Bool) (x y z : Fault) (w : Walked A) {marks : List ℕ} {a : A}
      → (when r then halted x else when t then (when s then halted y else w) else halted z) ≡ went marks a → Passes r t s w (went marks a)
  tests false true false x y z w e = record { on = refl; there = refl; apart = refl; rest = e }
  tests true t s x y z w e = let q : ◌≡◌ {A = ℕ} 0 1 = cc in absurd (omega arith)
  tests false false s x y z w e = let q : ◌≡◌ {A = ℕ} 0 1 = cc in absurd (omega arith)
  tests false true true x y z w e = let q : ◌≡◌ {A = ℕ} 0 1 = cc in absurd (omega arith)

  pub walks : {A : Type 0} (p : Reading A) (marks : List ℕ) {after : List ℕ} {a : A} → walk held m marks p ≡ went after a → Walks after a marks p
  unfolding walk
  walks (done x) marks {after} {a} e = let same : marks ≡ after = cc in let result : x ≡ a = cc in ends same result
  walks (refuse x) marks e = let q : ◌≡◌ {A = ℕ} 0 1 = cc in absurd (omega arith)
  walks (ask q f) marks e =
      let t = tests (read_on held m q.address q.from) (ltb (q.address / 2) (length m)) (shared marks q) (over_page_end q) (shared_word q) (absent q) _ e in
      goes t.on t.there t.apart (walks (f (word_of m q.address)) (marked marks q) t.rest)

-- ---- marks stay ----
-- a word that has a mark keeps it
pub record Kept (marks after : List ℕ) : Type 0 where
  pub keeps : (i : ℕ) → eqb (get_or marks i 0) 0 ≡ false → get_or after i 0 ≡ get_or marks i 0

pub kept_on : {a b c : List ℕ} → Kept a b → Kept b c → Kept a c
kept_on h k = record { keeps = λ i e. k.keeps i (ap (λ (n : ℕ). eqb n 0) (h.keeps i e) ∙ e) ∙ h.keeps i e }

pub kept_same : {a b : List ℕ} → a ≡ b → Kept a b
kept_same e = record { keeps = λ i _. ap (λ (ms : List ℕ). get_or ms i 0) (sym e) }

-- a mark is not 0
mark-real : (r : Role) → eqb (mark r) 0 ≡ false
mark-real First = refl
mark-real Second = refl
mark-real Other = refl

module _ (marks : List ℕ) (q : Ask) (l : q.address / 2 < length marks) where
  pub marked-there : get_or (marked marks q) (q.address / 2) 0 ≡ mark q.role
  marked-there = get_or-set_same marks (q.address / 2) (mark q.role) 0 l

  pub marked-kept : shared marks q ≡ false → Kept marks (marked marks q)
  unfolding shared
  marked-kept s = record { keeps = λ i e. by_place i e (eqb i (q.address / 2)) refl }
    where
      here : (i : ℕ) → get_or marks (q.address / 2) 0 ≡ mark q.role → i ≡ q.address / 2 → get_or (marked marks q) i 0 ≡ get_or marks i 0
      here i h p = ap (λ (j : ℕ). get_or (marked marks q) j 0) p ∙ marked-there ∙ sym h ∙ ap (λ (j : ℕ). get_or marks j 0) (sym p)

      by_place : (i : ℕ) → eqb (get_or marks i 0) 0 ≡ false → (t : Bool) → eqb i (q.address / 2) ≡ t → get_or (marked marks q) i 0 ≡ get_or marks i 0
      by_place i e false h = get_or-set_other marks (q.address / 2) i (mark q.role) 0 (eqb-false i (q.address / 2) h)
      by_place i e true h =
          let p : i ≡ q.address / 2 = eqb-true i (q.address / 2) h in
          let z : eqb (get_or marks (q.address / 2) 0) 0 ≡ false = rw p at e in
          here i (eqb-true _ _ (not-false _ (rw z at s))) p

pub record WalkedOn (m marks after : List ℕ) : Type 0 where
  pub kept : Kept marks after
  pub size : length after ≡ length m

pub walks-on : {held : ℕ} {m : List ℕ} {A : Type 0} {after : List ℕ} {a : A} {marks : List ℕ} {p : Reading A} → length marks ≡ length m → Walks held m after a marks p
    → WalkedOn m marks after
walks-on l (ends e _) = record { kept = kept_same e; size = ap length (sym e) ∙ l }
walks-on {m} {marks} l (goes {q} o t s w) =
    let there : q.address / 2 < length marks = rw (← l) at (ltb-true (q.address / 2) (length m) t) in
    let r = walks-on (length-set marks (q.address / 2) (mark q.role) ∙ l) w in
    record { kept = kept_on (marked-kept marks q there s) r.kept; size = r.size }

-- ---- the linear reading on the turned memory ----
module _ (held : ℕ) (m : List ℕ) (b : Words m) (fin : List ℕ) where
  -- what both come to: the same count of words, related results, the same addresses
  pub record Follows {A B : Type 0} (R : ℕ → A → B → Type 0) (c : ℕ) (p : Reading A) (q : Reading B) (a : A) : Type 0 where
    pub count : ℕ
    pub result : B
    pub before : run_from c m p ≡ given count a
    pub after : run_from c (turned_memory fin m) q ≡ given count result
    pub related : R count a result
    pub addresses : asked (turned_memory fin m) q ≡ asked m p

  -- the word that the linear one gets
  word_after : (q : Ask) → get_or fin (q.address / 2) 0 ≡ mark q.role
      → get_or (turned_memory fin m) (q.address / 2) 0 ≡ turned (mark q.role) (word_of m q.address)
  word_after q e = turned-word fin m (q.address / 2) ∙ ap (λ (k : ℕ). turned k (word_of m q.address)) e

  pub follows : {A B : Type 0} {R : ℕ → A → B → Type 0} {P : A → Type 0} {after : List ℕ} {a : A} {n c : ℕ} {marks : List ℕ} {p : Reading A} {q : Reading B}
      → length marks ≡ length m → Kept after fin → Walks held m after a marks p → Reads P n p → c + n ≤ 12000 → Alike held m R c p q → Follows R c p q a
  unfolding run_from asked
  follows {R} {c} l k (ends _ e) (Bounds.dones _) i (dones {b = y} r) =
      record { count = c; result = y; before = ap (given c) e; after = refl; related = subst (λ x. R c x y) e r; addresses = refl }
  follows {n} {c} {marks} l k (goes {q} o t s w) (Bounds.asks {k = j} h g) i (asks {r} e x) =
      let there : q.address / 2 < length marks = rw (← l) at (ltb-true (q.address / 2) (length m) t) in
      let size = length-set marks (q.address / 2) (mark q.role) ∙ l in
      let own = marked-there marks q there in
      let final = (kept_on (walks-on size w).kept k).keeps (q.address / 2) (ap (λ (n : ℕ). eqb n 0) own ∙ mark-real q.role) ∙ own in
      let rest = follows {n = j} {c = c + 1} size k w (g (word_of m q.address) (b (q.address / 2))) (omega arith) (x o (omega arith)) in
      record {
        count = rest.count;
        result = rest.result;
        before = rw t rest.before;
        after = rw (e o, turned-length fin m, t, word_after q final) rest.after;
        related = rest.related;
        addresses = rw (e o, turned-length fin m, t, word_after q final) (ap (◌∷◌ q.address) rest.addresses);
      }
