-- A segmented pointer in use and its linear one: they point to the same address as long as no word is read on over a page end. What is read
-- through them stands in memory, so that the pointers among these words are the same too, and are told by where they begin.
use mathlib.Core.Path.{◌≡◌, refl, ap, sym, ◌∙◌}
use mathlib.Core.Bool.{Bool, true, false, not}
use mathlib.Core.List.{List, [], ◌∷◌}
use Prim.Native.Nat.{ℕ, zero, suc, ◌+◌, ◌*◌, ◌/◌, ◌%◌, ◌<◌, ◌≤◌}
use native.Mathlib.Omega.{arith}
use lib.ListN.{get_or, drop}
use lib.Seq.{get_or-drop}
use lib.Dec.{ltb, eqb}
use borrow.Author.Tests.{ltb-true, ltb-false, eqb-true, eqb-false, not-false, eq-eqb, ne_eqb}
use Rattle.memory.specs.declared.Pointer.{Pointer}
use Rattle.memory.specs.Word.{when◌then◌else◌, at}
use Rattle.memory.specs.Reading.{Role, First, Second, Other, Reading, done, ◌>>=◌, read_as}
use Rattle.memory.specs.Address.{to, pointer, null, place, next_word, ahead, onward, further, words}
use Rattle.memory.proofs.ReadBounds.{Words}
use Rattle.memory.proofs.Step.{step-linear, step-segmented}
use Rattle.memory.proofs.RunLaws.{ahead-add, ahead_more}
use Rattle.converter.specs.Walk.{mark, word_of, points_at, read_on}
use Rattle.converter.specs.Converter.{turned_first, turned}
use Rattle.converter.proofs.Alike.{Alike, dones, asks, bind, as-map}

-- the linear form of a segmented pointer points where that did
pub turned-pointer : (from f s : ℕ) → pointer true from (turned_first f) s ≡ pointer false from f s
unfolding pointer
turned-pointer from f s =
    let page : f / 256 % 128 % 256 ≡ f / 256 % 128 = omega arith in
    ap (λ (g : ℕ). to from ((g * 65536 + s) / 2 * 2)) page

-- a pointer begins where its first word is, unless it is null
begins-at : (from f s : ℕ) → (pointer false from f s).from ≡ (when null (pointer false from f s) then 0 else from)
unfolding pointer
begins-at from f s = refl

begins : (from f s : ℕ) → null (pointer false from f s) ≡ false → (pointer false from f s).from ≡ from
begins from f s e = begins-at from f s ∙ ap (λ (b : Bool). when b then 0 else from) e

pub even : (from f s : ℕ) → (pointer false from f s).address % 2 ≡ 0
unfolding pointer
even from f s = omega arith

pub small : (from f s : ℕ) → s < 65536 → (pointer false from f s).address < 8388608
unfolding pointer
small from f s h = omega arith

-- the address some steps on from where a pointer points, in its page
abbrev pub InPage : (start steps a : ℕ) → Type 0
InPage start steps a = a ≡ start / 65536 * 65536 + (start + 2 * steps) % 65536

pub in-page : (start steps a : ℕ) → InPage start steps a → InPage start (steps + 1) (next_word false a)
in-page start steps a e = omega (arith, step-segmented a)

-- a step never leads back there, in as few as a row's
no-round : (start k : ℕ) → 0 < k → k < 20000 → start ≡ start / 65536 * 65536 + (start + 2 * k) % 65536 → ⊥
no-round start k l h e = by-page (ltb (start / 65536) ((start + 2 * k) / 65536)) refl
  where
    by-page : (t : Bool) → ltb (start / 65536) ((start + 2 * k) / 65536) ≡ t → ⊥
    by-page true p = omega (arith, ltb-true (start / 65536) ((start + 2 * k) / 65536) p)
    by-page false p = omega (arith, ltb-false (start / 65536) ((start + 2 * k) / 65536) p)

pub not_back : (start steps a : ℕ) → InPage start steps a → steps < 12000 → next_word false a ≡ start → ⊥
not_back start steps a e l s = no-round start (steps + 1) (omega arith) (omega arith) (sym s ∙ in-page start steps a e)

-- a step that does not wrap is linear
pub in-page-even : (start steps a : ℕ) → InPage start steps a → start % 2 ≡ 0 → a % 2 ≡ 0
in-page-even start steps a e v = omega arith

in-page-low : (start steps a : ℕ) → InPage start steps a → start < 8388608 → a < 8388608
in-page-low start steps a e l = omega arith

no_wrap : (a : ℕ) → a % 2 ≡ 0 → a < 8388608 → 0 < (a + 2) % 65536 → (a + 2) % 16777216 ≡ a / 65536 * 65536 + (a + 2) % 65536
no_wrap a v l z = omega arith

same_step : (start steps a : ℕ) → InPage start steps a → start % 2 ≡ 0 → start < 8388608 → 0 < next_word false a % 65536
    → next_word true a ≡ next_word false a
same_step start steps a e v s z =
    let place : 0 < (a + 2) % 65536 = omega (arith, rw (step-segmented a) at z) in
    step-linear a ∙ no_wrap a (in-page-even start steps a e v) (in-page-low start steps a e s) place ∙ sym (step-segmented a)

positive : (n : ℕ) → (n ≡ 0 → ⊥) → 0 < n
positive zero h = absurd (h refl)
positive (suc n) h = omega arith

module _ (m : List ℕ) (b : Words m) where
  -- a pointer that is not null and stands in memory where it begins: no register is asked for it
  pub record Stood (p : Pointer) : Type 0 where
    pub points : (held : ℕ) → points_at held m p.from ≡ p.address
    pub evenly : p.address % 2 ≡ 0
    pub low : p.address < 8388608

  -- one that a block or the state has: null, or such a one
  abbrev pub Stands : Pointer → Type 0
  Stands p = null p ≡ false → Stood p

  module _ (held : ℕ) where
    -- a pointer in use and its linear one, after c words at most
    pub record Near (c : ℕ) (p q : Pointer) : Type 0 where
      pub begin : q.from ≡ p.from
      pub start : ℕ
      pub steps : ℕ
      pub real : eqb start 0 ≡ false
      pub evenly : start % 2 ≡ 0
      pub low : start < 8388608
      pub points : points_at held m p.from ≡ start
      pub few : steps ≤ c
      pub there : InPage start steps p.address
      pub same : read_on held m p.address p.from ≡ false → q.address ≡ p.address

    pub first : (c : ℕ) (p : Pointer) → null p ≡ false → points_at held m p.from ≡ p.address → p.address % 2 ≡ 0 → p.address < 8388608 → Near c p p
    first c p n e v l = record {
      begin = refl;
      start = p.address;
      steps = 0;
      real = n;
      evenly = v;
      low = l;
      points = e;
      few = omega arith;
      there = omega arith;
      same = λ _. refl;
    }

    pub first-stood : (c : ℕ) (p : Pointer) → Stands p → null p ≡ false → Near c p p
    first-stood c p s n = let h = s n in first c p n (h.points held) h.evenly h.low

    -- more words may have been asked for
    pub later : {c n : ℕ} {p q : Pointer} → c ≤ n → Near c p q → Near n p q
    later {c} {n} l h = record {
      begin = h.begin;
      start = h.start;
      steps = h.steps;
      real = h.real;
      evenly = h.evenly;
      low = h.low;
      points = h.points;
      few = omega (arith, h.few);
      there = h.there;
      same = h.same;
    }

    -- the word one further: where it is not read on over a page end, both steps are the same
    onward-same : (a from start steps : ℕ) → InPage start steps a → start % 2 ≡ 0 → start < 8388608 → steps < 12000 → points_at held m from ≡ start
        → read_on held m (next_word false a) from ≡ false → next_word true a ≡ next_word false a
    unfolding read_on
    onward-same a from start steps e v l few o r = by_place (eqb (place (next_word false a)) 0) refl
      where
        by_place : (t : Bool) → eqb (place (next_word false a)) 0 ≡ t → next_word true a ≡ next_word false a
        by_place false h = same_step start steps a e v l (positive (next_word false a % 65536) (eqb-false (next_word false a % 65536) 0 h))
        by_place true h =
            let k : not (eqb (next_word false a) (points_at held m from)) ≡ false = rw h at r in
            absurd (not_back start steps a e few (eqb-true (next_word false a) (points_at held m from) (not-false _ k) ∙ o))

    pub onward_near : (c : ℕ) (p q : Pointer) → Near c p q → read_on held m p.address p.from ≡ false → c < 12000
        → Near (c + 1) (onward false p) (onward true q)
    onward_near c p q h r l = record {
      begin = h.begin;
      start = h.start;
      steps = h.steps + 1;
      real = h.real;
      evenly = h.evenly;
      low = h.low;
      points = h.points;
      few = omega (arith, h.few);
      there = in-page h.start h.steps p.address h.there;
      same = λ s.
          ap (next_word true) (h.same r)
          ∙ onward-same p.address p.from h.start h.steps h.there h.evenly h.low (omega (arith, h.few)) h.points s;
    }

    -- a word that is asked for is not at address 0: a pointer that points there is null
    asked-real : (c : ℕ) (p q : Pointer) → Near c p q → read_on held m p.address p.from ≡ false → eqb p.address 0 ≡ false
    unfolding read_on
    asked-real c p q h r = ne_eqb p.address 0 λ z.
        let k : not (eqb p.address (points_at held m p.from)) ≡ false = rw (eq-eqb (place p.address) 0 (omega (arith, z))) at r in
        eqb-false h.start 0 h.real (sym h.points ∙ sym (eqb-true p.address (points_at held m p.from) (not-false _ k)) ∙ z)

  -- word i of those read in roles rs, the first of them at a, linear at c: it stands there, the linear one has it turned by its role
  pub record Read (a c : ℕ) (rs : List Role) (ws vs : List ℕ) (i : ℕ) : Type 0 where
    pub there : word_of m (ahead false i a) ≡ at ws i
    pub same : ahead true i c ≡ ahead false i a
    pub turns : at vs i ≡ turned (mark (get_or rs i Other)) (at ws i)
    pub real : eqb (ahead false i a) 0 ≡ false

  abbrev pub Copied : (a c : ℕ) (rs : List Role) (k : ℕ) (ws vs : List ℕ) → Type 0
  Copied a c rs k ws vs = (i : ℕ) → i < k → Read a c rs ws vs i

  pub copied-drop : (j a c : ℕ) (rs : List Role) (k : ℕ) (ws vs : List ℕ) → Copied a c rs (j + k) ws vs
      → Copied (ahead false j a) (ahead true j c) (drop j rs) k (drop j ws) (drop j vs)
  copied-drop j a c rs k ws vs h i l =
      let r = h (j + i) (omega arith) in
      record {
        there = rw (ahead-add false j i a, get_or-drop j ws i 0) r.there;
        same = rw (ahead-add false j i a, ahead-add true j i c) r.same;
        turns = rw (get_or-drop j ws i 0, get_or-drop j vs i 0, get_or-drop j rs i Other) r.turns;
        real = rw (ahead-add false j i a) r.real;
      }

  -- the pointer of word i and the next: the same in both, and it stands
  module _ (a c : ℕ) (rs : List Role) (k : ℕ) (ws vs : List ℕ) (h : Copied a c rs k ws vs) (i : ℕ) (l : i + 1 < k)
      (f : get_or rs i Other ≡ First) (s : get_or rs (i + 1) Other ≡ Second) where
    pub pointer-same : pointer false (ahead false i a) (at ws i) (at ws (i + 1)) ≡ pointer true (ahead true i c) (at vs i) (at vs (i + 1))
    pointer-same =
        let r = h i (omega arith) in
        let n = h (i + 1) l in
        let v : at vs i ≡ turned_first (at ws i) = r.turns ∙ rw f in
        let w : at vs (i + 1) ≡ at ws (i + 1) = n.turns ∙ rw s in
        sym (rw (v, w, r.same) (turned-pointer (ahead false i a) (at ws i) (at ws (i + 1))))

    pub pointer-stands : Stands (pointer false (ahead false i a) (at ws i) (at ws (i + 1)))
    unfolding points_at
    pointer-stands n =
        let r = h i (omega arith) in
        let x = h (i + 1) l in
        let o = begins (ahead false i a) (at ws i) (at ws (i + 1)) n in
        record {
          points = λ held. rw (o, r.real, r.there, sym (ahead_more false i a), x.there);
          evenly = even (ahead false i a) (at ws i) (at ws (i + 1));
          low = small (ahead false i a) (at ws i) (at ws (i + 1)) (rw (← x.there) (b (ahead false (i + 1) a / 2)));
        }

  module _ (held : ℕ) where
    -- k words read in roles: they stand there, and the word after them is near
    pub record Passed (rs : List Role) (k : ℕ) (p q : Pointer) (c : ℕ) (ws vs : List ℕ) : Type 0 where
      pub copied : Copied p.address q.address rs k ws vs
      pub after : Near held c (further false k p) (further true k q)

    none_passed : (rs : List Role) (p q : Pointer) (c : ℕ) → Near held c p q → Passed rs 0 p q c [] []
    unfolding ahead
    none_passed rs p q c h = record { copied = λ i l. absurd (omega arith); after = h }

    -- a word, and those after it
    more-passed : (r : Role) (rs : List Role) (k : ℕ) (p q : Pointer) (c n : ℕ) (ws vs : List ℕ) → Near held c p q
        → read_on held m p.address p.from ≡ false → Passed rs k (onward false p) (onward true q) n ws vs
        → Passed (r ∷ rs) (suc k) p q n (word_of m p.address ∷ ws) (turned (mark r) (word_of m p.address) ∷ vs)
    unfolding ahead
    more-passed r rs k p q c n ws vs h o x = record { copied = each; after = x.after }
      where
        each : Copied p.address q.address (r ∷ rs) (suc k) (word_of m p.address ∷ ws) (turned (mark r) (word_of m p.address) ∷ vs)
        each zero l = record { there = refl; same = h.same o; turns = refl; real = asked-real held c p q h o }
        each (suc i) l = let y = x.copied i (omega arith) in record { there = y.there; same = y.same; turns = y.turns; real = y.real }

    -- words whose roles have run out are read as anything else
    more-plain : (k : ℕ) (p q : Pointer) (c n : ℕ) (ws vs : List ℕ) → Near held c p q
        → read_on held m p.address p.from ≡ false → Passed [] k (onward false p) (onward true q) n ws vs
        → Passed [] (suc k) p q n (word_of m p.address ∷ ws) (word_of m p.address ∷ vs)
    more-plain k p q c n ws vs h o x =
        let y = more-passed Other [] k p q c n ws vs h o x in
        record { copied = plain y.copied; after = y.after }
      where
        plain : Copied p.address q.address (Other ∷ []) (suc k) (word_of m p.address ∷ ws) (word_of m p.address ∷ vs)
            → Copied p.address q.address [] (suc k) (word_of m p.address ∷ ws) (word_of m p.address ∷ vs)
        plain h zero l = let y = h 0 l in record { there = y.there; same = y.same; turns = y.turns; real = y.real }
        plain h (suc i) l = let y = h (suc i) l in record { there = y.there; same = y.same; turns = y.turns; real = y.real }

    -- results that are changed after words are read in roles
    map-alike : {A B C D : Type 0} {R : ℕ → A → B → Type 0} {S : ℕ → C → D → Type 0} {c : ℕ} (rs : List Role) (p : Reading A) (q : Reading B) (f : A → C)
        (g : B → D) → Alike held m R c (read_as rs p) (read_as rs q) → ((n : ℕ) (x : A) (y : B) → R n x y → S n (f x) (g y))
        → Alike held m S c (read_as rs (p >>= λ x. done (f x))) (read_as rs (q >>= λ y. done (g y)))
    map-alike rs p q f g h k = rw (as-map rs p f, as-map rs q g) (bind held m h λ n x y _ r. dones (k n x y r))

    pub words-alike : (rs : List Role) (k c : ℕ) (p q : Pointer) → Near held c p q
        → Alike held m (Passed rs k p q) c (read_as rs (words false k p)) (read_as rs (words true k q))
    unfolding words read_as ◌>>=◌
    words-alike [] zero c p q h = dones (none_passed [] p q c h)
    words-alike (r ∷ rs) zero c p q h = dones (none_passed (r ∷ rs) p q c h)
    words-alike [] (suc k) c p q h =
        asks h.same λ o l.
        bind held m (words-alike [] k (c + 1) (onward false p) (onward true q) (onward_near held c p q h o l)) λ n ws vs _ x.
        dones (more-plain k p q c n ws vs h o x)
    words-alike (r ∷ rs) (suc k) c p q h =
        asks h.same λ o l.
        map-alike rs (words false k (onward false p)) (words true k (onward true q)) (λ (ws : List ℕ). word_of m p.address ∷ ws) (λ (vs : List ℕ). turned (mark r) (word_of m p.address) ∷ vs)
        (words-alike rs k (c + 1) (onward false p) (onward true q) (onward_near held c p q h o l)) λ n ws vs x. more-passed r rs k p q c n ws vs h o x
