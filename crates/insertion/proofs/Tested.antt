-- The tests pass exactly where an insertion's hypotheses hold: each test is one of them.
use mathlib.Core.Path.{◌≡◌, refl, ap, sym, ◌∙◌}
use mathlib.Core.Bool.{Bool, true, false, ◌&&◌, ◌||◌, not}
use mathlib.Core.List.{List, [], ◌∷◌}
use mathlib.Core.Option.{Option, none, some}
use Prim.Native.Nat.{ℕ, zero, suc, ◌+◌, ◌*◌, ◌/◌, ◌<◌}
use native.Mathlib.Omega.{arith}
use native.Mathlib.Nat.{add-zero}
use lib.ListN.{length, get_or}
use lib.Dec.{eqb, ltb, lit<}
use borrow.Author.Tests.{ltb-true, leb-true, eqb-true, not-true, lt-ltb, le-leb, eq-eqb}
use Rattle.memory.specs.declared.Refusal.{Refusal}
use Rattle.memory.proofs.ReadBounds.{both}
use Rattle.settings.specs.declared.Settings.{Settings}
use Rattle.insertion.specs.Followed.{word_at, apart}
use Rattle.insertion.specs.Insertion.{changed, FrameFits, Insertion}
use Rattle.insertion.specs.Tests.{every, words_fit, same_from, is_accepted, frame_tests, both_tests, passes}

-- ---- words ----

words-fit : (ws : List ℕ) → words_fit ws ≡ true → (i : ℕ) → get_or ws i 0 < 65536
unfolding words_fit
words-fit [] e i = lit< tt
words-fit (w ∷ ws) e zero = ltb-true w 65536 (both (ltb w 65536) (words_fit ws) e).0
words-fit (w ∷ ws) e (suc i) = words-fit ws (both (ltb w 65536) (words_fit ws) e).1 i

fit_words : (ws : List ℕ) → ((i : ℕ) → get_or ws i 0 < 65536) → words_fit ws ≡ true
unfolding words_fit
fit_words [] h = refl
fit_words (w ∷ ws) h = rw (lt-ltb w 65536 (h 0), fit_words ws (λ i. h (suc i)))

-- a test at an address looks at its word alone
apart-word : (bs : List ℕ) (a b : ℕ) → a / 2 ≡ b / 2 → apart bs a ≡ apart bs b
unfolding apart
apart-word [] a b e = refl
apart-word (x ∷ xs) a b e = rw (e, apart-word xs a b e)

unless : (p q : Bool) → not p || q ≡ true → p ≡ true → q ≡ true
unless true q e k = e
unless false q e k = let z : ◌≡◌ {A = ℕ} 0 1 = cc in absurd (omega arith)

module _ (bs : List ℕ) where
  same_length : (k : ℕ) (xs ys : List ℕ) → same_from bs k xs ys ≡ true → length xs ≡ length ys
  unfolding same_from
  same_length k [] [] e = refl
  same_length k [] (y ∷ ys) e = let z : ◌≡◌ {A = ℕ} 0 1 = cc in absurd (omega arith)
  same_length k (x ∷ xs) [] e = let z : ◌≡◌ {A = ℕ} 0 1 = cc in absurd (omega arith)
  same_length k (x ∷ xs) (y ∷ ys) e = ap suc (same_length (suc k) xs ys (both (not (apart bs (k * 2)) || eqb x y) _ e).1)

  same_at : (k j : ℕ) (xs ys : List ℕ) → same_from bs k xs ys ≡ true → apart bs ((k + j) * 2) ≡ true → get_or xs j 0 ≡ get_or ys j 0
  unfolding same_from
  same_at k j [] [] e a = refl
  same_at k j [] (y ∷ ys) e a = let z : ◌≡◌ {A = ℕ} 0 1 = cc in absurd (omega arith)
  same_at k j (x ∷ xs) [] e a = let z : ◌≡◌ {A = ℕ} 0 1 = cc in absurd (omega arith)
  same_at k zero (x ∷ xs) (y ∷ ys) e a =
      let here : apart bs (k * 2) ≡ true = rw (add-zero k) at a in
      eqb-true x y (unless (apart bs (k * 2)) (eqb x y) (both (not (apart bs (k * 2)) || eqb x y) _ e).0 here)
  same_at k (suc j) (x ∷ xs) (y ∷ ys) e a =
      let next : k + suc j ≡ suc k + j = omega arith in
      same_at (suc k) j xs ys (both (not (apart bs (k * 2)) || eqb x y) _ e).1 (rw next at a)

  only_if : (p q : Bool) → (p ≡ true → q ≡ true) → not p || q ≡ true
  only_if true q f = f refl
  only_if false q f = refl

  at_same : (k : ℕ) (xs ys : List ℕ) → length xs ≡ length ys → ((j : ℕ) → apart bs ((k + j) * 2) ≡ true → get_or xs j 0 ≡ get_or ys j 0)
      → same_from bs k xs ys ≡ true
  unfolding same_from
  at_same k [] [] l f = refl
  at_same k [] (y ∷ ys) l f = absurd (omega arith)
  at_same k (x ∷ xs) [] l f = absurd (omega arith)
  at_same k (x ∷ xs) (y ∷ ys) l f =
      let here : not (apart bs (k * 2)) || eqb x y ≡ true = only_if (apart bs (k * 2)) (eqb x y) λ a. eq-eqb x y (f 0 (rw (add-zero k) a)) in
      let next : same_from bs (suc k) xs ys ≡ true = at_same (suc k) xs ys (omega arith) (λ j a. let n : k + suc j ≡ suc k + j = omega arith in f (suc j) (rw n a)) in
      rw (here, next)

accepted : (r : Option Refusal) → is_accepted r ≡ true → r ≡ none
accepted none e = refl
accepted (some r) e = let z : ◌≡◌ {A = ℕ} 0 1 = cc in absurd (omega arith)

every-both : (b : Bool) (bs : List Bool) → every (b ∷ bs) ≡ true → (b ≡ true) × (every bs ≡ true)
unfolding every
every-both b bs e = both b (every bs) e

module _ (latch : ℕ) (σ : Settings) (link : ℕ) where
  module _ (changes : List ℕ) (size : ℕ) (m : List ℕ) where
    fits : every (frame_tests latch σ link changes size m) ≡ true → FrameFits latch σ link changes size m
    fits e =
        let words = every-both _ _ e in
        let plain = every-both _ _ words.1 in
        let apart = every-both _ _ plain.1 in
        let once = every-both _ _ apart.1 in
        let done = every-both _ _ once.1 in
        record {
          words = words-fit m words.0;
          plain = plain.0;
          apart = apart.0;
          once = leb-true _ 1 once.0;
          accepted = accepted _ done.0;
        }

    tests-fit : FrameFits latch σ link changes size m → every (frame_tests latch σ link changes size m) ≡ true
    unfolding every
    tests-fit f = rw (fit_words m f.words, f.plain, f.apart, le-leb _ 1 f.once, f.accepted)

  module _ (old new : List ℕ) where
    word-at : same_from (changed σ link new) 0 old new ≡ true → (a : ℕ) → apart (changed σ link new) a ≡ true → word_at old a ≡ word_at new a
    word-at e a k =
        let half : a / 2 ≡ (0 + a / 2) * 2 / 2 = omega arith in
        same_at (changed σ link new) 0 (a / 2) old new e (sym (apart-word (changed σ link new) a ((0 + a / 2) * 2) half) ∙ k)

    at-word : length old ≡ length new → ((a : ℕ) → apart (changed σ link new) a ≡ true → word_at old a ≡ word_at new a)
        → same_from (changed σ link new) 0 old new ≡ true
    at-word l f =
        at_same (changed σ link new) 0 old new l λ j a.
        let half : (0 + j) * 2 / 2 ≡ j = omega arith in
        rw half at (f ((0 + j) * 2) a)

    pub passes-insert : passes latch σ link old new ≡ true → Insertion latch σ link old new
    unfolding passes
    passes-insert e =
        let outer = both (every (both_tests σ link old new) && every (frame_tests latch σ link (changed σ link new) 0 old)) _ e in
        let inner = both (every (both_tests σ link old new)) _ outer.0 in
        let window = every-both _ _ inner.0 in
        let cursor = every-both _ _ window.1 in
        let held = every-both _ _ cursor.1 in
        let points = every-both _ _ held.1 in
        let taken = every-both _ _ points.1 in
        let same = every-both _ _ taken.1 in
        record {
          no_window = window.0;
          no_cursor = not-true _ cursor.0;
          held = not-true _ held.0;
          points = not-true _ points.0;
          taken = eqb-true _ _ taken.0;
          size = same_length _ 0 old new same.0;
          same = word-at same.0;
          before = fits _ 0 old inner.1;
          after = fits _ _ new outer.1;
        }

    pub insert-passes : Insertion latch σ link old new → passes latch σ link old new ≡ true
    unfolding passes every
    insert-passes h =
        rw (
          tests-fit _ _ old h.before,
          tests-fit _ _ new h.after,
          h.no_window,
          h.no_cursor,
          h.held,
          h.points,
          eq-eqb _ _ h.taken,
          at-word h.size h.same,
        )
