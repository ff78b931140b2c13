-- What the trials for the next cell say: the cell that the text begins with, or how far any text with a cell there is like it.
use mathlib.Core.Path.{◌≡◌, refl, sym, ap, ◌∙◌}
use mathlib.Core.Bool.{Bool, true, false, ◌&&◌}
use mathlib.Core.List.{List, [], ◌∷◌, ◌++◌, append-nil}
use Prim.Native.Nat.{ℕ, zero, suc, ◌+◌, ◌<◌, ◌≤◌, max}
use native.Mathlib.Omega.{arith}
use native.Mathlib.Decide.{ℕ_discrete, dec_le}
use native.Mathlib.Numerals.{add-one}
use lib.ListN.{length, get_or, drop, get_or-eq_default}
use lib.Seq.{drop-cons, get_or-drop, get_or-append_seam}
use lib.Dec.{eqb}
use borrow.Author.Tests.{eqb-true, eqb-false, eq-eqb}
use Rattle.memory.proofs.ReadBounds.{if-cases, both}
use Rattle.mail.specs.Mail.{is_character, marked, change}
use Rattle.std.proofs.Common.{Result, Ok, Err}
use Rattle.mail_reader.specs.declared.CellRead.{CellRead}
use Rattle.mail_reader.specs.Reader.{common, tried, better, next_cell}
use Rattle.mail_reader.proofs.CommonLaws.{common-left}
use Rattle.mail_texts.proofs.SharedLaws.{common-append, common-other, shares-all, common-after}

module _ (before : ℕ) (t : List ℕ) where
  -- the text begins with a cell whose marks are below k
  pub record Found (k cell bytes : ℕ) : Type 0 where
    pub marks : ℕ
    pub character : ℕ
    pub below : marks < k
    pub is_one : is_character character ≡ true
    pub packed : cell ≡ marked character marks
    pub long : bytes ≡ length (change before marks) + 1
    pub text : t ≡ change before marks ++ character ∷ drop bytes t

  -- no text with such a cell here shares more than i bytes, and some change of marks shares i
  pub record Stopped (k i : ℕ) : Type 0 where
    pub least : (m : ℕ) → m < k → (c : ℕ) → is_character c ≡ true → (v : List ℕ) → common (change before m ++ c ∷ v) t ≤ i
    pub reached : 0 < i → (m : ℕ) × (m < k) × (i ≤ common (change before m) t)
    pub never : (m : ℕ) → m < k → (c : ℕ) → is_character c ≡ true → (v : List ℕ) → t ≡ change before m ++ c ∷ v → ⊥

  abbrev pub Says : ℕ → Result CellRead ℕ → Type 0
  Says k (Ok r) = Found k r.cell r.bytes
  Says k (Err i) = Stopped k i

  -- a trial with the marks m
  abbrev TriedSays : ℕ → Result CellRead ℕ → Type 0
  TriedSays m (Ok r) = Found (suc m) r.cell r.bytes
  TriedSays m (Err i) =
      (i ≡ common (change before m) t)
      × ((c : ℕ) → is_character c ≡ true → (v : List ℕ) → common (change before m ++ c ∷ v) t ≤ i)
      × ((c : ℕ) → is_character c ≡ true → (v : List ℕ) → t ≡ change before m ++ c ∷ v → ⊥)

  differ : (c d : ℕ) → is_character c ≡ true → is_character d ≡ false → c ≡ d → ⊥
  differ c d e f q =
      let z : true ≡ false = sym e ∙ ap is_character q ∙ f in
      let w : ◌≡◌ {A = ℕ} 0 1 = cc in
      omega arith

  not-next : (c : ℕ) (v r : List ℕ) → is_character c ≡ true → is_character (get_or r 0 0) ≡ false → common (c ∷ v) r ≡ 0
  unfolding common
  not-next c v [] e f = refl
  not-next c v (d ∷ r) e f = common-other c d v r (differ c d e f)

  inside : (n : ℕ) → is_character (get_or t n 0) ≡ true → n < length t
  inside n e = by (dec_le (length t) n)
    where
      by : Dec (length t ≤ n) → n < length t
      by (yes l) = absurd (differ (get_or t n 0) 0 e refl (get_or-eq_default t 0 l))
      by (no f) = omega arith

  at-end : (n : ℕ) → get_or (drop n t) 0 0 ≡ get_or t n 0
  at-end n = get_or-drop n t 0 0 ∙ ap (λ (k : ℕ). get_or t k 0) (omega arith)

  module _ (m : ℕ) where
    abbrev fixed : List ℕ
    fixed = change before m

    found : eqb (common fixed t) (length fixed) && is_character (get_or t (length fixed) 0) ≡ true
        → Found (suc m) (marked (get_or t (length fixed) 0) m) (length fixed + 1)
    found e =
        let h = both _ _ e in
        let q : common fixed t ≡ length fixed = eqb-true _ _ h.0 in
        record {
          marks = m;
          character = get_or t (length fixed) 0;
          below = omega arith;
          is_one = h.1;
          packed = refl;
          long = refl;
          text =
              shares-all fixed t (omega arith)
              ∙ ap (λ (r : List ℕ). fixed ++ r) (drop-cons t (length fixed) 0 (inside (length fixed) h.1) ∙ rw (add-one (length fixed)));
        }

    no_more : eqb (common fixed t) (length fixed) && is_character (get_or t (length fixed) 0) ≡ false
        → (c : ℕ) → is_character c ≡ true → (v : List ℕ) → common (fixed ++ c ∷ v) t ≤ common fixed t
    no_more e c f v = by (eqb (common fixed t) (length fixed)) refl e
      where
        by : (same : Bool) → eqb (common fixed t) (length fixed) ≡ same → same && is_character (get_or t (length fixed) 0) ≡ false
            → common (fixed ++ c ∷ v) t ≤ common fixed t
        by true q g =
            let k : common fixed t ≡ length fixed = eqb-true (common fixed t) (length fixed) q in
            let z : common (fixed ++ c ∷ v) t ≡ length fixed + common (c ∷ v) (drop (length fixed) t) =
            ap (common (fixed ++ c ∷ v)) (shares-all fixed t (omega arith)) ∙ common-append fixed (c ∷ v) (drop (length fixed) t) in
            omega (arith, not-next c v (drop (length fixed) t) f (rw (at-end (length fixed)) g))
        by false q g =
            let l : common fixed t < length fixed = omega (arith, common-left fixed t, eqb-false (common fixed t) (length fixed) q) in
            omega (arith, common-after fixed (c ∷ v) t l)

    never : eqb (common fixed t) (length fixed) && is_character (get_or t (length fixed) 0) ≡ false
        → (c : ℕ) → is_character c ≡ true → (v : List ℕ) → t ≡ fixed ++ c ∷ v → ⊥
    never e c f v q =
        let k : common fixed t ≡ length fixed =
        ap (common fixed) q ∙ ap (λ (s : List ℕ). common s (fixed ++ c ∷ v)) (sym (append-nil fixed)) ∙ common-append fixed [] (c ∷ v) ∙ ends_there in
        let g : is_character (get_or t (length fixed) 0) ≡ true = ap (λ (s : List ℕ). is_character (get_or s (length fixed) 0)) q ∙ rw (get_or-append_seam fixed c v 0) f in
        let z : true ≡ false = rw (eq-eqb (common fixed t) (length fixed) k, g) at e in
        let w : ◌≡◌ {A = ℕ} 0 1 = cc in
        omega arith
      where
        ends_there : length fixed + common [] (c ∷ v) ≡ length fixed
        ends_there = omega (arith, common-left [] (c ∷ v))

    tried-says : TriedSays m (tried before m t)
    unfolding tried
    tried-says =
        if-cases (TriedSays m) (eqb (common fixed t) (length fixed) && is_character (get_or t (length fixed) 0)) found (λ e. (refl, no_more e, never e))

  combine : (k : ℕ) (x y : Result CellRead ℕ) → TriedSays k x → Says k y → Says (suc k) (better x y)
  combine k (Ok r) y p q = p
  combine k (Err i) (Ok r) p q = record {
    marks = q.marks;
    character = q.character;
    below = omega (arith, q.below);
    is_one = q.is_one;
    packed = q.packed;
    long = q.long;
    text = q.text;
  }
  combine k (Err i) (Err j) p q = record {
    least = λ m l c e v. least m l c e v (ℕ_discrete m k);
    reached = λ h. reached h (dec_le j i);
    never = λ m l c e v. never m l c e v (ℕ_discrete m k);
  }
    where
      least : (m : ℕ) → m < suc k → (c : ℕ) → is_character c ≡ true → (v : List ℕ) → Dec (m ≡ k) → common (change before m ++ c ∷ v) t ≤ max i j
      least m l c e v (yes r) = rw r (omega (arith, p.1 c e v))
      least m l c e v (no f) = omega (arith, q.least m (omega arith) c e v)

      reached : 0 < max i j → Dec (j ≤ i) → (m : ℕ) × (m < suc k) × (max i j ≤ common (change before m) t)
      reached h (yes l) = (k, omega arith, omega (arith, p.0))
      reached h (no f) = let r = q.reached (omega arith) in (r.0, omega (arith, r.1), omega (arith, r.2))

      never : (m : ℕ) → m < suc k → (c : ℕ) → is_character c ≡ true → (v : List ℕ) → Dec (m ≡ k) → t ≡ change before m ++ c ∷ v → ⊥
      never m l c e v (yes r) = rw r (p.2 c e v)
      never m l c e v (no f) = q.never m (omega arith) c e v

  pub says : (k : ℕ) → Says k (next_cell k before t)
  unfolding next_cell
  says zero = record { least = λ m l. absurd (omega arith); reached = λ h. absurd (omega arith); never = λ m l. absurd (omega arith) }
  says (suc k) = combine k (tried before k t) (next_cell k before t) (tried-says k) (says k)
