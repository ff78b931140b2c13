-- Texts that a loop writes or reads: digits from the last one on, zeros in front, the cells of a line.
use mathlib.Core.Path.{◌≡◌, refl, sym, ◌∙◌}
use mathlib.Core.List.{List, [], ◌∷◌, ◌++◌, append_assoc}
use Prim.Native.Nat.{ℕ, zero, suc, ◌+◌, ◌-◌, ◌/◌, ◌%◌, ◌<◌, ◌≤◌}
use native.Mathlib.Omega.{arith}
use native.Mathlib.Numerals.{add-one}
use lib.ListN.{length, get_or, take, drop, set, length-set, drop_of_length-le}
use lib.Seq.{drop-cons, drop-set-lt, get_or-set_same}
use borrow.Author.Tests.{eq-eqb, ne_eqb}
use Rattle.memory.proofs.ReadBounds.{if-cases}
use Rattle.memory.specs.Word.{when◌then◌else◌}
use Rattle.std.proofs.lemmas.Iterator.{index_from_first}
use Rattle.std.specs.List.{AllWithin, HoldsAt}
use Rattle.std.specs.Option.{MatchOption, unwrap_or}
use Rattle.std.specs.Prelude.{Option, Bool, true, false, eqb}
use Rattle.lines.specs.Lines.{text, digit, digits, hex, fewest, cell_line, more_cells}

-- one more digit before the others
digits_last : (base k n : ℕ) (rest : List ℕ) → 0 < k
    → digits base k n ++ rest ≡ digits base (k - 1) (n / base) ++ (digit (n % base) ∷ rest)
unfolding digits
digits_last base zero n rest h = absurd (omega arith)
digits_last base (suc k) n rest h =
    let e : suc k - 1 ≡ k = omega arith in
    rw (append_assoc, e)

drop-set : (l : List ℕ) (i x : ℕ) → i < length l → drop i (set l i x) ≡ x ∷ drop (i + 1) l
drop-set l i x h =
    let g : i < length (set l i x) = rw length-set h in
    drop-cons (set l i x) i 0 g ∙ rw (get_or-set_same l i x 0 h, drop-set-lt (suc i) l i x (omega arith), ← add-one i)

pub digits-turn : (base n i : ℕ) (text : List ℕ) → 0 < i → i ≤ length text
    → digits base i n ++ drop i text ≡ digits base (i - 1) (n / base) ++ drop (i - 1) (set text (i - 1) (digit (n % base)))
digits-turn base n i text h g =
    let e : i - 1 + 1 ≡ i = omega arith in
    digits_last base i n (drop i text) h ∙ rw (drop-set text (i - 1) (digit (n % base)) (omega arith), e)

pub digits-none : (base n i : ℕ) (text : List ℕ) → i ≤ 0 → digits base i n ++ drop i text ≡ text
unfolding digits
digits-none base n zero text h = refl
digits-none base n (suc i) text h = absurd (omega arith)

-- ---- zeros in front of the first digit ----
-- how many
abbrev pub zeros : List ℕ → ℕ
zeros [] = 0
zeros (c ∷ l) = when eqb c 48 then suc (zeros l) else 0

-- those before the last digit are not shown
pub first-shown : (l : List ℕ) (last : ℕ) → last ≡ length l - 1 → drop (zeros (take last l)) l ≡ fewest l
unfolding fewest
first-shown [] zero e = refl
first-shown [] (suc n) e = absurd (omega arith)
first-shown (c ∷ []) zero e = refl
first-shown (c ∷ []) (suc n) e = absurd (omega arith)
first-shown (c ∷ d ∷ l) zero e = absurd (omega arith)
first-shown (c ∷ d ∷ l) (suc n) e = by (first-shown (d ∷ l) n (omega arith)) (eqb c 48) refl
  where
    by : drop (zeros (take n (d ∷ l))) (d ∷ l) ≡ fewest (d ∷ l) → (b : Bool) → eqb c 48 ≡ b
        → drop (zeros (take (suc n) (c ∷ d ∷ l))) (c ∷ d ∷ l) ≡ fewest (c ∷ d ∷ l)
    by rest true t = rw t rest
    by rest false f = rw f refl

pub zeros-most : (l : List ℕ) → zeros l ≤ length l
zeros-most [] = omega arith
zeros-most (c ∷ l) = if-cases (λ (n : ℕ). n ≤ length (c ∷ l)) (eqb c 48) (λ e. omega (arith, zeros-most l)) (λ e. omega arith)

-- a search for another digit finds the place past them
abbrev pub Zero : ℕ → Type 0
Zero c = c ≡ 48

abbrev pub Other : ℕ → Type 0
Other c = c ≡ 48 → ⊥

pub zeros-found : (l : List ℕ) (r : Option ℕ)
    → MatchOption r (AllWithin Zero l 0 (length l)) (λ i. (i < length l) × HoldsAt Other l i × AllWithin Zero l 0 i) → unwrap_or r (length l) ≡ zeros l
zeros-found l r f =
    sym (index_from_first zeros Other Zero refl (λ c l f. rw (ne_eqb c 48 f) refl) (λ c l e. rw (eq-eqb c 48 e) (omega arith)) l r f)

-- ---- the cells of a line ----
-- no cells make the line's end
pub no_cells : (before l : List ℕ) → length l ≡ 0 → before ++ text "\n" ≡ before ++ cell_line l
unfolding cell_line
no_cells before [] e = refl
no_cells before (c ∷ l) e = absurd (omega arith)

-- the first of them, then the others
pub first-cell : (l others before out : List ℕ) (c : ℕ) → l ≡ c ∷ others → out ≡ before ++ text "" ++ hex 8 c → out ++ more_cells others ≡ before ++ cell_line l
unfolding cell_line
first-cell l others before out c e n = rw (n, e) (simp append_assoc)

cells-more : (l : List ℕ) (i : ℕ) → i < length l → more_cells (drop i l) ≡ text " " ++ hex 8 (get_or l i 0) ++ more_cells (drop (i + 1) l)
unfolding more_cells
cells-more l i h = rw (add-one, drop-cons l i 0)

-- one more of them is written
pub goes_on : (l out next whole : List ℕ) (i : ℕ) → i < length l → out ++ more_cells (drop i l) ≡ whole
    → next ≡ out ++ text " " ++ hex 8 (get_or l i 0) → next ++ more_cells (drop (i + 1) l) ≡ whole
goes_on l out next whole i h e n = rw (n, append_assoc, append_assoc, ← cells-more l i h) e

-- past the last one comes the line's end
pub comes-to-end : (l out whole : List ℕ) (i : ℕ) → length l ≤ i → out ++ more_cells (drop i l) ≡ whole → out ++ text "\n" ≡ whole
unfolding more_cells
comes-to-end l out whole i h e = rw (drop_of_length-le l h) at e
