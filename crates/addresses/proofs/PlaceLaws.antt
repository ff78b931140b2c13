-- Addresses at places of a list: one more, those of one part and then of the next, and words one after the other.
use Rattle.std.proofs.Common.{Option, Some, None}
use mathlib.Core.Path.{◌≡◌, refl, ap, sym, ◌∙◌}
use mathlib.Core.List.{List, [], ◌∷◌, ◌++◌}
use mathlib.Core.Bool.{Bool, true, false, ◌&&◌}
use Prim.Native.Nat.{ℕ, zero, suc, ◌+◌, ◌-◌, ◌*◌, ◌%◌, ◌<◌, ◌≤◌, zero-le}
use native.Mathlib.Omega.{arith}
use native.Mathlib.Nat.{add-zero}
use native.Mathlib.Numerals.{add-one}
use lib.ListN.{length, set, length-append}
use lib.Seq.{sets}
use borrow.Author.Tests.{eq-eqb, ne_eqb}
use Rattle.memory.specs.Word.{bit}
use Rattle.memory.specs.declared.Pointer.{Pointer}
use Rattle.memory.specs.Address.{null, next_word, ahead}
use Rattle.memory.proofs.ReadBounds.{if-cases}
use Rattle.memory.proofs.RunLaws.{ahead_more}
use Rattle.state.specs.declared.Fields.{Fields}
use Rattle.layout.specs.declared.OverlayHead.{OverlayHead}
use Rattle.layout.specs.Layout.{Overlay}
use Rattle.layout.specs.Answers.{overlay_of}
use Rattle.codes.specs.declared.AttributeList.{AttributeList}
use Rattle.noting.specs.Noting.{in_turn}
use Rattle.addresses.specs.Addresses.{written_to, pointed, head_word, block_words, redefinition_of, due_of, over_rows, plan_addresses, block_addresses}

-- those of one part, and then of the next
pub sets-append : (l : List ℕ) (i : ℕ) (xs ys : List ℕ) → sets l i (xs ++ ys) ≡ sets (sets l i xs) (i + length xs) ys
sets-append l i [] ys = ap (λ (k : ℕ). sets l k ys) (sym (add-zero i))
sets-append l i (x ∷ xs) ys =
    let sum : suc i + length xs ≡ i + suc (length xs) = omega arith in
    sets-append (set l i x) (suc i) xs ys ∙ ap (λ (k : ℕ). sets (sets (set l i x) (suc i) xs) k ys) sum

pub length-turn : (linear : Bool) (n a : ℕ) → length (in_turn linear n a) ≡ n
unfolding in_turn
length-turn linear zero a = refl
length-turn linear (suc n) a = ap suc (length-turn linear n (next_word linear a))

-- the next of n addresses, after i of them
pub turn_more : (linear : Bool) (n i a : ℕ) (l : List ℕ) (at : ℕ) → i < n
    → sets l (at + i) (in_turn linear (n - i) (ahead linear i a))
    ≡ sets (set l (at + i) (ahead linear i a)) (at + (i + 1)) (in_turn linear (n - (i + 1)) (ahead linear (i + 1) a))
unfolding in_turn
turn_more linear n i a l at h =
    let left : n - i ≡ suc (n - (i + 1)) = omega arith in
    let place : suc (at + i) ≡ at + (i + 1) = omega arith in
    ap (λ (k : ℕ). sets l (at + i) (in_turn linear k (ahead linear i a))) left
    ∙ ap (λ (k : ℕ). sets (set l (at + i) (ahead linear i a)) k (in_turn linear (n - (i + 1)) (next_word linear (ahead linear i a)))) place
    ∙ ap (λ (b : ℕ). sets (set l (at + i) (ahead linear i a)) (at + (i + 1)) (in_turn linear (n - (i + 1)) b)) (sym (ahead_more linear i a))

pub turn-done : (linear : Bool) (n i a : ℕ) (l : List ℕ) (at : ℕ) → n ≤ i → sets l (at + i) (in_turn linear (n - i) (ahead linear i a)) ≡ l
unfolding in_turn
turn-done linear n i a l at h =
    let left : n - i ≡ 0 = omega arith in
    rw left

-- the words of a pointer, null or not
module _ (linear : Bool) (n : ℕ) (p : Pointer) where
  pub pointed-null : p.address ≡ 0 → pointed linear n p ≡ []
  unfolding pointed
  pointed-null e = rw (eq-eqb p.address 0 e)

  pub pointed-run : (p.address ≡ 0 → ⊥) → pointed linear n p ≡ in_turn linear n p.address
  unfolding pointed
  pointed-run e = rw (ne_eqb p.address 0 e)

-- .. at most as many as asked for
pub pointed-short : (linear : Bool) (n : ℕ) (p : Pointer) → length (pointed linear n p) ≤ n
unfolding pointed
pointed-short linear n p =
    if-cases (λ (l : List ℕ). length l ≤ n) (null p) (λ _. zero-le) (λ _. omega (arith, length-turn linear n p.address))

-- the blocks of a row, whatever the words of its window's segments are; and how many words they have at most
pub blocks-same : (linear : Bool) (m : List ℕ) (f : Fields) (o : Option OverlayHead) (ws vs : List ℕ)
    → block_addresses linear m f (overlay_of linear o ws) ≡ block_addresses linear m f (overlay_of linear o vs)
unfolding block_addresses over_rows
blocks-same linear m f None ws vs = refl
blocks-same linear m f (Some o) ws vs = refl

pub blocks-short : (linear : Bool) (m : List ℕ) (f : Fields) (o : Overlay) → length (block_addresses linear m f o) ≤ 167
unfolding block_addresses plan_addresses
blocks-short linear m f o =
    let rows = over_rows linear m f.row f.window o in
    let x = pointed linear 6 (due_of f.row f.window) in
    let n = block_words true (head_word linear m f.next) in
    let y = pointed linear n f.next in
    let z = pointed linear 3 (redefinition_of linear m f.next) in
    let k = block_words false (head_word linear m rows) in
    let u = pointed linear k rows in
    omega (
      arith,
      length-append x (y ++ (z ++ u)),
      length-append y (z ++ u),
      length-append z u,
      pointed-short linear 6 (due_of f.row f.window),
      pointed-short linear n f.next,
      pointed-short linear 3 (redefinition_of linear m f.next),
      pointed-short linear k rows,
      words-most true (head_word linear m f.next),
      words-most false (head_word linear m rows),
    )
  where
    words-most : (b : Bool) (w : ℕ) → block_words b w ≤ 80
    words-most b w = if-cases (λ (k : ℕ). 3 + k + 5 * (w % 16) ≤ 80) (b && bit 15 w) (λ _. omega arith) (λ _. omega arith)

-- where writing stands, after one address more, and after those of two parts
pub written-cons : (at x : ℕ) (xs : List ℕ) (l : AttributeList) → written_to (at + 1) xs l ≡ written_to at (x ∷ xs) l
written-cons at x xs l =
    let sum : at + 1 + length xs ≡ at + suc (length xs) = omega arith in
    ap (λ (k : ℕ). record { at = k; list = l }) sum

pub written-append : (at : ℕ) (xs ys : List ℕ) (l : AttributeList) → written_to (at + length xs) ys l ≡ written_to at (xs ++ ys) l
written-append at xs ys l =
    let sum : at + length xs + length ys ≡ at + length (xs ++ ys) = omega (arith, length-append xs ys) in
    ap (λ (k : ℕ). record { at = k; list = l }) sum

pub sets-cons : (l : List ℕ) (at x : ℕ) (xs : List ℕ) → sets (set l at x) (at + 1) xs ≡ sets l at (x ∷ xs)
sets-cons l at x xs = ap (λ (k : ℕ). sets (set l at x) k xs) (add-one at)
