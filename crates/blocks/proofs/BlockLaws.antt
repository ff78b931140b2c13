-- Segments are made of the first words of a list, five each; what reading them comes to.
use Rattle.std.proofs.Common.{Result, Ok, Err}
use mathlib.Core.Path.{◌≡◌, refl, ap, ap₂, sym, ◌∙◌}
use mathlib.Core.List.{List, [], ◌∷◌, ◌++◌}
use mathlib.Core.Bool.{Bool, true, false, ◌&&◌}
use Prim.Native.Nat.{ℕ, zero, suc, ◌+◌, ◌-◌, ◌*◌, ◌%◌, ◌<◌, ◌≤◌}
use native.Mathlib.Nat.{add-zero, sub-zero}
use native.Mathlib.Omega.{arith}
use lib.Dec.{lit≤}
use lib.ListN.{length, drop, length-drop, get_or-append}
use lib.Seq.{drop-append-le, drop-drop, get_or-drop}
use Rattle.memory.specs.Word.{when◌then◌else◌, bit, high, low, at}
use Rattle.memory.specs.declared.Fault.{Fault}
use Rattle.memory.specs.declared.Pointer.{Pointer}
use Rattle.memory.specs.Reading.{Reading, done, ◌>>=◌, read_as, one_pointer, given, refused, run_from, run}
use Rattle.memory.specs.Address.{nothing, pointer, ahead, further, words}
use Rattle.memory.specs.Answers.{words_read}
use Rattle.memory.proofs.Laws.{bind-given, bind-refused, bind-bind, step_given, step-refused, run-done}
use Rattle.memory.proofs.WordLaws.{read_whole, read-refused}
use Rattle.memory.proofs.Roles.{run-as}
use Rattle.memory.proofs.RunLaws.{ahead-add}
use Rattle.blocks.specs.declared.SegmentCount.{SegmentCount}
use Rattle.blocks.specs.RowBlock.{RowBlock, segment_of, segments_at, segments_of, segment_roles, segments_from, rest_of_block}
use Rattle.blocks.specs.Answers.{segment_in, segments_past, pointer_words, redefinition_pointer, pointer_read}

segment-prefix : (l : Bool) (a : ℕ) (ys zs : List ℕ) → 5 ≤ length ys → segment_of l a (ys ++ zs) ≡ segment_of l a ys
unfolding segment_of
segment-prefix l a ys zs h =
    rw (get_or-append ys zs 0 0 (omega arith), get_or-append ys zs 0 1 (omega arith), get_or-append ys zs 0 2 (omega arith), get_or-append ys zs 0 3 (omega arith), get_or-append ys zs 0 4 (omega arith))

pub segments-prefix : (l : Bool) (a n : ℕ) (ys zs : List ℕ) → 5 * n ≤ length ys → segments_at l a n (ys ++ zs) ≡ segments_at l a n ys
unfolding segments_at
segments-prefix l a zero ys zs h = refl
segments-prefix l a (suc n) ys zs h =
    ap₂ ◌∷◌ (segment-prefix l a ys zs (omega arith))
    (rw (drop-append-le 5 ys zs (omega arith)) (segments-prefix l (ahead l 5 a) n (drop 5 ys) zs (simp length-drop (omega arith))))

-- of the segments from number i on: all; the first and the rest; none
module _ (l : Bool) (count : SegmentCount) (ws : List ℕ) where
  pub segments-all : segments_past l count ws 0 ≡ segments_of l count ws
  unfolding ahead
  segments-all = rw sub-zero

  pub segments-more : (i : ℕ) → i < count.number → segments_past l count ws i ≡ segment_in l count ws i ∷ segments_past l count ws (i + 1)
  unfolding segments_at
  segments-more i h =
      let n : count.number - i ≡ suc (count.number - (i + 1)) = omega arith in
      let k : 5 * i + 5 ≡ 5 * (i + 1) = omega arith in
      ap (λ (j : ℕ). segments_at l (ahead l (5 * i) count.at) j (drop (5 * i) ws)) n
      ∙ rw (drop-drop 5 (5 * i) ws, ahead-add l (5 * i) 5 count.at, k)

  pub segments-none : (i : ℕ) → count.number ≤ i → segments_past l count ws i ≡ []
  unfolding segments_at
  segments-none i h =
      let n : count.number - i ≡ 0 = omega arith in
      ap (λ (j : ℕ). segments_at l (ahead l (5 * i) count.at) j (drop (5 * i) ws)) n

pub segments-length : (l : Bool) (a n : ℕ) (ws : List ℕ) → length (segments_at l a n ws) ≡ n
unfolding segments_at
segments-length l a zero ws = refl
segments-length l a (suc n) ws = ap suc (segments-length l (ahead l 5 a) n (drop 5 ws))

-- the segment from word k on, and that of no words
pub segment-at : (l : Bool) (a k : ℕ) (ws : List ℕ) → segment_of l a (drop k ws) ≡ record {
  codes = pointer l a (at ws k) (at ws (k + 1));
  attributes = pointer l (ahead l 2 a) (at ws (k + 2)) (at ws (k + 3));
  length = high (at ws (k + 4));
  visible = low (at ws (k + 4));
}
unfolding segment_of
segment-at l a k ws = simp (get_or-drop, add-zero)

no_pointer : (l : Bool) (a : ℕ) → pointer l a 0 0 ≡ nothing
unfolding pointer
no_pointer true a = refl
no_pointer false a = refl

pub segment-none : (l : Bool) (a : ℕ) → segment_of l a [] ≡ record { codes = nothing; attributes = nothing; length = 0; visible = 0 }
unfolding segment_of
segment-none l a = rw (no_pointer l a, no_pointer l (ahead l 2 a))

-- what `read_words` says, of n segments from word w of a block on: k words, of which there are more in the slice
module _ (w : ℕ) (m : List ℕ) (l : Bool) (p : Pointer) (head : List ℕ) (re q : Pointer) (first : q ≡ further l w p) (n k : ℕ)
    (count : n ≡ at head 2 % 16) (size : k ≡ 5 * n) (r : Result (Unit {0}) Fault) (ys zs : List ℕ) (e : words_read r ys ≡ run m (words l k q)) where
  five : k ≡ 5 * (at head 2 % 16)
  five = size ∙ ap (λ (i : ℕ). 5 * i) count

  asked : words_read r ys ≡ run m (words l (5 * (at head 2 % 16)) (further l w p))
  asked = e ∙ ap (λ (i : ℕ). run m (words l i q)) five ∙ ap (λ (s : Pointer). run m (words l (5 * (at head 2 % 16)) s)) first

  pub segments-whole : (link : Pointer) → link ≡ pointer l p.address (at head 0) (at head 1) → r ≡ (Ok tt) → length ys ≡ k
      → given (w + 5 * n) (record { link = link; redefinition = re; segments = segments_at l q.address n (ys ++ zs) })
      ≡ run_from w m (segments_from l p head re w)
  segments-whole link o h len =
      rw (segments-prefix l q.address n ys zs (omega arith), o, count, first)
      (sym (step_given w m (read_as (segment_roles (at head 2 % 16)) (words l (5 * (at head 2 % 16)) (further l w p))) _ (run-as _ _ _ _ ∙ read_whole m l _ (further l w p) r ys asked h (len ∙ five)) ∙ run-done _ _ _))

  pub segments-refused : (x : Fault) → r ≡ Err x → refused x ≡ run_from w m (segments_from l p head re w)
  segments-refused x h =
      sym (step-refused w m (read_as (segment_roles (at head 2 % 16)) (words l (5 * (at head 2 % 16)) (further l w p))) _ (run-as _ _ _ _ ∙ read-refused m l _ (further l w p) r ys asked h))

-- a block's redefinition pointer, and then its segments; the pointer where there is none
pub rest-of-block : (w : ℕ) (m : List ℕ) (l : Bool) (p : Pointer) (head : List ℕ) (n : ℕ)
    → run_from w m (rest_of_block l p head n) ≡ run_from w m (redefinition_pointer l p n >>= λ re. segments_from l p head re (3 + n))
unfolding rest_of_block redefinition_pointer ◌>>=◌
rest-of-block w m l p head n =
    sym (bind-bind w m (read_as one_pointer (words l n (further l 3 p))) (λ re. done (pointer l (ahead l 3 p.address) (at re 0) (at re 1))) (λ re. segments_from l p head re (3 + n)))

pub no-redefinition : (w : ℕ) (m : List ℕ) (l : Bool) (p : Pointer) → run_from w m (redefinition_pointer l p 0) ≡ given w nothing
unfolding redefinition_pointer words read_as ◌>>=◌ run_from
no-redefinition w m l p = ap (given w) (no_pointer l (ahead l 3 p.address))

-- .. of the whole block, whose head was read
module _ (m : List ℕ) (l redefines : Bool) (p : Pointer) (head : List ℕ) (read : run m (words l 3 p) ≡ given 3 head) (pointed : Bool)
    (is : pointed ≡ redefines && bit 15 (at head 2)) (r : Result Pointer Fault)
    (e : pointer_read (pointer_words pointed) r ≡ run_from 3 m (redefinition_pointer l p (pointer_words pointed))) where
  abbrev whole : Reading RowBlock
  whole = read_as one_pointer (words l 3 p) >>= λ ws. rest_of_block l p ws (when redefines && bit 15 (at ws 2) then 2 else 0)

  by-pointer : run m whole ≡ run_from 3 m (redefinition_pointer l p (pointer_words pointed) >>= λ re. segments_from l p head re (3 + pointer_words pointed))
  by-pointer = step_given 0 m (read_as one_pointer (words l 3 p)) _ (run-as _ _ _ _ ∙ read) ∙ rw (sym is) (rest-of-block 3 m l p head (pointer_words pointed))

  pub block_read : (re : Pointer) (w : ℕ) → r ≡ Ok re → w ≡ 3 + pointer_words pointed
      → run_from w m (segments_from l p head re w) ≡ run m whole
  block_read re w h n =
      ap (λ (i : ℕ). run_from i m (segments_from l p head re i)) n
      ∙ sym (by-pointer ∙ bind-given 3 m (redefinition_pointer l p (pointer_words pointed)) _ (sym e ∙ ap (pointer_read (pointer_words pointed)) h))

  pub block_refused : (x : Fault) → r ≡ Err x → refused x ≡ run m whole
  block_refused x h =
      sym (by-pointer ∙ bind-refused 3 m (redefinition_pointer l p (pointer_words pointed)) _ (sym e ∙ ap (pointer_read (pointer_words pointed)) h))

pub few-before : (pointed : Bool) → 3 + pointer_words pointed ≤ 5
few-before true = lit≤ tt
few-before false = lit≤ tt
