-- The laws by which a proof follows the codes of a segment: one for each way through a definition.
use Rattle.std.proofs.Common.{Some, None}
use mathlib.Core.Path.{◌≡◌, ap, sym, ◌∙◌}
use mathlib.Core.List.{List, ◌∷◌}
use mathlib.Core.Bool.{Bool, true, false, ◌&&◌, ◌||◌, not}
use Prim.Native.Nat.{ℕ, zero, suc, ◌+◌, ◌-◌, ◌%◌, ◌<◌, ◌≤◌, min}
use native.Mathlib.Omega.{arith}
use native.Mathlib.Numerals.{add-one}
use lib.ListN.{length, get_or, take, drop, set}
use lib.Seq.{drop-cons}
use lib.Dec.{ltb}
use borrow.Author.Tests.{ltb-true}
use Rattle.memory.specs.declared.Fault.{Fault}
use Rattle.memory.specs.declared.Pointer.{Pointer}
use Rattle.memory.specs.Reading.{◌>>=◌, each, fetch, missing, given, refused, run_from}
use Rattle.memory.specs.Address.{onward}
use Rattle.memory.proofs.Laws.{bind-given, bind-refused, run-done, ask-word, ask-absent}
use Rattle.memory.proofs.ListLaws.{take_next}
use Rattle.memory.proofs.ReadBounds.{both}
use Rattle.codes.specs.declared.CodeSettings.{CodeSettings}
use Rattle.codes.specs.declared.Source.{Source}
use Rattle.codes.specs.declared.Pen.{Pen}
use Rattle.codes.specs.Attribute.{invokes, ignores, cell}
use Rattle.codes.specs.Codes.{Drawing, drawing, moved_to, taking, put, character, examine, word_codes, codes}
use Rattle.codes.specs.Answers.{so_far}

-- ---- one character ----

-- a cell is its attribute's bits and its code
pub cell-code : (source : Source) (a code : ℕ) → cell source a 0 + code ≡ cell source a code
unfolding cell
cell-code source a code = omega arith

-- its bits but the code's leave room for a code
pub cell_room : (source : Source) (a : ℕ) → cell source a 0 % 256 ≡ 0
unfolding cell
cell_room source a = omega arith

-- one cell more at the pen's column, or none
module _ (hidden : Bool) (source : Source) (end a code : ℕ) (p : Pen) (cs : List ℕ) where
  pub character-put : (hidden || not (ignores a)) && ltb p.column end ≡ true → end ≤ length cs
      → so_far (moved_to (p.column + 1) p) (set cs p.column (cell source a code)) ≡ character hidden source end a code (so_far p cs)
  unfolding character put
  character-put h l =
      let k : p.column < length cs = omega (arith, ltb-true p.column end (both (hidden || not (ignores a)) (ltb p.column end) h).1) in
      rw h (ap (drawing (moved_to (p.column + 1) p)) (take_next cs p.column (cell source a code) k))

  pub character-out : (hidden || not (ignores a)) && ltb p.column end ≡ false → so_far p cs ≡ character hidden source end a code (so_far p cs)
  unfolding character
  character-out h = rw h

-- ---- codes ----
module _ (n : ℕ) (m : List ℕ) (σ : CodeSettings) (source : Source) (end : ℕ) where
  module _ (code : ℕ) (d : Drawing) where
    pub examine-word : (x : ℕ) → invokes σ.flag code && d.pen.list.present ≡ true → fetch m d.pen.list.next.address ≡ Some x
        → run_from n m (examine σ source end code d)
        ≡ given (n + 1) (character σ.hidden source end x code (drawing (taking σ.linear x d.pen) d.cells))
    unfolding examine ◌>>=◌
    examine-word x t e = rw t (ask-word n m d.pen.list.next _ x e ∙ run-done _ _ _)

    pub examine-absent : invokes σ.flag code && d.pen.list.present ≡ true → fetch m d.pen.list.next.address ≡ None
        → run_from n m (examine σ source end code d) ≡ refused (missing d.pen.list.next)
    unfolding examine ◌>>=◌
    examine-absent t e = rw t (ask-absent n m d.pen.list.next _ e)

    pub examine-latch : invokes σ.flag code && d.pen.list.present ≡ false
        → run_from n m (examine σ source end code d) ≡ given n (character σ.hidden source end d.pen.latch code d)
    unfolding examine
    examine-latch t = rw t (run-done _ _ _)

  -- codes one after the other, from code i on of the n first ones
  module _ (bytes : List ℕ) (k i : ℕ) (d : Drawing) where
    abbrev rest : List ℕ
    rest = take (k - i) (drop i bytes)

    one_more : i < k → k ≤ length bytes → rest ≡ get_or bytes i 0 ∷ take (k - (i + 1)) (drop (i + 1) bytes)
    one_more h l =
        let e : k - i ≡ suc (k - (i + 1)) = omega arith in
        ap (λ (j : ℕ). take j (drop i bytes)) e ∙ rw (drop-cons bytes i 0 (omega arith), add-one i)

    pub bytes-none : k ≡ i → run_from n m (each (examine σ source end) rest d) ≡ given n d
    unfolding each
    bytes-none h =
        let e : k - i ≡ 0 = omega arith in
        ap (λ (j : ℕ). run_from n m (each (examine σ source end) (take j (drop i bytes)) d)) e ∙ run-done _ _ _

    pub bytes-refused : {x : Fault} → i < k → k ≤ length bytes → run_from n m (examine σ source end (get_or bytes i 0) d) ≡ refused x
        → run_from n m (each (examine σ source end) rest d) ≡ refused x
    unfolding each
    bytes-refused h l e = ap (λ (bs : List ℕ). run_from n m (each (examine σ source end) bs d)) (one_more h l) ∙ bind-refused n m _ _ e

    pub bytes-more : {j : ℕ} {b : Drawing} → i < k → k ≤ length bytes → run_from n m (examine σ source end (get_or bytes i 0) d) ≡ given j b
        → run_from n m (each (examine σ source end) rest d)
        ≡ run_from j m (each (examine σ source end) (take (k - (i + 1)) (drop (i + 1) bytes)) b)
    unfolding each
    bytes-more h l e = ap (λ (bs : List ℕ). run_from n m (each (examine σ source end) bs d)) (one_more h l) ∙ bind-given n m _ _ e

  -- the codes of a segment: none; a word, with one or two of them
  module _ (p : Pointer) (d : Drawing) where
    pub codes-none : (left : ℕ) → left ≡ 0 → run_from n m (codes σ source end left p d) ≡ given n d
    unfolding codes
    codes-none left h = ap (λ (i : ℕ). run_from n m (codes σ source end i p d)) h ∙ run-done _ _ _

    pub codes-absent : (left : ℕ) → 0 < left → fetch m p.address ≡ None → run_from n m (codes σ source end left p d) ≡ refused (missing p)
    unfolding codes ◌>>=◌
    codes-absent zero h e = absurd (omega arith)
    codes-absent (suc zero) h e = ask-absent n m p _ e
    codes-absent (suc (suc k)) h e = ask-absent n m p _ e

    module _ (x : ℕ) (e : fetch m p.address ≡ Some x) where
      pub codes-refused : (left : ℕ) {y : Fault} → 0 < left → run_from (n + 1) m (word_codes σ source end (min left 2) x d) ≡ refused y
          → run_from n m (codes σ source end left p d) ≡ refused y
      unfolding codes ◌>>=◌
      codes-refused zero h r = absurd (omega arith)
      codes-refused (suc zero) h r = ask-word n m p _ x e ∙ r
      codes-refused (suc (suc k)) h r =
          let two : min (suc (suc k)) 2 ≡ 2 = omega arith in
          ask-word n m p _ x e ∙ bind-refused (n + 1) m _ _ (rw two at r)

      pub codes-more : (left : ℕ) {i : ℕ} {b : Drawing} → 0 < left → run_from (n + 1) m (word_codes σ source end (min left 2) x d) ≡ given i b
          → run_from n m (codes σ source end left p d) ≡ run_from i m (codes σ source end (left - min left 2) (onward σ.linear p) b)
      unfolding codes ◌>>=◌
      codes-more zero h r = absurd (omega arith)
      codes-more (suc zero) h r = ask-word n m p _ x e ∙ r ∙ sym (run-done _ _ _)
      codes-more (suc (suc k)) h r =
          let two : min (suc (suc k)) 2 ≡ 2 = omega arith in
          let rest : suc (suc k) - min (suc (suc k)) 2 ≡ k = omega arith in
          ask-word n m p _ x e ∙ bind-given (n + 1) m _ _ (rw two at r) ∙ rw rest
