-- The laws by which a proof follows the walk of a row's cells: one for each way through a definition.
use mathlib.Core.Path.{◌≡◌, refl, ap, sym, ◌∙◌}
use mathlib.Core.List.{List, [], ◌∷◌}
use mathlib.Core.Bool.{Bool, true, false, ◌&&◌, ◌||◌, not}
use Prim.Native.Nat.{ℕ, zero, suc, ◌+◌, ◌-◌, ◌<◌, ◌≤◌, min}
use native.Mathlib.Omega.{arith}
use lib.Dec.{ltb}
use borrow.Author.Tests.{lt-ltb, le-ltb}
use Rattle.memory.specs.Word.{when◌then◌else◌, high, low}
use Rattle.memory.specs.declared.Fault.{Fault}
use Rattle.memory.specs.declared.Pointer.{Pointer}
use Rattle.memory.specs.Reading.{Reading, done, refuse, ask, asking, each, ◌>>=◌}
use Rattle.memory.specs.Address.{onward}
use Rattle.blocks.specs.declared.FillMode.{FillMode}
use Rattle.blocks.specs.declared.Segment.{Segment}
use Rattle.blocks.specs.declared.SegmentCount.{SegmentCount}
use Rattle.blocks.specs.Answers.{segment_in, segments_past}
use Rattle.blocks.proofs.BlockLaws.{segments-more, segments-none}
use Rattle.layout.specs.declared.Side.{Side}
use Rattle.layout.specs.Layout.{width, on_side, segments_on}
use Rattle.codes.specs.declared.CodeSettings.{CodeSettings}
use Rattle.codes.specs.declared.Source.{Source}
use Rattle.codes.specs.declared.Pen.{Pen}
use Rattle.codes.specs.Attribute.{invokes, ignores, latches}
use Rattle.codes.specs.Codes.{Drawing, drawing, moved_to, taking, put, character, examine, word_codes, codes}
use Rattle.cells.specs.Cells.{filled, unlatched, fill_by_word, fill_to}
use Rattle.converter.specs.Walk.{Walked, went, halted, walk}
use Rattle.marking.specs.Answers.{pen_of}
use Rattle.marking.proofs.PenLaws.{ask-went, ask-halted, as_is, then-halted, then-went}

-- ---- one character ----
module _ (hidden : Bool) (source : Source) (end a code : ℕ) (p : Pen) (cs : List ℕ) where
  pub past-put : (hidden || not (ignores a)) && ltb p.column end ≡ true → moved_to (p.column + 1) p ≡ (character hidden source end a code (drawing p cs)).pen
  unfolding character put
  past-put h = rw h

  pub past-out : (hidden || not (ignores a)) && ltb p.column end ≡ false → p ≡ (character hidden source end a code (drawing p cs)).pen
  unfolding character
  past-out h = rw h

module _ (m marks : List ℕ) (σ : CodeSettings) (p : Pen) (cs : List ℕ) where
  -- ---- codes ----
  module _ (source : Source) (end : ℕ) where
    module _ (code : ℕ) where
      pub examine-halted : {x : Fault} → invokes σ.flag code && p.list.present ≡ true → halted x ≡ walk 0 m marks (ask (asking p.list.next) done)
          → halted x ≡ pen_of (walk 0 m marks (examine σ source end code (drawing p cs)))
      unfolding examine ◌>>=◌
      examine-halted t e = rw t (sym (ap pen_of (ask-halted m marks (asking p.list.next) _ (sym e))))

      pub examine-went : {marks₁ : List ℕ} {w : ℕ} {r : Pen} → invokes σ.flag code && p.list.present ≡ true
          → went marks₁ w ≡ walk 0 m marks (ask (asking p.list.next) done)
          → r ≡ (character σ.hidden source end w code (drawing (taking σ.linear w p) cs)).pen
          → went marks₁ r ≡ pen_of (walk 0 m marks (examine σ source end code (drawing p cs)))
      unfolding examine ◌>>=◌ walk
      examine-went {marks₁} t e h =
          rw (t, h) (sym (ap pen_of (ask-went m marks (asking p.list.next) (λ v. done (character σ.hidden source end v code (drawing (taking σ.linear v p) cs))) (sym e))))

      pub examine-latch : {r : Pen} → invokes σ.flag code && p.list.present ≡ false
          → r ≡ (character σ.hidden source end p.latch code (drawing p cs)).pen → went marks r ≡ pen_of (walk 0 m marks (examine σ source end code (drawing p cs)))
      unfolding examine walk
      examine-latch t h = rw (t, h)

    -- a word's one or two codes
    module _ (w : ℕ) where
      pub word-halted : {x : Fault} (n : ℕ) → 1 ≤ n → n ≤ 2 → halted x ≡ pen_of (walk 0 m marks (examine σ source end (high w) (drawing p cs)))
          → halted x ≡ pen_of (walk 0 m marks (word_codes σ source end n w (drawing p cs)))
      unfolding word_codes each
      word-halted zero h l e = absurd (omega arith)
      word-halted (suc zero) h l e = then-halted m marks (examine σ source end (high w) (drawing p cs)) _ e
      word-halted (suc (suc zero)) h l e = then-halted m marks (examine σ source end (high w) (drawing p cs)) _ e
      word-halted (suc (suc (suc n))) h l e = absurd (omega arith)

      pub word-one : {r : Walked Pen} (n : ℕ) → n ≡ 1 → r ≡ pen_of (walk 0 m marks (examine σ source end (high w) (drawing p cs)))
          → r ≡ pen_of (walk 0 m marks (word_codes σ source end n w (drawing p cs)))
      unfolding word_codes each
      word-one n h e = rw h (e ∙ ap pen_of (as_is m marks (examine σ source end (high w) (drawing p cs))))

      pub word_two : {r : Walked Pen} {marks₁ : List ℕ} {q : Pen} (n : ℕ) → n ≡ 2 → went marks₁ q ≡ pen_of (walk 0 m marks (examine σ source end (high w) (drawing p cs)))
          → ((ds : List ℕ) → r ≡ pen_of (walk 0 m marks₁ (examine σ source end (low w) (drawing q ds))))
          → r ≡ pen_of (walk 0 m marks (word_codes σ source end n w (drawing p cs)))
      unfolding word_codes each
      word_two {r} {marks₁} {q} n h e f =
          rw h (then-went m marks (examine σ source end (high w) (drawing p cs)) _ e
          (λ ds. f ds ∙ ap pen_of (as_is m marks₁ (examine σ source end (low w) (drawing q ds)))))

    -- the codes of a segment: none; a word, with one or two of them
    pub codes-none : (left : ℕ) (at : Pointer) → left ≡ 0 → went marks p ≡ pen_of (walk 0 m marks (codes σ source end left at (drawing p cs)))
    unfolding codes walk
    codes-none left at h = rw h

    pub codes-halted : {x : Fault} (left : ℕ) (at : Pointer) → 0 < left → halted x ≡ walk 0 m marks (ask (asking at) done)
        → halted x ≡ pen_of (walk 0 m marks (codes σ source end left at (drawing p cs)))
    unfolding codes ◌>>=◌
    codes-halted zero at h e = absurd (omega arith)
    codes-halted (suc zero) at h e = sym (ap pen_of (ask-halted m marks (asking at) _ (sym e)))
    codes-halted (suc (suc k)) at h e = sym (ap pen_of (ask-halted m marks (asking at) _ (sym e)))

    module _ {marks₁ : List ℕ} (w : ℕ) where
      pub codes-word-halted : {x : Fault} (left : ℕ) (at : Pointer) → 0 < left → went marks₁ w ≡ walk 0 m marks (ask (asking at) done)
          → halted x ≡ pen_of (walk 0 m marks₁ (word_codes σ source end (min left 2) w (drawing p cs)))
          → halted x ≡ pen_of (walk 0 m marks (codes σ source end left at (drawing p cs)))
      unfolding codes ◌>>=◌
      codes-word-halted zero at h e f = absurd (omega arith)
      codes-word-halted (suc zero) at h e f = f ∙ sym (ap pen_of (ask-went m marks (asking at) _ (sym e)))
      codes-word-halted (suc (suc k)) at h e f =
          let two : min (suc (suc k)) 2 ≡ 2 = omega arith in
          then-halted m marks₁ (word_codes σ source end 2 w (drawing p cs)) _ (rw two at f)
          ∙ sym (ap pen_of (ask-went m marks (asking at) _ (sym e)))

      pub codes-more : {r : Walked Pen} {marks₂ : List ℕ} {q : Pen} (left : ℕ) (at : Pointer) → 0 < left → went marks₁ w ≡ walk 0 m marks (ask (asking at) done)
          → went marks₂ q ≡ pen_of (walk 0 m marks₁ (word_codes σ source end (min left 2) w (drawing p cs)))
          → ((ds : List ℕ) → r ≡ pen_of (walk 0 m marks₂ (codes σ source end (left - min left 2) (onward σ.linear at) (drawing q ds))))
          → r ≡ pen_of (walk 0 m marks (codes σ source end left at (drawing p cs)))
      unfolding codes ◌>>=◌ walk
      codes-more zero at h e f g = absurd (omega arith)
      codes-more (suc zero) at h e f g = g [] ∙ f ∙ sym (ap pen_of (ask-went m marks (asking at) (λ v. word_codes σ source end 1 v (drawing p cs)) (sym e)))
      codes-more (suc (suc k)) at h e f g =
          let two : min (suc (suc k)) 2 ≡ 2 = omega arith in
          let rest : suc (suc k) - min (suc (suc k)) 2 ≡ k = omega arith in
          then-went m marks₁ (word_codes σ source end 2 w (drawing p cs)) (codes σ source end k (onward σ.linear at)) (rw two at f) (rw rest at g)
          ∙ sym (ap pen_of (ask-went m marks (asking at) (λ v. word_codes σ source end 2 v (drawing p cs) >>= codes σ source end k (onward σ.linear at)) (sym e)))

  -- ---- fill runs ----
  module _ (fill : FillMode) (end : ℕ) where
    pub fill-halted : {x : Fault} → halted x ≡ walk 0 m marks (ask (asking p.list.next) done) → halted x ≡ pen_of (walk 0 m marks (fill_by_word σ fill end (drawing p cs)))
    unfolding fill_by_word ◌>>=◌
    fill-halted e = sym (ap pen_of (ask-halted m marks (asking p.list.next) _ (sym e)))

    -- a fill run by its word
    abbrev by_word : ℕ → Reading Drawing
    by_word w = when latches w then done (filled fill end (drawing (taking σ.linear w p) cs)) else refuse (unlatched p.list.next)

    moved : (q : Pen) → q.column ≤ end → moved_to end q ≡ (filled fill end (drawing q cs)).pen
    unfolding filled put
    moved q l = let k : end ≡ q.column + (end - q.column) = omega arith in ap (λ (c : ℕ). moved_to c q) k

    pub fill-word : {marks₁ : List ℕ} {w : ℕ} → p.column ≤ end → went marks₁ w ≡ walk 0 m marks (ask (asking p.list.next) done) → latches w ≡ true
        → went marks₁ (moved_to end (taking σ.linear w p)) ≡ pen_of (walk 0 m marks (fill_by_word σ fill end (drawing p cs)))
    unfolding fill_by_word ◌>>=◌ walk taking
    fill-word {marks₁} {w} l e h =
        let step : pen_of (walk 0 m marks₁ (by_word w)) ≡ went marks₁ (filled fill end (drawing (taking σ.linear w p) cs)).pen = rw h in
        ap (went marks₁) (moved (taking σ.linear w p) l) ∙ sym (ap pen_of (ask-went m marks (asking p.list.next) by_word (sym e)) ∙ step)

    pub fill-unlatched : {marks₁ : List ℕ} {w : ℕ} → went marks₁ w ≡ walk 0 m marks (ask (asking p.list.next) done) → latches w ≡ false
        → halted (unlatched p.list.next) ≡ pen_of (walk 0 m marks (fill_by_word σ fill end (drawing p cs)))
    unfolding fill_by_word ◌>>=◌ walk
    fill-unlatched {marks₁} {w} e h =
        let step : pen_of (walk 0 m marks₁ (by_word w)) ≡ halted (unlatched p.list.next) = rw h in
        sym (ap pen_of (ask-went m marks (asking p.list.next) by_word (sym e)) ∙ step)

    pub fill_none : end ≤ p.column → went marks p ≡ pen_of (walk 0 m marks (fill_to σ fill end (drawing p cs)))
    unfolding fill_to walk
    fill_none l = rw (le-ltb p.column end l)

    pub fill-plain : p.column < end → fill.flag && p.list.present ≡ false → went marks (moved_to end p) ≡ pen_of (walk 0 m marks (fill_to σ fill end (drawing p cs)))
    unfolding fill_to walk
    fill-plain l h = rw (lt-ltb p.column end l, h) (ap (went marks) (moved p (omega arith)))

    pub fill-by-word : {r : Walked Pen} → p.column < end → fill.flag && p.list.present ≡ true
        → r ≡ pen_of (walk 0 m marks (fill_by_word σ fill end (drawing p cs))) → r ≡ pen_of (walk 0 m marks (fill_to σ fill end (drawing p cs)))
    unfolding fill_to
    fill-by-word l h e = rw (lt-ltb p.column end l, h) e

-- ---- segments on a side ----
each_chosen : {A B : Type 0} (f : A → B → Reading B) (x : A) (xs : List A) (y : B) (b : Bool)
    → each f (when b then x ∷ xs else xs) y ≡ ((when b then f x y else done y) >>= each f xs)
unfolding each ◌>>=◌
each_chosen f x xs y true = refl
each_chosen f x xs y false = refl

module _ (m marks : List ℕ) (f : Segment → Drawing → Reading Drawing) (p : Pen) (l hidden : Bool) (side : Side) (count : SegmentCount) (ws : List ℕ) (at i : ℕ) where
  -- the segment in turn, where it is on the side, and those after it
  abbrev turn : Segment
  turn = segment_in l count ws i

  abbrev here : List Segment
  here = segments_on side hidden at (segments_past l count ws i)

  abbrev after : List Segment
  after = segments_on side hidden (at + width hidden turn) (segments_past l count ws (i + 1))

  abbrev chosen : Drawing → Reading Drawing
  chosen d = when on_side side at (width hidden turn) then f turn d else done d

  more : (d : Drawing) → i < count.number → each f here d ≡ (chosen d >>= each f after)
  unfolding segments_on
  more d h = ap (λ gs. each f (segments_on side hidden at gs) d) (segments-more l count ws i h) ∙ each_chosen f turn after d (on_side side at (width hidden turn))

  pub side-none : (cs : List ℕ) → count.number ≤ i → went marks p ≡ pen_of (walk 0 m marks (each f here (drawing p cs)))
  unfolding segments_on each walk
  side-none cs h = sym (ap (λ gs. pen_of (walk 0 m marks (each f (segments_on side hidden at gs) (drawing p cs)))) (segments-none l count ws i h))

  pub side-halted : {x : Fault} (cs : List ℕ) → i < count.number → halted x ≡ pen_of (walk 0 m marks (chosen (drawing p cs)))
      → halted x ≡ pen_of (walk 0 m marks (each f here (drawing p cs)))
  side-halted cs h e =
      then-halted m marks (chosen (drawing p cs)) (each f after) e ∙ sym (ap (λ (q : Reading Drawing). pen_of (walk 0 m marks q)) (more (drawing p cs) h))

  pub side-more : {r : Walked Pen} {marks₁ : List ℕ} {q : Pen} (cs : List ℕ) → i < count.number → went marks₁ q ≡ pen_of (walk 0 m marks (chosen (drawing p cs)))
      → ((ds : List ℕ) → r ≡ pen_of (walk 0 m marks₁ (each f after (drawing q ds)))) → r ≡ pen_of (walk 0 m marks (each f here (drawing p cs)))
  side-more cs h e g =
      then-went m marks (chosen (drawing p cs)) (each f after) e g ∙ sym (ap (λ (q : Reading Drawing). pen_of (walk 0 m marks q)) (more (drawing p cs) h))
