-- The laws by which a proof follows segments one after the other, on a side of a window.
use mathlib.Core.Path.{◌≡◌, refl, ap, sym, ◌∙◌}
use mathlib.Core.List.{List, [], ◌∷◌}
use mathlib.Core.Bool.{Bool, true, false}
use Prim.Native.Nat.{ℕ, ◌+◌, ◌<◌, ◌≤◌}
use native.Mathlib.Omega.{arith}
use native.Mathlib.Nat.{zero-add}
use Rattle.memory.specs.Word.{when◌then◌else◌}
use Rattle.memory.specs.declared.Fault.{Fault}
use Rattle.memory.specs.Reading.{Reading, done, ◌>>=◌, each, given, refused, run_from}
use Rattle.memory.proofs.Laws.{bind-given, bind-refused, run-done}
use Rattle.memory.proofs.ReadBounds.{both}
use Rattle.blocks.specs.declared.Segment.{Segment}
use Rattle.blocks.specs.declared.SegmentCount.{SegmentCount}
use Rattle.blocks.specs.Answers.{segment_in, segments_past}
use Rattle.blocks.proofs.BlockLaws.{segments-more, segments-none}
use Rattle.layout.specs.declared.Side.{Side}
use Rattle.layout.specs.declared.Side.TheVariants.{Whole, Before, After}
use Rattle.layout.specs.Layout.{width, total, boundary, over, edges_fit, on_side, segments_on}
use Rattle.layout.proofs.LayoutLaws.{whole-all, clear, before-total, after-total}
use Rattle.cells.specs.Answers.{Drawable}

-- of a list whose first may be left out: the sum of widths, and a reading for each
module _ (hidden : Bool) (g : Segment) (gs : List Segment) where
  total-chosen : (b : Bool) → total hidden (when b then g ∷ gs else gs) ≡ (when b then width hidden g else 0) + total hidden gs
  unfolding total
  total-chosen true = refl
  total-chosen false = sym (zero-add (total hidden gs))

module _ {A B : Type 0} (f : A → B → Reading B) (x : A) (xs : List A) (y : B) where
  each_chosen : (b : Bool) → each f (when b then x ∷ xs else xs) y ≡ (when b then f x y else done y) >>= each f xs
  unfolding each ◌>>=◌
  each_chosen true = refl
  each_chosen false = refl

module _ (n : ℕ) (m : List ℕ) (l hidden : Bool) (side : Side) (count : SegmentCount) (ws : List ℕ) (at i : ℕ) where
  -- the segment in turn, its width, and the segments after it
  abbrev turn : Segment
  turn = segment_in l count ws i

  abbrev here : List Segment
  here = segments_on side hidden at (segments_past l count ws i)

  abbrev after : List Segment
  after = segments_on side hidden (at + width hidden turn) (segments_past l count ws (i + 1))

  pub more : i < count.number → here ≡ (when on_side side at (width hidden turn) then turn ∷ after else after)
  unfolding segments_on
  more h = ap (segments_on side hidden at) (segments-more l count ws i h)

  pub none : count.number ≤ i → here ≡ []
  unfolding segments_on
  none h = ap (segments_on side hidden at) (segments-none l count ws i h)

  pub side-total : i < count.number → total hidden here ≡ (when on_side side at (width hidden turn) then width hidden turn else 0) + total hidden after
  side-total h = ap (total hidden) (more h) ∙ total-chosen hidden turn after (on_side side at (width hidden turn))

  pub side-none-total : count.number ≤ i → total hidden here ≡ 0
  unfolding total
  side-none-total h = ap (total hidden) (none h)

  module _ {B : Type 0} (f : Segment → B → Reading B) (d : B) where
    abbrev drawn : Reading B
    drawn = when on_side side at (width hidden turn) then f turn d else done d

    pub each_of : i < count.number → each f here d ≡ drawn >>= each f after
    each_of h = ap (λ (gs : List Segment). each f gs d) (more h) ∙ each_chosen f turn after d (on_side side at (width hidden turn))

    pub side-given : {k : ℕ} {e : B} → i < count.number → run_from n m drawn ≡ given k e → run_from n m (each f here d) ≡ run_from k m (each f after e)
    side-given h e = ap (run_from n m) (each_of h) ∙ bind-given n m drawn (each f after) e

    pub side-refused : {x : Fault} → i < count.number → run_from n m drawn ≡ refused x → run_from n m (each f here d) ≡ refused x
    side-refused h e = ap (run_from n m) (each_of h) ∙ bind-refused n m drawn (each f after) e

    pub side-none : count.number ≤ i → run_from n m (each f here d) ≡ given n d
    unfolding each
    side-none h = ap (λ (gs : List Segment). run_from n m (each f gs d)) (none h) ∙ run-done n m d

-- where the background before a window, the window's segments and the background after it end
pub record Around (hidden : Bool) (first end : ℕ) (ws gs : List Segment) : Type 0 where
  pub before : total hidden (segments_on (Before first) hidden 0 gs) ≤ first
  pub inside : first + total hidden (segments_on Whole hidden 0 ws) ≤ end
  pub after : end + total hidden (segments_on (After first end) hidden 0 gs) ≤ 132

pub around : (hidden : Bool) (number first end : ℕ) (ws gs : List Segment) → Drawable hidden (over number first end ws) gs → Around hidden first end ws gs
unfolding edges_fit
around hidden number first end ws gs d =
    let edge = both (boundary hidden 0 gs first) (boundary hidden 0 gs end) d.edges in
    let narrow = d.narrow in
    let inside = d.inside in
    record {
      before = omega (arith, before-total hidden first 0 gs (clear hidden first gs edge.0));
      inside = rw (whole-all hidden 0 ws) inside.0;
      after = omega (arith, after-total hidden 132 first end 0 gs (clear hidden end gs edge.1) (omega arith) (omega arith));
    }
