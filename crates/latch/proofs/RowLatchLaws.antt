-- The laws by which a proof follows the walk over segments, codes and words: one for each turn of a loop.
use mathlib.Core.Path.{◌≡◌, refl, ap, sym, ◌∙◌}
use mathlib.Core.List.{List, ◌∷◌}
use mathlib.Core.Bool.{Bool, true, false}
use Prim.Native.Nat.{ℕ, suc, ◌+◌, ◌-◌, ◌<◌, ◌≤◌}
use native.Mathlib.Omega.{arith}
use lib.ListN.{get_or}
use Rattle.memory.specs.Word.{when◌then◌else◌, high, low}
use Rattle.codes.specs.declared.CodeSettings.{CodeSettings}
use Rattle.blocks.specs.declared.Segment.{Segment}
use Rattle.blocks.specs.declared.SegmentCount.{SegmentCount}
use Rattle.blocks.specs.Answers.{segment_in, segments_past}
use Rattle.blocks.proofs.BlockLaws.{segments-more, segments-none}
use Rattle.layout.specs.declared.Side.{Side}
use Rattle.layout.specs.Layout.{width, on_side, segments_on}
use Rattle.codes.specs.Attribute.{latches}
use Rattle.latch.specs.declared.LatchEffect.{LatchEffect}
use Rattle.latch.specs.declared.LatchEffect.TheVariants.{Kept, Latched, Unclear}
use Rattle.latch.specs.Latch.{join, takes, invoking, last_latched, over_segment, over_segments}

pub join_kept : (f : LatchEffect) → join f Kept ≡ f
join_kept Kept = refl
join_kept (Latched w) = refl
join_kept Unclear = refl

pub join-assoc : (f g h : LatchEffect) → join (join f g) h ≡ join f (join g h)
join-assoc Kept g h = refl
join-assoc Unclear g h = refl
join-assoc (Latched w) Kept h = refl
join-assoc (Latched w) Unclear h = refl
join-assoc (Latched w) (Latched v) Kept = refl
join-assoc (Latched w) (Latched v) (Latched u) = refl
join-assoc (Latched w) (Latched v) Unclear = refl

-- the segments on a side, from segment i on: the one in turn, where it is chosen, and those after it; none
module _ (σ : CodeSettings) (m : List ℕ) (side : Side) (count : SegmentCount) (ws : List ℕ) (at i : ℕ) where
  abbrev turn : Segment
  turn = segment_in σ.linear count ws i

  abbrev chosen : Bool
  chosen = on_side side at (width σ.hidden turn)

  abbrev after : List Segment
  after = segments_on side σ.hidden (at + width σ.hidden turn) (segments_past σ.linear count ws (i + 1))

  abbrev over : List Segment → LatchEffect
  over gs = over_segments σ m (segments_on side σ.hidden at gs)

  module _ (f : LatchEffect) where
    pub side-more : i < count.number
        → join f (over (segments_past σ.linear count ws i)) ≡ join (join f (when chosen then over_segment σ m turn else Kept)) (over_segments σ m after)
    unfolding segments_on over_segments
    side-more h = ap (λ (gs : List Segment). join f (over gs)) (segments-more σ.linear count ws i h) ∙ by chosen
      where
        by : (b : Bool) → join f (over_segments σ m (when b then turn ∷ after else after)) ≡ join (join f (when b then over_segment σ m turn else Kept)) (over_segments σ m after)
        by true = sym (join-assoc f (over_segment σ m turn) (over_segments σ m after))
        by false = rw (join_kept f)

    pub side-none : count.number ≤ i → join f (over (segments_past σ.linear count ws i)) ≡ f
    unfolding segments_on over_segments
    side-none h = ap (λ (gs : List Segment). join f (over gs)) (segments-none σ.linear count ws i h) ∙ join_kept f

-- codes, two to a word; the last of an odd count; none
module _ (flag : ℕ) (m : List ℕ) (at left : ℕ) where
  pub invoking-more : (n : ℕ) → left ≡ n + 2
      → invoking flag m at left ≡ takes flag (high (get_or m at 0)) + takes flag (low (get_or m at 0)) + invoking flag m (at + 1) n
  unfolding invoking
  invoking-more n h =
      let e : left ≡ suc (suc n) = omega arith in
      ap (invoking flag m at) e

  pub invoking-one : left ≡ 1 → invoking flag m at left ≡ takes flag (high (get_or m at 0))
  unfolding invoking
  invoking-one e = ap (invoking flag m at) e

  pub invoking-none : left ≡ 0 → invoking flag m at left ≡ 0
  unfolding invoking
  invoking-none e = ap (invoking flag m at) e

-- words from the last on
module _ (m : List ℕ) (at left : ℕ) where
  pub latched-turn : 0 < left
      → last_latched m at left ≡ (when latches (get_or m (at + (left - 1)) 0) then Latched (get_or m (at + (left - 1)) 0) else last_latched m at (left - 1))
  unfolding last_latched
  latched-turn h =
      let e : left ≡ suc (left - 1) = omega arith in
      ap (last_latched m at) e

  pub latched-none : left ≡ 0 → last_latched m at left ≡ Kept
  unfolding last_latched
  latched-none e = ap (last_latched m at) e
