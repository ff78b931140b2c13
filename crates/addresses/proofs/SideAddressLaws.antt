-- The segments on a side, from segment i on: the one in turn, where it is chosen, and those after it; none.
use mathlib.Core.Path.{◌≡◌, refl, ap, ◌∙◌}
use mathlib.Core.List.{List, [], ◌∷◌, ◌++◌}
use mathlib.Core.Bool.{Bool, true, false}
use Prim.Native.Nat.{ℕ, ◌+◌, ◌<◌, ◌≤◌}
use native.Mathlib.Nat.{add-zero}
use Rattle.memory.specs.Word.{when◌then◌else◌}
use Rattle.blocks.specs.declared.FillMode.{FillMode}
use Rattle.blocks.specs.declared.Segment.{Segment}
use Rattle.blocks.specs.declared.SegmentCount.{SegmentCount}
use Rattle.blocks.specs.Answers.{segment_in, segments_past}
use Rattle.blocks.proofs.BlockLaws.{segments-more, segments-none}
use Rattle.layout.specs.declared.Side.{Side}
use Rattle.layout.specs.Layout.{width, on_side, segments_on}
use Rattle.codes.specs.declared.CodeSettings.{CodeSettings}
use Rattle.codes.specs.declared.AttributeList.{AttributeList}
use Rattle.addresses.specs.Addresses.{chosen_addresses, chosen_list, side_addresses, side_list}

module _ (σ : CodeSettings) (m : List ℕ) (fill : FillMode) (cs : List ℕ) (side : Side) (count : SegmentCount) (ws : List ℕ) (c s i : ℕ) where
  abbrev pub turn : Segment
  turn = segment_in σ.linear count ws i

  abbrev pub chosen : Bool
  chosen = on_side side s (width σ.hidden turn)

  abbrev pub here : List Segment
  here = segments_on side σ.hidden s (segments_past σ.linear count ws i)

  abbrev pub after : List Segment
  after = segments_on side σ.hidden (s + width σ.hidden turn) (segments_past σ.linear count ws (i + 1))

  abbrev pub column : ℕ
  column = c + (when chosen then width σ.hidden turn else 0)

  pub side-addresses : i < count.number → side_addresses σ m fill cs c here ≡ chosen_addresses σ m fill cs chosen c turn ++ side_addresses σ m fill cs column after
  unfolding segments_on side_addresses
  side-addresses h =
      ap (λ (gs : List Segment). side_addresses σ m fill cs c (segments_on side σ.hidden s gs)) (segments-more σ.linear count ws i h) ∙ by chosen
    where
      by : (b : Bool)
          → side_addresses σ m fill cs c (when b then turn ∷ after else after)
          ≡ chosen_addresses σ m fill cs b c turn ++ side_addresses σ m fill cs (c + (when b then width σ.hidden turn else 0)) after
      by true = refl
      by false = rw (add-zero c)

  pub side-list : (l : AttributeList) → i < count.number
      → side_list σ m fill cs c here l ≡ side_list σ m fill cs column after (chosen_list σ m fill cs chosen c turn l)
  unfolding segments_on side_list
  side-list l h =
      ap (λ (gs : List Segment). side_list σ m fill cs c (segments_on side σ.hidden s gs) l) (segments-more σ.linear count ws i h) ∙ by chosen
    where
      by : (b : Bool)
          → side_list σ m fill cs c (when b then turn ∷ after else after) l
          ≡ side_list σ m fill cs (c + (when b then width σ.hidden turn else 0)) after (chosen_list σ m fill cs b c turn l)
      by true = refl
      by false = rw (add-zero c)

  pub none-addresses : count.number ≤ i → side_addresses σ m fill cs c here ≡ []
  unfolding segments_on side_addresses
  none-addresses h = ap (λ (gs : List Segment). side_addresses σ m fill cs c (segments_on side σ.hidden s gs)) (segments-none σ.linear count ws i h)

  pub none_list : (l : AttributeList) → count.number ≤ i → side_list σ m fill cs c here l ≡ l
  unfolding segments_on side_list
  none_list l h = ap (λ (gs : List Segment). side_list σ m fill cs c (segments_on side σ.hidden s gs) l) (segments-none σ.linear count ws i h)
