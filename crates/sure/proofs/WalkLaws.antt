-- The laws by which a proof follows a sure row whose addresses are noted: what is sure has its words; fill runs; segments on a side.
use Rattle.std.proofs.Common.{Some, None}
use mathlib.Core.Path.{◌≡◌, refl, ap, sym, ◌∙◌}
use mathlib.Core.Bool.{Bool, true, false, ◌&&◌, ◌||◌, not}
use mathlib.Core.List.{List}
use Prim.Native.Nat.{ℕ, ◌+◌, ◌/◌, ◌<◌, ◌≤◌}
use native.Mathlib.Omega.{arith}
use lib.ListN.{length, get_or, set}
use lib.Dec.{ltb, eqb}
use borrow.Author.Tests.{lt-ltb, le-ltb, ltb-true, eqb-true, not-true}
use Rattle.memory.specs.Word.{when◌then◌else◌}
use Rattle.memory.specs.Address.{null}
use Rattle.memory.specs.Reading.{Reading, done, each, fetch, given}
use Rattle.memory.specs.Answers.{is_run}
use Rattle.memory.proofs.ReadBounds.{both}
use Rattle.blocks.specs.declared.FillMode.{FillMode}
use Rattle.blocks.specs.declared.Segment.{Segment}
use Rattle.blocks.specs.declared.SegmentCount.{SegmentCount}
use Rattle.blocks.specs.Answers.{segment_in, segments_past}
use Rattle.blocks.proofs.BlockLaws.{segments-more}
use Rattle.layout.specs.declared.Side.{Side}
use Rattle.layout.specs.Layout.{width, total, none, over, on_side, segments_on}
use Rattle.codes.specs.declared.CodeSettings.{CodeSettings}
use Rattle.codes.specs.declared.AttributeList.{AttributeList}
use Rattle.codes.specs.Attribute.{latches}
use Rattle.codes.specs.Codes.{Drawing, drawing, list_at, taking}
use Rattle.cells.specs.Cells.{code_count, filled, fill_by_word, fill_to}
use Rattle.cells.proofs.SideLaws as side
use Rattle.noting.specs.Noting.{noted, noting}
use Rattle.noting.proofs.NotingLaws.{noting-bind, noting-word, noting-done}
use Rattle.sure.specs.Sure.{standing, stands, sure_list, sure_segment, sure_all, sure_row}

-- the settings of a linear memory, field by field
pub linear-settings : (σ : CodeSettings) → σ.linear ≡ true → σ ≡ record { linear = true; hidden = σ.hidden; flag = σ.flag }
linear-settings σ h = ap (λ (b : Bool). record { linear = b; hidden = σ.hidden; flag = σ.flag }) h

pub not-both : {X : Type 0} {b : Bool} → b ≡ false → b ≡ true → X
not-both f t = let z : ◌≡◌ {A = ℕ} 0 1 = cc in absurd (omega arith)

-- ---- what is sure ----

-- a word that stands is in memory, with bit 15
pub stands_word : (m : List ℕ) (a : ℕ) → stands m a ≡ true → (a / 2 < length m) × (latches (get_or m (a / 2) 0) ≡ true)
stands_word m a h = let k = turn (ltb (a / 2) (length m)) (get_or m (a / 2) 0) h in (ltb-true (a / 2) (length m) k.0, k.1)
  where
    turn : (b : Bool) (v : ℕ) → standing (when b then Some v else None) ≡ true → (b ≡ true) × (latches v ≡ true)
    turn true v h = (refl, h)
    turn false v h = let z : ◌≡◌ {A = ℕ} 0 1 = cc in absurd (omega arith)

module _ (flag : Bool) (m : List ℕ) (g : Segment) (h : sure_segment flag m g ≡ true) where
  -- its codes are there
  pub sure-codes : is_run true (length m) g.codes.address ((code_count g + 1) / 2) ≡ true
  unfolding sure_segment
  sure-codes = (both (is_run true (length m) g.codes.address ((code_count g + 1) / 2)) (null g.attributes || sure_list flag m g) h).0

  in_list : null g.attributes || sure_list flag m g ≡ true
  unfolding sure_segment
  in_list = (both (is_run true (length m) g.codes.address ((code_count g + 1) / 2)) (null g.attributes || sure_list flag m g) h).1

  -- as many words of its list as it has codes are there
  pub sure-words : not (null g.attributes) && not (eqb (code_count g) 0) ≡ true
      → is_run true (length m) g.attributes.address (code_count g) ≡ true
  unfolding sure_list
  sure-words k = turn flag (null g.attributes) (eqb (code_count g) 0) (stands m g.attributes.address) _ in_list k
    where
      turn : (flag off empty st run : Bool) → off || (when flag then empty && st else run) ≡ true → not off && not empty ≡ true → run ≡ true
      turn flag true empty st run h k = let z : ◌≡◌ {A = ℕ} 0 1 = cc in absurd (omega arith)
      turn true false true st run h k = let z : ◌≡◌ {A = ℕ} 0 1 = cc in absurd (omega arith)
      turn true false false st run h k = let z : ◌≡◌ {A = ℕ} 0 1 = cc in absurd (omega arith)
      turn false false empty st run h k = h

  -- the word that its fill run takes stands: no code has taken one
  pub sure-fill : (l : AttributeList) → (not (null g.attributes) && not (eqb (code_count g) 0) ≡ false → l ≡ list_at g.attributes)
      → flag && l.present ≡ true → stands m l.next.address ≡ true
  unfolding sure_list
  sure-fill l same k =
      turn flag (null g.attributes) (eqb (code_count g) 0) (stands m g.attributes.address) _ l.present
      (stands m l.next.address) in_list (λ e. ap (λ (x : AttributeList). x.present) (same e))
      (λ e. ap (λ (x : AttributeList). stands m x.next.address) (same e)) k
    where
      turn : (flag off empty st run present st' : Bool) → off || (when flag then empty && st else run) ≡ true
          → (not off && not empty ≡ false → present ≡ not off) → (not off && not empty ≡ false → st' ≡ st) → flag && present ≡ true
          → st' ≡ true
      turn false off empty st run present st' h p s k = let z : ◌≡◌ {A = ℕ} 0 1 = cc in absurd (omega arith)
      turn true true empty st run present st' h p s k = not-both (p refl) k
      turn true false true st run present st' h p s k = s refl ∙ h
      turn true false false st run present st' h p s k = let z : ◌≡◌ {A = ℕ} 0 1 = cc in absurd (omega arith)

-- a segment of a sure list, and those after it
pub sure-more : (flag : Bool) (m : List ℕ) (l : Bool) (count : SegmentCount) (ws : List ℕ) (i : ℕ) → i < count.number
    → sure_all flag m (segments_past l count ws i) ≡ true
    → (sure_segment flag m (segment_in l count ws i) ≡ true) × (sure_all flag m (segments_past l count ws (i + 1)) ≡ true)
unfolding sure_all
sure-more flag m l count ws i k h = both _ _ (ap (sure_all flag m) (sym (segments-more l count ws i k)) ∙ h)

-- a sure row without a window, and with one
module _ (hidden flag : Bool) (m : List ℕ) (gs : List Segment) where
  pub sure-plain : sure_row hidden flag m none gs ≡ true → (sure_all flag m gs ≡ true) × (flag ≡ true → total hidden gs ≡ 132)
  unfolding sure_row
  sure-plain h =
      let k = both _ _ h in
      (k.0, λ e. eqb-true (total hidden gs) 132 (rw e at k.1))

  pub sure-over : (number first end : ℕ) (ws : List Segment) → sure_row hidden flag m (over number first end ws) gs ≡ true
      → (flag ≡ false) × (sure_all flag m gs ≡ true) × (sure_all flag m ws ≡ true)
  unfolding sure_row
  sure-over number first end ws h =
      let k = both _ _ h in
      let j = both _ _ k.0 in
      (not-true flag j.0, j.1, k.1)

-- ---- fill runs ----
module _ (n : ℕ) (m l : List ℕ) (σ : CodeSettings) (fill : FillMode) (end : ℕ) (d : Drawing) where
  pub fill_none : end ≤ d.pen.column → noting n m l (fill_to σ fill end d) ≡ noted (given n d) l
  unfolding fill_to
  fill_none k = rw (le-ltb d.pen.column end k) (noting-done n m l d)

  pub fill-plain : d.pen.column < end → fill.flag && d.pen.list.present ≡ false
      → noting n m l (fill_to σ fill end d) ≡ noted (given n (filled fill end d)) l
  unfolding fill_to
  fill-plain k h = rw (lt-ltb d.pen.column end k, h) (noting-done n m l (filled fill end d))

  pub fill-word : σ.linear ≡ true → d.pen.column < end → fill.flag && d.pen.list.present ≡ true
      → stands m d.pen.list.next.address ≡ true
      → noting n m l (fill_to σ fill end d)
      ≡ noted (given (n + 1) (filled fill end (drawing (taking true (get_or m (d.pen.list.next.address / 2) 0) d.pen) d.cells)))
      (set l n d.pen.list.next.address)
  unfolding fill_to fill_by_word
  fill-word linear k h s =
      let a = d.pen.list.next.address in
      let w = stands_word m a s in
      let there : fetch m a ≡ Some (get_or m (a / 2) 0) = rw (lt-ltb (a / 2) (length m) w.0) in
      rw (lt-ltb d.pen.column end k, h)
      (noting-word n m l d.pen.list.next _ there ∙ rw (w.1, linear) (noting-done (n + 1) m (set l n a) _))

-- ---- segments on a side ----
module _ (n : ℕ) (m l : List ℕ) (linear hidden : Bool) (on : Side) (count : SegmentCount) (ws : List ℕ) (at i : ℕ) {B : Type 0}
    (f : Segment → B → Reading B) (d : B) where
  -- the segment in turn, drawn where it is on the side, then those after it
  abbrev turn : Segment
  turn = segment_in linear count ws i

  pub side-more : {k : ℕ} {e : B} {l₁ : List ℕ} → i < count.number
      → noting n m l (when on_side on at (width hidden turn) then f turn d else done d) ≡ noted (given k e) l₁
      → noting n m l (each f (segments_on on hidden at (segments_past linear count ws i)) d)
      ≡ noting k m l₁ (each f (segments_on on hidden (at + width hidden turn) (segments_past linear count ws (i + 1))) e)
  side-more h e = ap (noting n m l) (side.each_of n m linear hidden on count ws at i f d h) ∙ noting-bind n m l _ _ e

  -- none is left
  pub side-none : count.number ≤ i
      → noting n m l (each f (segments_on on hidden at (segments_past linear count ws i)) d) ≡ noted (given n d) l
  unfolding each
  side-none h =
      ap (λ (gs : List Segment). noting n m l (each f gs d)) (side.none n m linear hidden on count ws at i h) ∙ noting-done n m l d
