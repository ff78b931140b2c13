-- The three ways through a writer call.
use Rattle.std.proofs.Common.{Ok}
use mathlib.Core.Path.{◌≡◌, refl}
use mathlib.Core.Bool.{Bool, true, false, ◌&&◌}
use mathlib.Core.List.{List}
use Prim.Native.Nat.{ℕ, ◌/◌, ◌%◌, ◌≤◌, ◌<◌}
use lib.ListN.{length, set}
use lib.Dec.{leb}
use borrow.Author.Tests.{eqb-true, leb-true, leb-false, ltb-true, le-leb}
use native.Mathlib.Nat.{le_refl}
use native.Mathlib.Omega.{arith}
use Rattle.memory.specs.Word.{when◌then◌else◌}
use Rattle.memory.proofs.ReadBounds.{both}
use Rattle.writer.specs.declared.Span.{Span}
use Rattle.writer.specs.Writer.{inside, share, may_write, wrote, refused_with, write_word}

module _ (m : List ℕ) (own other : Span) (a w : ℕ) where
  pub write-shared : share own other ≡ true → write_word m own other a w ≡ wrote (refused_with 16) m
  unfolding write_word
  write-shared e = rw e

  pub write-outside : share own other ≡ false → may_write own a (length m) ≡ false → write_word m own other a w ≡ wrote (refused_with 15) m
  unfolding write_word
  write-outside e h = rw (e, h)

  pub write-inside : share own other ≡ false → may_write own a (length m) ≡ true → write_word m own other a w ≡ wrote (Ok tt) (set m (a / 2) w)
  unfolding write_word
  write-inside e h = rw (e, h)

-- what an address has that may be written
pub record Inside (own : Span) (a n : ℕ) : Type 0 where
  pub even : a % 2 ≡ 0
  pub inside : inside own a ≡ true
  pub within : a / 2 < n

pub may-inside : (own : Span) (a n : ℕ) → may_write own a n ≡ true → Inside own a n
may-inside own a n h =
    let x = both _ _ h in
    let y = both _ _ x.0 in
    record { even = eqb-true _ _ y.0; inside = y.1; within = ltb-true _ _ x.1 }

-- nothing but the one word changes, and a refusal changes nothing
module _ (m : List ℕ) (own other : Span) (a w : ℕ) where
  abbrev after : List ℕ
  after = (write_word m own other a w).memory

  -- memory is as it was, or its word a/2 is the new one, and a is the writer's
  pub data Changed : List ℕ → Type 0 where
    same : Changed m
    word : Inside own a (length m) → Changed (set m (a / 2) w)

  pub changed : Changed after
  unfolding write_word
  changed = by-share (share own other)
    where
      by-write : (t : Bool) → may_write own a (length m) ≡ t
          → Changed (when t then wrote (Ok tt) (set m (a / 2) w) else wrote (refused_with 15) m).memory
      by-write true e = word (may-inside own a (length m) e)
      by-write false e = same

      by-share : (t : Bool)
          → Changed (when t then wrote (refused_with 16) m else when may_write own a (length m) then wrote (Ok tt) (set m (a / 2) w) else wrote (refused_with 15) m).memory
      by-share true = same
      by-share false = by-write (may_write own a (length m)) refl

-- ---- spans ----

both_hold : {a b : Bool} → a ≡ true → b ≡ true → a && b ≡ true
both_hold h k = rw (h, k)

-- spans that share an address are those with an address in both
module _ (s t : Span) where
  pub in_both : (a : ℕ) → inside s a ≡ true → inside t a ≡ true → share s t ≡ true
  in_both a h k =
      let x = both _ _ h in
      let y = both _ _ k in
      let x₀ = leb-true s.first a x.0 in
      let x₁ = leb-true a s.last x.1 in
      let y₀ = leb-true t.first a y.0 in
      let y₁ = leb-true a t.last y.1 in
      both_hold
      (both_hold (both_hold (le-leb s.first s.last (omega arith)) (le-leb s.first t.last (omega arith)))
      (le-leb t.first s.last (omega arith)))
      (le-leb t.first t.last (omega arith))

  -- the larger of the first addresses
  pub larger : ℕ
  larger = when leb s.first t.first then t.first else s.first

  pub share-both : share s t ≡ true → (inside s larger ≡ true) × (inside t larger ≡ true)
  unfolding larger
  share-both h =
      let x = both _ _ h in
      let y = both _ _ x.0 in
      let z = both _ _ y.0 in
      let a = leb-true _ _ z.0 in
      let b = leb-true _ _ z.1 in
      let c = leb-true _ _ y.1 in
      let d = leb-true _ _ x.1 in
      by_order (leb s.first t.first) refl a b c d
    where
      by_order : (u : Bool) → leb s.first t.first ≡ u → s.first ≤ s.last → s.first ≤ t.last → t.first ≤ s.last → t.first ≤ t.last
          → (inside s (when u then t.first else s.first) ≡ true) × (inside t (when u then t.first else s.first) ≡ true)
      by_order true e a b c d =
          let l = leb-true s.first t.first e in
          (both_hold (le-leb _ _ l) (le-leb _ _ c), both_hold (le-leb _ _ (le_refl t.first)) (le-leb _ _ d))
      by_order false e a b c d =
          let l = leb-false s.first t.first e in
          (both_hold (le-leb _ _ (le_refl s.first)) (le-leb _ _ a), both_hold (le-leb t.first s.first (omega arith)) (le-leb _ _ b))
