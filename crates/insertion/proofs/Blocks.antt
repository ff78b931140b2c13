-- A row block, read from two pointers to one address: the same but for its link, which its first two words hold.
use mathlib.Core.Path.{◌≡◌}
use mathlib.Core.Bool.{Bool, true, false, ◌&&◌}
use mathlib.Core.List.{List, []}
use Prim.Native.Nat.{ℕ, ◌+◌, ◌*◌, ◌%◌}
use lib.Dec.{eqb}
use Rattle.memory.specs.Word.{when◌then◌else◌, bit}
use Rattle.memory.specs.declared.Pointer.{Pointer}
use Rattle.memory.specs.Word as W
use Rattle.memory.specs.Reading.{◌>>=◌, one_pointer}
use Rattle.memory.specs.Address.{nothing, pointer, next_word, ahead}
use Rattle.blocks.specs.declared.Segment.{Segment}
use Rattle.blocks.specs.RowBlock.{RowBlock, segment_roles, rest_of_block, block_at, row_block_at}
use Rattle.insertion.proofs.Near.{Near, dones, bind, as-near, Opens, open-bind, as-opens, at, words-near, FromThird, from_third, words_open}

-- the same block with two links
pub data BlockAlike (p q : Pointer) : RowBlock → RowBlock → Type 0 where
  blocks : (re : Pointer) (gs : List Segment) → BlockAlike p q (record { link = p; redefinition = re; segments = gs }) (record { link = q; redefinition = re; segments = gs })

module _ (linear : Bool) (a x y : ℕ) where
  rest-alike : (w₁ w₂ v₁ v₂ n : ℕ) (us vs : List ℕ) → FromThird w₁ w₂ v₁ v₂ us vs
      → Near (BlockAlike (pointer linear a w₁ w₂) (pointer linear a v₁ v₂)) (rest_of_block linear (at a x) us n) (rest_of_block linear (at a y) vs n)
  unfolding rest_of_block ◌>>=◌
  rest-alike w₁ w₂ v₁ v₂ n us vs (from_third rest) =
      bind (as-near one_pointer (words-near linear n (ahead linear 3 a) x y)) λ re re' e.
      bind (as-near (segment_roles (W.at rest 0 % 16)) (words-near linear (5 * (W.at rest 0 % 16)) (ahead linear (3 + n) a) x y)) λ gs gs' d.
      rw (← e, ← d) (dones (blocks _ _))

  head-alike : (w₁ w₂ v₁ v₂ : ℕ) (us vs : List ℕ) → FromThird w₁ w₂ v₁ v₂ us vs
      → Near (BlockAlike (pointer linear a w₁ w₂) (pointer linear a v₁ v₂))
      (rest_of_block linear (at a x) us (when true && bit 15 (W.at us 2) then 2 else 0)) (rest_of_block linear (at a y) vs (when true && bit 15 (W.at vs 2) then 2 else 0))
  head-alike w₁ w₂ v₁ v₂ us vs (from_third rest) = rest-alike w₁ w₂ v₁ v₂ _ _ _ (from_third rest)

  pub block-opens : eqb a 0 ≡ false
      → Opens a (next_word linear a) (λ w₁ w₂ v₁ v₂. BlockAlike (pointer linear a w₁ w₂) (pointer linear a v₁ v₂))
      (row_block_at linear (at a x)) (row_block_at linear (at a y))
  unfolding row_block_at block_at
  block-opens e = rw e (open-bind (as-opens (words_open linear 1 a x y)) head-alike)

  pub block_null : eqb a 0 ≡ true → Near (BlockAlike nothing nothing) (row_block_at linear (at a x)) (row_block_at linear (at a y))
  unfolding row_block_at block_at
  block_null e = rw e (dones (blocks nothing []))
