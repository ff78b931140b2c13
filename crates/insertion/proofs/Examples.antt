-- Lines inserted in a screen, through the theorem: below B one that keeps the latch and one that sets it; as the first row, by M0,M1; and below D, whose
-- link is null. The screens, and that they meet the hypotheses, are computed.
use mathlib.Core.Path.{◌≡◌}
use mathlib.Core.Option.{some}
use native.Mathlib.Omega.{arith}
use lib.ListN.{get_elem?}
use Rattle.state.specs.declared.State.{State}
use Rattle.frame.specs.Frame.{FrameRow}
use Rattle.joining.specs.Join.{empty}
use Rattle.effect.specs.Effect.{effect_call}
use Rattle.insertion.specs.Followed.{states}
use Rattle.insertion.specs.Insertion.{place_of, Inserted}
use Rattle.insertion.proofs.Tested.{passes-insert}
use Rattle.insertion.proofs.Inserted.{inserts-a-line}
use Rattle.insertion.proofs.Computed.{free, plain, old, kept, set, topmost, taller, lowest, rows_of, effect_at, computed}

pub below-b : Inserted 0 plain 0x30 (old free) (kept free)
below-b = inserts-a-line 0 plain 0x30 (old free) (kept free) (passes-insert 0 plain 0x30 (old free) (kept free) computed.1)

pub below-b-set : Inserted 0 plain 0x30 (old free) set
below-b-set = inserts-a-line 0 plain 0x30 (old free) set (passes-insert 0 plain 0x30 (old free) set computed.2)

pub at_top : Inserted 0xA000 plain 0x10 (old free) topmost
at_top = inserts-a-line 0xA000 plain 0x10 (old free) topmost (passes-insert 0xA000 plain 0x10 (old free) topmost computed.3)

pub below-d : Inserted 0 taller 0x50 (old free) lowest
below-d = inserts-a-line 0 taller 0x50 (old free) lowest (passes-insert 0 taller 0x50 (old free) lowest computed.4)

-- the new row keeps the latch: C, now row 3, has the cells of row 2
pub moved-c : (q r : FrameRow) → get_elem? (rows_of plain (old free)) 2 ≡ some q → get_elem? (rows_of plain (kept free)) 3 ≡ some r → r.cells ≡ q.cells
unfolding effect_at
moved-c q r d e = below-b.kept keeps 2 q r (omega (arith, computed.5)) d e
  where
    keeps : (s : State) → get_elem? (states 0 plain (kept free)) (place_of 0 plain 0x30 (old free)) ≡ some s
        → (effect_call plain (kept free) s.fields).effect ≡ empty
    keeps s f = let k : some (effect_call plain (kept free) s.fields).effect ≡ some empty = rw f at computed.6 in cc
