-- The blocks that a row is drawn from: the pointers in them stand, and a refusal blames one that stands.
use Rattle.std.proofs.Common.{Option, Some, None}
use mathlib.Core.Path.{◌≡◌, refl, sym, ◌∙◌}
use mathlib.Core.Bool.{Bool, true, false, ◌&&◌}
use mathlib.Core.List.{List, []}
use Prim.Native.Nat.{ℕ, zero, suc, ◌+◌, ◌*◌, ◌%◌, ◌≤◌}
use native.Mathlib.Omega.{arith}
use lib.ListN.{drop}
use lib.Dec.{leb, lit<}
use borrow.Author.Tests.{leb-true, le-leb}
use Rattle.memory.specs.declared.Fault.{Fault}
use Rattle.memory.specs.declared.Pointer.{Pointer}
use Rattle.memory.specs.Word.{when◌then◌else◌, bit, high, at}
use Rattle.memory.specs.Reading.{read_as, one_pointer, ◌>>=◌, blaming}
use Rattle.memory.specs.Address.{null, is_address, ahead, further, words}
use Rattle.memory.proofs.ReadBounds.{Words, both}
use Rattle.blocks.specs.declared.Segment.{Segment}
use Rattle.blocks.specs.declared.RowFormat.{RowFormat}
use Rattle.blocks.specs.RowBlock.{segment_roles, RowBlock, segment_of, segments_at, segments_from, rest_of_block, block_at, format_of, redefined}
use Rattle.windows.specs.declared.Window.{Window}
use Rattle.windows.specs.Window.{two_pointers, in_order, window_of, window_at}
use Rattle.state.specs.State.{format_in_range}
use Rattle.holding.proofs.Holds.{Each}
use Rattle.blame.proofs.Comes.{as-comes, Comes, dones, bind, check-then, if-comes}
use Rattle.blame.proofs.Standing.{Stands, address, stands, null-stands, nothing-stands, From, words-come, later, ahead-address}

module _ (m : List ℕ) (b : Words m) (linear : Bool) where
  abbrev pub SegmentStands : Segment → Type 0
  SegmentStands g = Stands m b linear g.codes × Stands m b linear g.attributes

  abbrev pub SegmentsStand : List Segment → Type 0
  SegmentsStand gs = Each SegmentStands gs

  segments-stand : (n a : ℕ) (ws : List ℕ) → is_address a ≡ true → From m b linear (5 * n) a ws → SegmentsStand (segments_at linear a n ws)
  unfolding segments_at segment_of ahead
  segments-stand zero a ws h e = tt
  segments-stand (suc n) a ws h e = (
    (
      stands m b linear a _ _ h (e 0 (omega arith)) (e 1 (omega arith)),
      stands m b linear (ahead linear 2 a) _ _ (ahead-address m b linear 2 a h) (e 2 (omega arith)) (e 3 (omega arith)),
    ),
    segments-stand n (ahead linear 5 a) (drop 5 ws) (ahead-address m b linear 5 a h) (later m b linear (5 * n) a ws λ i l. e i (omega arith)),
  )

  pub record BlockStands (p : Pointer) (k : RowBlock) : Type 0 where
    pub link : Stands m b linear k.link
    pub redefinition : Stands m b linear k.redefinition
    pub segments : SegmentsStand k.segments
    pub none : null p ≡ true → k.segments ≡ []

  -- a window in hand: in order, its number at most its first row, and its pointers stand; `R` where there is one
  pub record WindowStands (w : Window) : Type 0 where
    pub ordered : in_order w.block ≡ true
    pub numbered : w.block.number ≤ w.block.top
    pub rows : Stands m b linear w.rows
    pub link : Stands m b linear w.block.link

  abbrev pub HandStands : Type 0 → Option Window → Type 0
  HandStands R None = Unit
  HandStands R (Some w) = WindowStands w × R

  module _ (Q : Fault → Type 0) where
    -- a missing word blames the pointer in use
    abbrev pub Blames : Pointer → Type 0
    Blames p = (a : ℕ) → Q (record { number = 7; address = a; from = p.from })

    module _ (p : Pointer) (s : Stands m b linear p) (n : null p ≡ false) (q : Blames p) where
      from-stand : (head : List ℕ) → From m b linear 3 p.address head → (r : Pointer) → Stands m b linear r → (k : ℕ)
          → Comes m Q (BlockStands p) (segments_from linear p head r k)
      unfolding ahead
      from-stand head e r h k =
          bind m Q (as-comes m Q (segment_roles (at head 2 % 16)) (words-come m b linear Q (5 * (at head 2 % 16)) (further linear k p) q)) λ gs g.
          dones
          (record {
            link = stands m b linear p.address _ _ (address m b linear p s) (e 0 (lit< tt)) (e 1 (lit< tt));
            redefinition = h;
            segments = segments-stand (at head 2 % 16) _ gs (ahead-address m b linear k p.address (address m b linear p s)) g;
            none = λ t. let z : true ≡ false = sym t ∙ n in let o : ◌≡◌ {A = ℕ} 0 1 = cc in absurd (omega arith);
          })

      -- a redefinition pointer follows, or none does
      rest-stands : (redefines : Bool) (head : List ℕ) → From m b linear 3 p.address head
          → Comes m Q (BlockStands p) (rest_of_block linear p head (when redefines then 2 else 0))
      unfolding rest_of_block ahead words read_as ◌>>=◌
      rest-stands true head e =
          bind m Q (as-comes m Q one_pointer (words-come m b linear Q 2 (further linear 3 p) q)) λ re r.
          from-stand head e _
          (stands m b linear (ahead linear 3 p.address) _ _ (ahead-address m b linear 3 p.address (address m b linear p s)) (r 0 (lit< tt)) (r 1 (lit< tt))) 5
      rest-stands false head e = from-stand head e _ (null-stands m b linear (ahead linear 3 p.address)) 3

    pub block-stands : (redefines : Bool) (p : Pointer) → Stands m b linear p → (null p ≡ false → Blames p)
        → Comes m Q (BlockStands p) (block_at linear redefines p)
    unfolding block_at
    block-stands redefines p s q =
        if-comes m Q (null p)
        (λ _. dones (record { link = nothing-stands m b linear; redefinition = nothing-stands m b linear; segments = tt; none = λ _. refl }))
        (λ n. bind m Q (as-comes m Q one_pointer (words-come m b linear Q 3 p (q n))) λ head e. rest-stands p s n (q n) (redefines && bit 15 (at head 2)) head e)

    -- a redefinition's format is in range
    pub format-stands : (p : Pointer) (t : RowFormat) → (null p ≡ false → Blames p) → format_in_range t ≡ true
        → Comes m Q (λ f. format_in_range f ≡ true) (redefined linear p t)
    unfolding redefined format_of
    format-stands p t q h =
        if-comes m Q (null p) (λ _. dones h) λ n.
        bind m Q (words-come m b linear Q 3 p (q n)) λ ws e.
        dones
        (let lines = at ws 1 % 32 in
        rw (le-leb 1 (lines + 1) (omega arith), le-leb (lines + 1) 32 (omega arith), le-leb (high (at ws 2) % 32) 31 (omega arith), le-leb (at ws 2 % 32) 31 (omega arith), le-leb (at ws 0 % 1024) 1023 (omega arith)))

    pub window-stands : (R : Type 0) (number least : ℕ) (p : Pointer) → number ≤ least → is_address p.address ≡ true
        → (null p ≡ false → Blames p × Q (blaming 8 p) × R)
        → Comes m Q (HandStands R) (window_at linear number least p)
    unfolding window_at window_of ahead
    window-stands R number least p l h q =
        if-comes m Q (null p) (λ _. dones tt) λ n.
        bind m Q (as-comes m Q two_pointers (words-come m b linear Q 6 p (q n).0)) λ ws e.
        let w = window_of linear number p.address ws in
        check-then m Q 8 p (in_order w.block && leb least w.block.top) (λ _. (q n).1) λ _ t.
        let k = both (in_order w.block) (leb least w.block.top) t in
        dones (
          record {
            ordered = k.0;
            numbered = omega (arith, l, leb-true least w.block.top k.1);
            rows = stands m b linear (ahead linear 2 p.address) _ _ (ahead-address m b linear 2 p.address h) (e 2 (lit< tt)) (e 3 (lit< tt));
            link = stands m b linear p.address _ _ h (e 0 (lit< tt)) (e 1 (lit< tt));
          },
          (q n).2,
        )
