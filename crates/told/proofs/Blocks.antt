-- Blocks and windows that are read through pointers that stand give pointers that stand, and ask for no word but through these.
use Rattle.std.proofs.Common.{Option, Some, None}
use mathlib.Core.Path.{refl}
use mathlib.Core.Bool.{Bool, true, false, ◌&&◌}
use mathlib.Core.List.{List}
use Prim.Native.Nat.{ℕ, zero, suc, ◌*◌, ◌%◌}
use native.Mathlib.Omega.{arith}
use lib.ListN.{drop}
use lib.Dec.{ltb, leb, lit<}
use Rattle.memory.specs.declared.Pointer.{Pointer}
use Rattle.memory.specs.Word.{when◌then◌else◌, bit, at}
use Rattle.memory.specs.Reading.{Reading, ◌>>=◌, read_as, one_pointer}
use Rattle.memory.specs.Address.{nothing, null, ahead, further, words}
use Rattle.settings.specs.declared.Settings.{Settings}
use Rattle.blocks.specs.declared.RowFormat.{RowFormat}
use Rattle.blocks.specs.declared.Segment.{Segment}
use Rattle.blocks.specs.Main.{main_block, main_block_at}
use Rattle.blocks.specs.RowBlock.{RowBlock, segment_of, segments_at, segment_roles, segments_from, rest_of_block, block_at, redefined}
use Rattle.windows.specs.Window.{window_of, two_pointers, in_order, window_at, due_window}
use Rattle.windows.specs.declared.Window.{Window}
use Rattle.told.specs.Told.{Reached}
use Rattle.holding.proofs.Holds.{Each, dones, bind, as-holds, check-then, if-holds}
use Rattle.told.proofs.Tells.{Tells}
use Rattle.told.proofs.Pointers.{no_words, Stands, null-stands, first, Copied, Passed, words-tell, copied-drop, pointer-stands}

module _ (σ : Settings) (m : List ℕ) where
  -- a reading whose asks are all reached, with what holds of its result
  abbrev pub Says : {A : Type 0} → (A → Type 0) → Reading A → Type 0
  Says P p = Tells m (Reached σ m) P p

  -- the two pointers of a segment
  abbrev pub Pointed : Segment → Type 0
  Pointed g = Stands σ m g.codes × Stands σ m g.attributes

  segments-stand : (a n : ℕ) (ws : List ℕ) → Copied σ m a (5 * n) ws → Each Pointed (segments_at σ.linear a n ws)
  unfolding segments_at segment_of ahead
  segments-stand a zero ws c = tt
  segments-stand a (suc n) ws c = (
    (pointer-stands σ m a 0 (5 * suc n) ws c (omega arith), pointer-stands σ m a 2 (5 * suc n) ws c (omega arith)),
    segments-stand (ahead σ.linear 5 a) n (drop 5 ws) (copied-drop σ m a 5 (5 * n) ws λ i l. c i (omega arith)),
  )

  -- a row block or a window row block
  pub record Linked (b : RowBlock) : Type 0 where
    pub link : Stands σ m b.link
    pub redefinition : Stands σ m b.redefinition
    pub segments : Each Pointed b.segments

  segments-tell : (p : Pointer) (head : List ℕ) (redefinition : Pointer) (k : ℕ) → Copied σ m p.address 3 head
      → Reached σ m (further σ.linear k p) → Stands σ m redefinition → Says Linked (segments_from σ.linear p head redefinition k)
  unfolding ahead
  segments-tell p head redefinition k c r s =
      bind (as-holds (λ _ _ h. h) (λ _ _ _ h. h) (segment_roles (at head 2 % 16)) (words-tell σ m (5 * (at head 2 % 16)) (further σ.linear k p) r)) λ gs d.
      dones
      (record {
        link = pointer-stands σ m p.address 0 3 head c (lit< tt);
        redefinition = s;
        segments = segments-stand (ahead σ.linear k p.address) (at head 2 % 16) gs d.copied;
      })

  rest-tells : (p : Pointer) (head : List ℕ) (b : Bool) → Passed σ m p 3 head → Says Linked (rest_of_block σ.linear p head (when b then 2 else 0))
  unfolding rest_of_block words read_as ◌>>=◌ ahead
  rest-tells p head true h =
      bind (as-holds (λ _ _ h. h) (λ _ _ _ h. h) one_pointer (words-tell σ m 2 (further σ.linear 3 p) h.after)) λ re d.
      segments-tell p head _ 5 h.copied d.after (pointer-stands σ m (ahead σ.linear 3 p.address) 0 2 re d.copied (lit< tt))
  rest-tells p head false h =
      segments-tell p head _ 3 h.copied h.after (null-stands σ m _ (no_words σ.linear (ahead σ.linear 3 p.address)))

  pub block-tells : (redefines : Bool) (p : Pointer) → Stands σ m p → Says Linked (block_at σ.linear redefines p)
  unfolding block_at
  block-tells redefines p s =
      if-holds (null p)
      (λ _. dones (record { link = null-stands σ m nothing refl; redefinition = null-stands σ m nothing refl; segments = tt }))
      λ e.
      bind (as-holds (λ _ _ h. h) (λ _ _ _ h. h) one_pointer (words-tell σ m 3 p (first σ m p s e))) λ head h. rest-tells p head (redefines && bit 15 (at head 2)) h

  pub redefined-tells : (p : Pointer) (t : RowFormat) → Stands σ m p → Says (λ _. Unit) (redefined σ.linear p t)
  unfolding redefined
  redefined-tells p t s = if-holds (null p) (λ _. dones tt) λ e. bind (words-tell σ m 3 p (first σ m p s e)) λ b _. dones tt

  -- a main block
  pub main-tells : (p : Pointer) → Reached σ m p → Says (λ b. Stands σ m b.rows) (main_block_at σ.linear p)
  unfolding main_block_at main_block ahead
  main-tells p r = bind (as-holds (λ _ _ h. h) (λ _ _ _ h. h) one_pointer (words-tell σ m 7 p r)) λ b c. dones (pointer-stands σ m p.address 0 7 b c.copied (lit< tt))

  -- a window in hand
  abbrev pub WindowStands : Option Window → Type 0
  WindowStands None = Unit
  WindowStands (Some w) = Stands σ m w.block.link × Stands σ m w.rows

  pub window-tells : (number least : ℕ) (p : Pointer) → Stands σ m p → Says WindowStands (window_at σ.linear number least p)
  unfolding window_at window_of ahead
  window-tells number least p s =
      if-holds (null p) (λ _. dones tt) λ e.
      bind (as-holds (λ _ _ h. h) (λ _ _ _ h. h) two_pointers (words-tell σ m 6 p (first σ m p s e))) λ b c.
      let w = (window_of σ.linear number p.address b).block in
      check-then 8 p (in_order w && leb least w.top) (λ _. refl) λ _ _.
      dones (pointer-stands σ m p.address 0 6 b c.copied (lit< tt), pointer-stands σ m p.address 2 6 b c.copied (lit< tt))

  pub due-tells : (row : ℕ) (w : Option Window) → WindowStands w → Says WindowStands (due_window σ.linear row w)
  unfolding due_window
  due-tells row None s = dones tt
  due-tells row (Some w) s = if-holds (ltb w.block.bottom row) (λ _. window-tells _ _ w.block.link s.0) λ _. dones s
