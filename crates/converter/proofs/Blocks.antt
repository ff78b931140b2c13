-- Blocks and windows of a segmented list and of its linear one are the same, and have pointers that stand.
use Rattle.std.proofs.Common.{Option, Some, None}
use mathlib.Core.Path.{◌≡◌, refl, ap, ap₂, sym, ◌∙◌}
use mathlib.Core.Bool.{Bool, true, false, ◌&&◌}
use mathlib.Core.List.{List, [], ◌∷◌}
use Prim.Native.Nat.{ℕ, zero, suc, ◌+◌, ◌*◌, ◌%◌, ◌<◌}
use native.Mathlib.Omega.{arith}
use lib.ListN.{get_or, drop}
use lib.Dec.{ltb, leb, lit<}
use Rattle.memory.specs.declared.Pointer.{Pointer}
use Rattle.memory.specs.Word.{when◌then◌else◌, bit, at}
use Rattle.memory.specs.Reading.{Role, First, Second, Other, Reading, ◌>>=◌, read_as, one_pointer}
use Rattle.memory.specs.Address.{nothing, pointer, null, ahead, further, words}
use Rattle.memory.proofs.ReadBounds.{Words}
use Rattle.blocks.specs.declared.RowFormat.{RowFormat}
use Rattle.blocks.specs.declared.Segment.{Segment}
use Rattle.blocks.specs.Main.{main_block, main_block_at}
use Rattle.blocks.specs.RowBlock.{RowBlock, segment_of, segments_at, segment_roles, segments_from, rest_of_block, block_at, format_of, redefined}
use Rattle.windows.specs.Window.{window_of, two_pointers, in_order, window_at, due_window}
use Rattle.windows.specs.declared.Window.{Window}
use Rattle.told.proofs.Tells.{apart}
use Rattle.holding.proofs.Holds.{Each}
use Rattle.converter.proofs.Alike.{Same, Alike, dones, bind, check-of-then, if-alike}
use Rattle.converter.proofs.Pointers.{Stands, Near, first-stood, Read, Copied, copied-drop, pointer-same, pointer-stands, Passed, words-alike}

no_pointer : (l : Bool) (a : ℕ) → pointer l a 0 0 ≡ nothing
unfolding pointer
no_pointer true a = refl
no_pointer false a = refl

module _ (m : List ℕ) (b : Words m) where
  null-stands : (p : Pointer) → null p ≡ true → Stands m b p
  null-stands p e h = apart (sym e ∙ h)

  -- a word that is no pointer's is the same
  plain_word : {a c : ℕ} {rs : List Role} {ws vs : List ℕ} {i : ℕ} → get_or rs i Other ≡ Other → Read m b a c rs ws vs i → at ws i ≡ at vs i
  plain_word e r = sym (r.turns ∙ rw e)

  -- the two pointers of a segment
  abbrev pub Pointed : Segment → Type 0
  Pointed g = Stands m b g.codes × Stands m b g.attributes

  segment-same : (a c : ℕ) (rs : List Role) (ws vs : List ℕ) → (k : ℕ) → Copied m b a c (First ∷ Second ∷ First ∷ Second ∷ Other ∷ rs) (5 + k) ws vs
      → segment_of false a ws ≡ segment_of true c vs
  unfolding segment_of ahead
  segment-same a c rs ws vs k h =
      let roles = First ∷ Second ∷ First ∷ Second ∷ Other ∷ rs in
      rw (pointer-same m b a c roles (5 + k) ws vs h 0 (omega arith) refl refl, pointer-same m b a c roles (5 + k) ws vs h 2 (omega arith) refl refl, plain_word {rs = roles} refl (h 4 (omega arith)))

  segments-same : (n a c : ℕ) (ws vs : List ℕ) → Copied m b a c (segment_roles n) (5 * n) ws vs → segments_at false a n ws ≡ segments_at true c n vs
  unfolding segments_at segment_roles
  segments-same zero a c ws vs h = refl
  segments-same (suc n) a c ws vs h =
      let roles = segment_roles (suc n) in
      let all : Copied m b a c roles (5 + 5 * n) ws vs = λ i l. h i (omega arith) in
      ap₂ ◌∷◌ (segment-same a c (segment_roles n) ws vs (5 * n) all)
      (segments-same n (ahead false 5 a) (ahead true 5 c) (drop 5 ws) (drop 5 vs) (copied-drop m b 5 a c roles (5 * n) ws vs all))

  segments-stand : (n a c : ℕ) (ws vs : List ℕ) → Copied m b a c (segment_roles n) (5 * n) ws vs → Each Pointed (segments_at false a n ws)
  unfolding segments_at segment_of segment_roles ahead
  segments-stand zero a c ws vs h = tt
  segments-stand (suc n) a c ws vs h =
      let roles = segment_roles (suc n) in
      let all : Copied m b a c roles (5 + 5 * n) ws vs = λ i l. h i (omega arith) in (
        (pointer-stands m b a c roles (5 + 5 * n) ws vs all 0 (omega arith) refl refl, pointer-stands m b a c roles (5 + 5 * n) ws vs all 2 (omega arith) refl refl),
        segments-stand n (ahead false 5 a) (ahead true 5 c) (drop 5 ws) (drop 5 vs) (copied-drop m b 5 a c roles (5 * n) ws vs all),
      )

  -- a row block or a window row block
  pub record Linked (x : RowBlock) : Type 0 where
    pub link : Stands m b x.link
    pub redefinition : Stands m b x.redefinition
    pub segments : Each Pointed x.segments

  -- a window in hand
  abbrev pub WindowStands : Option Window → Type 0
  WindowStands None = Unit
  WindowStands (Some w) = Stands m b w.block.link × Stands m b w.rows

  module _ (held : ℕ) where
    -- a reading that gives the same on both sides
    abbrev pub Gives : {A : Type 0} → (A → Type 0) → ℕ → Reading A → Reading A → Type 0
    Gives P c p q = Alike held m (Same P) c p q

    -- the block that its head, its redefinition pointer and the words of its segments make
    abbrev block_of : (linear : Bool) (a k : ℕ) (head : List ℕ) (re : Pointer) (n : ℕ) (gs : List ℕ) → RowBlock
    block_of linear a k head re n gs = record {
      link = pointer linear a (at head 0) (at head 1);
      redefinition = re;
      segments = segments_at linear (ahead linear k a) n gs;
    }

    block_same : (a c k : ℕ) (ws vs : List ℕ) (re : Pointer) (n : ℕ) (gs hs : List ℕ) → Copied m b a c one_pointer 3 ws vs
        → Copied m b (ahead false k a) (ahead true k c) (segment_roles n) (5 * n) gs hs → block_of false a k ws re n gs ≡ block_of true c k vs re n hs
    unfolding ahead
    block_same a c k ws vs re n gs hs h g =
        rw (pointer-same m b a c one_pointer 3 ws vs h 0 (lit< tt) refl refl, segments-same n (ahead false k a) (ahead true k c) gs hs g)

    -- the rest of a block from word k on: its head, and what comes of the redefinition pointer, are the same
    segments-alike : (c : ℕ) (p q : Pointer) (ws vs : List ℕ) (re se : Pointer) (k : ℕ) → Copied m b p.address q.address one_pointer 3 ws vs
        → Near m b held c (further false k p) (further true k q) → re ≡ se → Stands m b re
        → Gives Linked c (segments_from false p ws re k) (segments_from true q vs se k)
    unfolding ahead
    segments-alike c p q ws vs re se k h n e s =
        let count : at ws 2 ≡ at vs 2 = plain_word {rs = one_pointer} refl (h 2 (lit< tt)) in
        rw (← count, ← e)
        (bind held m (words-alike m b held (segment_roles (at ws 2 % 16)) (5 * (at ws 2 % 16)) c (further false k p) (further true k q) n) λ i gs hs _ x.
        dones
        (record {
          equal = block_same p.address q.address k ws vs re (at ws 2 % 16) gs hs h x.copied;
          holds = record {
            link = pointer-stands m b p.address q.address one_pointer 3 ws vs h 0 (lit< tt) refl refl;
            redefinition = s;
            segments = segments-stand (at ws 2 % 16) (ahead false k p.address) (ahead true k q.address) gs hs x.copied;
          };
        }))

    rest-alike : (c : ℕ) (p : Pointer) (ws vs : List ℕ) (t : Bool) → Passed m b held one_pointer 3 p p c ws vs
        → Gives Linked c (rest_of_block false p ws (when t then 2 else 0)) (rest_of_block true p vs (when t then 2 else 0))
    unfolding rest_of_block words read_as ◌>>=◌ ahead
    rest-alike c p ws vs true h =
        bind held m (words-alike m b held one_pointer 2 c (further false 3 p) (further true 3 p) h.after) λ n re se _ x.
        let a = ahead false 3 p.address in
        let d = ahead true 3 p.address in
        segments-alike n p p ws vs _ _ 5 h.copied x.after
        (pointer-same m b a d one_pointer 2 re se x.copied 0 (lit< tt) refl refl)
        (pointer-stands m b a d one_pointer 2 re se x.copied 0 (lit< tt) refl refl)
    rest-alike c p ws vs false h =
        let a = ahead false 3 p.address in
        segments-alike c p p ws vs _ _ 3 h.copied h.after (no_pointer false a ∙ sym (no_pointer true (ahead true 3 p.address)))
        (null-stands (pointer false a 0 0) (ap null (no_pointer false a)))

    pub block-alike : (c : ℕ) (redefines : Bool) (p : Pointer) → Stands m b p → Gives Linked c (block_at false redefines p) (block_at true redefines p)
    unfolding block_at
    block-alike c redefines p s =
        if-alike held m (null p)
        (λ _. dones (record {
          equal = refl;
          holds = record { link = null-stands nothing refl; redefinition = null-stands nothing refl; segments = tt };
        }))
        λ e.
        bind held m (words-alike m b held one_pointer 3 c p p (first-stood m b held c p s e)) λ n ws vs _ x.
        rw (← plain_word {rs = one_pointer} {ws = ws} {vs = vs} refl (x.copied 2 (lit< tt)))
        (rest-alike n p ws vs (redefines && bit 15 (at ws 2)) x)

    format-same : (a c : ℕ) (ws vs : List ℕ) → Copied m b a c [] 3 ws vs → format_of ws ≡ format_of vs
    unfolding format_of
    format-same a c ws vs h =
        rw (plain_word {rs = []} {ws = ws} {vs = vs} refl (h 0 (lit< tt)), plain_word {rs = []} {ws = ws} {vs = vs} refl (h 1 (lit< tt)), plain_word {rs = []} {ws = ws} {vs = vs} refl (h 2 (lit< tt)))

    pub redefined-alike : (c : ℕ) (p : Pointer) (t : RowFormat) → Stands m b p → Gives (λ _. Unit) c (redefined false p t) (redefined true p t)
    unfolding redefined read_as
    redefined-alike c p t s =
        if-alike held m (null p) (λ _. dones (record { equal = refl; holds = tt })) λ e.
        bind held m (words-alike m b held [] 3 c p p (first-stood m b held c p s e)) λ n ws vs _ x.
        dones (record { equal = format-same p.address p.address ws vs x.copied; holds = tt })

    main-same : (a c : ℕ) (ws vs : List ℕ) → Copied m b a c one_pointer 7 ws vs → main_block false a ws ≡ main_block true c vs
    unfolding main_block ahead
    main-same a c ws vs h =
        rw (pointer-same m b a c one_pointer 7 ws vs h 0 (lit< tt) refl refl, word 2 (lit< tt) refl, word 3 (lit< tt) refl, word 4 (lit< tt) refl, word 6 (lit< tt) refl)
      where
        word : (i : ℕ) → i < 7 → get_or one_pointer i Other ≡ Other → at ws i ≡ at vs i
        word i l e = plain_word {rs = one_pointer} {ws = ws} {vs = vs} e (h i l)

    -- a main block, by TOP
    pub main-alike : (c : ℕ) (p : Pointer) → Near m b held c p p → Gives (λ x. Stands m b x.rows) c (main_block_at false p) (main_block_at true p)
    unfolding main_block_at main_block ahead
    main-alike c p h =
        bind held m (words-alike m b held one_pointer 7 c p p h) λ n ws vs _ x.
        dones
        (record {
          equal = main-same p.address p.address ws vs x.copied;
          holds = pointer-stands m b p.address p.address one_pointer 7 ws vs x.copied 0 (lit< tt) refl refl;
        })

    -- a window block
    window_same : (number a : ℕ) (ws vs : List ℕ) → Copied m b a a two_pointers 6 ws vs → window_of false number a ws ≡ window_of true number a vs
    unfolding window_of ahead
    window_same number a ws vs h =
        rw (pointer-same m b a a two_pointers 6 ws vs h 0 (lit< tt) refl refl, pointer-same m b a a two_pointers 6 ws vs h 2 (lit< tt) refl refl, plain_word {rs = two_pointers} {ws = ws} {vs = vs} refl (h 4 (lit< tt)), plain_word {rs = two_pointers} {ws = ws} {vs = vs} refl (h 5 (lit< tt)))

    window-stands : (number a : ℕ) (ws vs : List ℕ) → Copied m b a a two_pointers 6 ws vs → WindowStands (Some (window_of false number a ws))
    unfolding window_of ahead
    window-stands number a ws vs h =
        (pointer-stands m b a a two_pointers 6 ws vs h 0 (lit< tt) refl refl, pointer-stands m b a a two_pointers 6 ws vs h 2 (lit< tt) refl refl)

    pub window-alike : (c number least : ℕ) (p : Pointer) → (null p ≡ false → Near m b held c p p)
        → Gives WindowStands c (window_at false number least p) (window_at true number least p)
    unfolding window_at
    window-alike c number least p h =
        if-alike held m (null p) (λ _. dones (record { equal = refl; holds = tt })) λ e.
        bind held m (words-alike m b held two_pointers 6 c p p (h e)) λ n ws vs _ x.
        rw (← window_same number p.address ws vs x.copied)
        (let w = window_of false number p.address ws in
        check-of-then held m 8 p (in_order w.block && leb least w.block.top) λ _ _.
        dones (record { equal = refl; holds = window-stands number p.address ws vs x.copied }))

    pub due-alike : (c row : ℕ) (w : Option Window) → WindowStands w → Gives WindowStands c (due_window false row w) (due_window true row w)
    unfolding due_window
    due-alike c row None s = dones (record { equal = refl; holds = tt })
    due-alike c row (Some w) s =
        if-alike held m (ltb w.block.bottom row) (λ _. window-alike c _ _ w.block.link (first-stood m b held c w.block.link s.0))
        λ _. dones (record { equal = refl; holds = s })
