-- A row of a frame: its state is in range, the pointers in it stand, and a refusal blames one that stands. So the next state's do.
use Rattle.std.proofs.Common.{Option, Some, None}
use mathlib.Core.Path.{◌≡◌, refl, sym, ap, ◌∙◌}
use mathlib.Core.Bool.{Bool, true, false, ◌&&◌}
use mathlib.Core.List.{List, []}
use Prim.Native.Nat.{ℕ, ◌+◌, ◌-◌, ◌<◌, ◌≤◌}
use native.Mathlib.Omega.{arith}
use lib.Dec.{ltb, leb}
use borrow.Author.Tests.{leb-true, le-leb, lt-ltb}
use Rattle.memory.specs.declared.Fault.{Fault}
use Rattle.memory.specs.declared.Pointer.{Pointer}
use Rattle.memory.specs.Word.{when◌then◌else◌}
use Rattle.memory.specs.Reading.{done, ◌>>=◌, ◌>>◌, check, nobody, blaming, fault}
use Rattle.memory.specs.Address.{null}
use Rattle.memory.proofs.ReadBounds.{Words, both}
use Rattle.settings.specs.declared.Settings.{Settings}
use Rattle.settings.proofs.CheckLaws.{Passing, passing-done}
use Rattle.blocks.specs.declared.RowFormat.{RowFormat}
use Rattle.blocks.specs.declared.Segment.{Segment}
use Rattle.blocks.specs.RowBlock.{RowBlock, row_block_at, window_row_at}
use Rattle.windows.specs.Window.{window_at, due_window}
use Rattle.windows.proofs.WindowBounds.{in_order_lem}
use Rattle.state.specs.declared.Fields.{Fields}
use Rattle.state.specs.declared.State.{State}
use Rattle.state.specs.State.{format_in_range, window_in_range, in_range}
use Rattle.layout.specs.Layout.{total, all_fit, Overlay, none, over, edges_fit}
use Rattle.layout.specs.Overlay.{Overlaid, window_row, overlaid}
use Rattle.background.specs.Background.{background_block, background_row}
use Rattle.plan.specs.Plan.{Plan, planned, next_fields, plan}
use Rattle.codes.specs.Codes.{blank}
use Rattle.windows.specs.declared.Window.{Window}
use Rattle.row.specs.Row.{code_settings, row}
use Rattle.blame.specs.declared.Place.{Place}
use Rattle.blame.specs.declared.Place.TheVariants.{Memory}
use Rattle.blame.specs.Blame.{first_word, second_word, leader, blamed, mendable}
use Rattle.blame.proofs.Comes.{Comes, dones, bind, check-then, if-comes}
use Rattle.blame.proofs.Standing.{Held, Stands, address}
use Rattle.blame.proofs.BlocksStand.{SegmentStands, SegmentsStand, BlockStands, block-stands, format-stands, HandStands, window-stands}
use Rattle.blame.proofs.CellsStand.{cells-stand}
use Rattle.holding.proofs.CellsHold.{EachOver}

module _ (σ : Settings) (m : List ℕ) (b : Words m) where
  -- the words of the pointer at a place are not both 0
  abbrev pub HeldAt : Place → Type 0
  HeldAt p = first_word p σ m ≡ 0 → second_word p σ m ≡ 0 → ⊥

  -- a state's fields that a frame from a start has: in range, and with pointers that stand
  pub record FieldsStand (f : Fields) : Type 0 where
    pub within : f.row + f.left ≤ 4095
    pub format : format_in_range f.format ≡ true
    pub next : Stands m b σ.linear f.next

  -- with a window in hand that the pointer at a place led to
  abbrev pub LedTo : Place → Option Window → Type 0
  LedTo led w = HandStands m b σ.linear (HeldAt led) w

  pub record Ready (led : Place) (f : Fields) : Type 0 where
    pub fields : FieldsStand f
    pub window : LedTo led f.window

  -- so check 3 passes
  window-in-range : (led : Place) (w : Option Window) → LedTo led w → window_in_range w ≡ true
  unfolding window_in_range
  window-in-range led None h = refl
  window-in-range led (Some w) h = rw (h.0.ordered, le-leb w.block.number w.block.top h.0.numbered, h.0.rows.range, h.0.link.range)

  pub in-range : (led : Place) (f : Fields) → Ready led f → in_range f ≡ true
  unfolding in_range
  in-range led f h = rw (le-leb (f.row + f.left) 4095 h.fields.within, h.fields.format, h.fields.next.range, window-in-range led f.window h.window)

  -- ---- one row, whose window in hand the pointer at `led` led to ----
  module _ (led : Place) where
    -- its refusal has a number that can be mended, and blames a pointer whose words are not both 0
    abbrev pub Mends : Fault → Type 0
    Mends x = (mendable x.number ≡ true) × HeldAt (blamed led x)

    missing : (a from : ℕ) → Held m b σ.linear from → Mends (record { number = 7; address = a; from = from })
    unfolding blamed
    missing a from h = (refl, h)

    unlatched : (a from : ℕ) → Held m b σ.linear from → Mends (record { number = 13; address = a; from = from })
    unfolding blamed
    unlatched a from h = (refl, h)

    by_8 : (p : Pointer) → Held m b σ.linear p.from → Mends (blaming 8 p)
    unfolding blamed
    by_8 p h = (refl, h)

    by-9 : (p : Pointer) → Held m b σ.linear p.from → Mends (blaming 9 p)
    unfolding blamed
    by-9 p h = (refl, h)

    by-10 : (p : Pointer) → Held m b σ.linear p.from → Mends (blaming 10 p)
    unfolding blamed
    by-10 p h = (refl, h)

    by-11 : HeldAt led → Mends (fault 11)
    unfolding blamed
    by-11 h = (refl, h)

    by-12 : HeldAt led → Mends (fault 12)
    unfolding blamed
    by-12 h = (refl, h)

    -- a check on segments fails only where there are some, so not after a null pointer
    some_read : (p : Pointer) (k : RowBlock) → BlockStands m b σ.linear p k → Stands m b σ.linear p → (test : List Segment → Bool) → test [] ≡ true
        → test k.segments ≡ false → Held m b σ.linear p.from
    some_read p k h s test e f = by (null p) refl
      where
        by : (n : Bool) → null p ≡ n → Held m b σ.linear p.from
        by true n = let q : true ≡ false = sym e ∙ sym (ap test (h.none n)) ∙ f in let z : ◌≡◌ {A = ℕ} 0 1 = cc in absurd (omega arith)
        by false n = s.held n

    background-stands : (f : Fields) → FieldsStand f
        → Comes m Mends (λ g. BlockStands m b σ.linear f.next g.block × (format_in_range g.format ≡ true)) (background_row σ f)
    unfolding background_row background_block row_block_at all_fit total
    background-stands f h =
        let s = h.next in
        bind m Mends {P = λ g. BlockStands m b σ.linear f.next g.block × (format_in_range g.format ≡ true)}
        (bind m Mends (block-stands m b σ.linear Mends true f.next s (λ n a. missing a _ (s.held n))) λ k hk.
        bind m Mends (format-stands m b σ.linear Mends k.redefinition f.format (λ n a. missing a _ (hk.redefinition.held n)) h.format) λ t ht. dones (hk, ht)) λ g hg.
        check-then m Mends 9 f.next (all_fit g.block.segments) (λ e. by-9 f.next (some_read f.next g.block hg.0 s all_fit refl e)) λ _ _.
        check-then m Mends 10 f.next (leb (total σ.hidden g.block.segments) 132)
        (λ e. by-10 f.next (some_read f.next g.block hg.0 s (λ gs. leb (total σ.hidden gs) 132) refl e)) λ _ _.
        dones hg

    -- the window on the row, if there is one, is the one in hand
    abbrev Shown : Overlay → Type 0
    Shown none = Unit
    Shown (over number first end ws) = HeldAt led

    abbrev Laid : Overlaid → Type 0
    Laid o = EachOver (SegmentStands m b σ.linear) o.overlay × Shown o.overlay × LedTo led o.window

    overlaid-stands : (at : ℕ) (w : Option Window) → LedTo led w → Comes m Mends Laid (overlaid σ at w)
    unfolding overlaid window_row window_row_at all_fit
    overlaid-stands at None h = dones (tt, tt, tt)
    overlaid-stands at (Some w) h =
        let s = h.0.rows in
        if-comes m Mends (leb w.block.top at && leb at w.block.bottom)
        (λ _. bind m Mends (block-stands m b σ.linear Mends false w.rows s (λ n a. missing a _ (s.held n))) λ k hk.
        check-then m Mends 9 w.rows (all_fit k.segments) (λ e. by-9 w.rows (some_read w.rows k hk s all_fit refl e)) λ _ _.
        check-then m Mends 11 nobody (leb (total σ.hidden k.segments) (w.block.right + 1 - w.block.left)) (λ _. by-11 h.1) λ _ _.
        dones (hk.segments, h.1, (record { ordered = h.0.ordered; numbered = h.0.numbered; rows = hk.link; link = h.0.link }, h.1)))
        (λ _. dones (tt, tt, h))

    edges-held : (o : Overlay) → Shown o → (gs : List Segment) → edges_fit σ.hidden o gs ≡ false → HeldAt led
    unfolding edges_fit
    edges-held none h gs e = let z : ◌≡◌ {A = ℕ} 0 1 = cc in absurd (omega arith)
    edges-held (over number first end ws) h gs e = h

    -- the next state's fields
    next-stands : (f : Fields) → FieldsStand f → 0 < f.left → (t : RowFormat) → format_in_range t ≡ true → (link : Pointer) → Stands m b σ.linear link
        → (w : Option Window) → LedTo led w → Ready led (next_fields f t link w)
    unfolding next_fields
    next-stands f h l t ht link hl w hw =
        let lines : 1 ≤ t.lines = leb-true 1 t.lines (both (leb 1 t.lines) _ (both _ (leb t.curs 31) (both _ (leb t.cure 31) (both _ (leb t.attributes 1023) ht).0).0).0).0 in
        record { fields = record { within = omega (arith, h.within); format = ht; next = hl }; window = hw }

    pub record Planned (p : Plan) : Type 0 where
      pub ready : Ready led p.next
      pub segments : SegmentsStand m b σ.linear p.segments
      pub overlay : EachOver (SegmentStands m b σ.linear) p.overlay

    -- once the window in hand is read, and the state's checks are passed
    blocks-stand : (f : Fields) → FieldsStand f → 0 < f.left → (w : Option Window) → LedTo led w
        → Comes m Mends Planned (do
          g ← background_row σ f
          o ← overlaid σ f.row w
          check 12 (edges_fit σ.hidden o.overlay g.block.segments)
          done (planned f g o))
    blocks-stand f h l w hw =
        bind m Mends (background-stands f h) λ g hg.
        bind m Mends (overlaid-stands f.row w hw) λ o ho.
        check-then m Mends 12 nobody (edges_fit σ.hidden o.overlay g.block.segments)
        (λ e. by-12 (edges-held o.overlay ho.1 g.block.segments e)) λ _ _.
        dones
        (record {
          ready = next-stands f h l g.format hg.1 g.block.link hg.0.link o.window ho.2;
          segments = hg.0.segments;
          overlay = ho.0;
        })

  -- ---- from a state, before its due window is read ----
  -- the pointer at `leader ..` led to the window in hand on the row
  due-stands : (led : Place) (at : ℕ) (w : Option Window) → LedTo led w
      → Comes m (Mends (leader at w led)) (LedTo (leader at w led)) (due_window σ.linear at w)
  unfolding due_window leader
  due-stands led at None h = dones tt
  due-stands led at (Some w) h = by (ltb w.block.bottom at)
    where
      next-led : Place
      next-led = Memory w.block.link.from

      by : (t : Bool) → Comes m (Mends (when t then next-led else led)) (LedTo (when t then next-led else led))
          (when t then window_at σ.linear (w.block.number + 1) (w.block.bottom + 1) w.block.link else done (Some w))
      by true =
          let o = in_order_lem w.block h.0.ordered in
          let s = h.0.link in
          window-stands m b σ.linear (Mends next-led) (HeldAt next-led) (w.block.number + 1) (w.block.bottom + 1) w.block.link (omega (arith, o, h.0.numbered))
          (address m b σ.linear w.block.link s)
          (λ n. (λ a. missing next-led a _ (s.held n), by_8 next-led w.block.link (s.held n), s.held n))
      by false = dones h

  plan-stands : (led : Place) (f : Fields) → Ready led f → Passing σ → 0 < f.left
      → Comes m (Mends (leader f.row f.window led)) (Planned (leader f.row f.window led)) (plan σ f)
  unfolding plan ◌>>=◌
  plan-stands led f h g l =
      rw (passing-done σ g)
      (let now = leader f.row f.window led in
      check-then m (Mends now) 3 nobody (in_range f) (λ e. absurd (apart (sym (in-range led f h) ∙ e))) λ _ _.
      check-then m (Mends now) 4 nobody (ltb 0 f.left) (λ e. absurd (apart (sym (lt-ltb 0 f.left l) ∙ e))) λ _ _.
      bind m (Mends now) (due-stands led f.row f.window h.window) λ w hw. blocks-stand now f h.fields l w hw)
    where
      apart : true ≡ false → ⊥
      apart e = let z : ◌≡◌ {A = ℕ} 0 1 = cc in omega arith

  pub row-stands : (led : Place) (s : State) → Ready led s.fields → Passing σ → 0 < s.fields.left
      → Comes m (Mends (leader s.fields.row s.fields.window led)) (λ r. Ready (leader s.fields.row s.fields.window led) r.next) (row σ s)
  unfolding row
  row-stands led s h g l =
      let now = leader s.fields.row s.fields.window led in
      bind m (Mends now) (plan-stands led s.fields h g l) λ p hp.
      bind m (Mends now)
      (cells-stand m b (code_settings σ) (Mends now) (missing now) (unlatched now) s.fields.fill p.overlay p.segments (blank s.latch) hp.overlay hp.segments
      (λ e. let z : ◌≡◌ {A = ℕ} 0 1 = cc in absurd (omega arith)))
      λ d _. dones hp.ready
