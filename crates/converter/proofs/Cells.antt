-- The cells of a row of a segmented list and of its linear one are the same: codes and words of a list are asked for through the segments'
-- pointers, which are the same, and steps from these.
use mathlib.Core.Path.{◌≡◌, sym}
use mathlib.Core.Bool.{Bool, true, false, ◌&&◌, ◌||◌, not}
use mathlib.Core.List.{List, [], ◌∷◌}
use Prim.Native.Nat.{ℕ, zero, suc, ◌+◌, ◌-◌, ◌≤◌}
use native.Mathlib.Omega.{arith}
use lib.ListN.{take}
use lib.Dec.{ltb}
use borrow.Author.Tests.{not-true}
use Rattle.memory.specs.declared.Pointer.{Pointer}
use Rattle.memory.specs.Word.{high, low}
use Rattle.memory.specs.Reading.{◌>>=◌}
use Rattle.memory.specs.Address.{nothing, null, onward}
use Rattle.memory.proofs.ReadBounds.{Words, if-cases, both}
use Rattle.memory.proofs.Related.{if-rel}
use Rattle.blocks.specs.declared.FillMode.{FillMode}
use Rattle.blocks.specs.declared.Segment.{Segment}
use Rattle.layout.specs.declared.Side.TheVariants.{Before, After}
use Rattle.layout.specs.Layout.{width, segments_on, Overlay, none, over}
use Rattle.codes.specs.declared.CodeSettings.{CodeSettings}
use Rattle.codes.specs.declared.Source.{Source}
use Rattle.codes.specs.Attribute.{Fill, Background, Window, invokes, latches, ignores, cell}
use Rattle.codes.specs.Codes.{Drawing, drawing, list_at, no_list, with_list, blank, taking, put, character, examine, word_codes, codes}
use Rattle.cells.specs.Cells.{code_count, filled, fill_by_word, fill_to, segment, segments_to, row_cells}
use Rattle.told.proofs.Tells.{apart}
use Rattle.holding.proofs.Holds.{Each}
use Rattle.holding.proofs.CellsHold.{any, on-side}
use Rattle.converter.specs.Walk.{word_of}
use Rattle.converter.proofs.Alike.{Alike, dones, refuses, asks, bind, if-alike, each-alike}
use Rattle.converter.proofs.Pointers.{Stands, Near, first-stood, later, onward_near}
use Rattle.converter.proofs.Blocks.{Pointed}

-- the window on a row
abbrev pub OverlayStands : (m : List ℕ) → Words m → Overlay → Type 0
OverlayStands m b none = Unit
OverlayStands m b (over number first end ws) = Each (Pointed m b) ws

module _ (m : List ℕ) (b : Words m) (held : ℕ) where
  -- rows in the making that are the same but for the next word of the list in use: that is near where there is a list
  pub data Drawn : ℕ → Drawing → Drawing → Type 0 where
    drawn : {c : ℕ} (column latch : ℕ) (latched present : Bool) (p q : Pointer) (cells : List ℕ) → (present ≡ true → Near m b held c p q)
        → Drawn c (drawing (record { column = column; latch = latch; latched = latched; list = record { present = present; next = p } }) cells)
        (drawing (record { column = column; latch = latch; latched = latched; list = record { present = present; next = q } }) cells)

  later-drawn : {c n : ℕ} {d e : Drawing} → c ≤ n → Drawn c d e → Drawn n d e
  later-drawn l (drawn column latch latched present p q cells h) = drawn column latch latched present p q cells λ t. later m b held l (h t)

  -- another list, from a pointer that stands
  with-list : {c : ℕ} {d e : Drawing} (p : Pointer) → Stands m b p → Drawn c d e → Drawn c (with_list (list_at p) d) (with_list (list_at p) e)
  with-list {c} p s (drawn column latch latched present _ _ cells h) =
      drawn column latch latched (not (null p)) p p cells λ t. first-stood m b held c p s (not-true (null p) t)

  -- the list in use before comes back
  list_back : {c n : ℕ} {d₁ e₁ d₂ e₂ : Drawing} → c ≤ n → Drawn c d₁ e₁ → Drawn n d₂ e₂
      → Drawn n (with_list d₁.pen.list d₂) (with_list e₁.pen.list e₂)
  list_back l (drawn _ _ _ present p q _ h) (drawn column latch latched _ _ _ cells _) =
      drawn column latch latched present p q cells λ t. later m b held l (h t)

  no-pointer-stands : Stands m b nothing
  no-pointer-stands e = apart e

  put-drawn : {c : ℕ} (n value : ℕ) {d e : Drawing} → Drawn c d e → Drawn c (put n value d) (put n value e)
  unfolding put
  put-drawn n value (drawn column latch latched present p q cells h) = drawn (column + n) latch latched present p q _ h

  character-drawn : {c : ℕ} (hidden : Bool) (source : Source) (end attribute code : ℕ) {d e : Drawing} → Drawn c d e
      → Drawn c (character hidden source end attribute code d) (character hidden source end attribute code e)
  unfolding character
  character-drawn {c} hidden source end attribute code (drawn column latch latched present p q cells h) =
      let r = drawn column latch latched present p q cells h in
      if-rel (Drawn c) ((hidden || not (ignores attribute)) && ltb column end) (put-drawn 1 (cell source attribute code) r) r

  module _ (hidden : Bool) (flag : ℕ) where
    abbrev by : Bool → CodeSettings
    by linear = record { linear = linear; hidden = hidden; flag = flag }

    examine-alike : (source : Source) (end code c : ℕ) (d e : Drawing) → Drawn c d e
        → Alike held m Drawn c (examine (by false) source end code d) (examine (by true) source end code e)
    unfolding examine taking ◌>>=◌
    examine-alike source end code c _ _ (drawn column latch latched present p q cells h) =
        if-alike held m (invokes flag code && present)
        (λ t. let n = h (both (invokes flag code) present t).1 in
        asks n.same λ o l.
        dones (character-drawn hidden source end (word_of m p.address) code
        (drawn column _ _ present (onward false p) (onward true q) cells λ t. onward_near m b held c p q (h t) o l)))
        λ _. dones (character-drawn hidden source end latch code (drawn column latch latched present p q cells h))

    word-alike : (source : Source) (end n w c : ℕ) (d e : Drawing) → Drawn c d e
        → Alike held m Drawn c (word_codes (by false) source end n w d) (word_codes (by true) source end n w e)
    unfolding word_codes
    word-alike source end n w c d e r =
        let bytes = take n (high w ∷ low w ∷ []) in
        each-alike held m {S = λ _. Unit} (λ code _ i x y s. examine-alike source end code i x y s) bytes (any bytes) c d e r

    codes-alike : (source : Source) (end n c : ℕ) (p q : Pointer) (d e : Drawing) → Near m b held c p q → Drawn c d e
        → Alike held m Drawn c (codes (by false) source end n p d) (codes (by true) source end n q e)
    unfolding codes ◌>>=◌
    codes-alike source end zero c p q d e h r = dones r
    codes-alike source end (suc zero) c p q d e h r =
        asks h.same λ o l. word-alike source end 1 (word_of m p.address) (c + 1) d e (later-drawn {c = c} (omega arith) r)
    codes-alike source end (suc (suc n)) c p q d e h r =
        asks h.same λ o l.
        bind held m (word-alike source end 2 (word_of m p.address) (c + 1) d e (later-drawn {c = c} (omega arith) r)) λ i d₁ e₁ k r₁.
        codes-alike source end n i (onward false p) (onward true q) d₁ e₁ (later m b held k (onward_near m b held c p q h o l)) r₁

    -- "With a null code pointer .. no code is read."
    counted-alike : (source : Source) (end : ℕ) (g : Segment) → Stands m b g.codes → (c : ℕ) (d e : Drawing) → Drawn c d e
        → Alike held m Drawn c (codes (by false) source end (code_count g) g.codes d) (codes (by true) source end (code_count g) g.codes e)
    unfolding codes
    counted-alike source end g s c d e r =
        if-cases (λ (n : ℕ). Alike held m Drawn c (codes (by false) source end n g.codes d) (codes (by true) source end n g.codes e)) (null g.codes)
        (λ _. dones r) (λ k. codes-alike source end g.length c g.codes g.codes d e (first-stood m b held c g.codes s k) r)

    module _ (fill : FillMode) where
      filled-drawn : {c : ℕ} (end : ℕ) {d e : Drawing} → Drawn c d e → Drawn c (filled fill end d) (filled fill end e)
      unfolding filled
      filled-drawn end (drawn column latch latched present p q cells h) =
          put-drawn (end - column) (cell Fill latch fill.code) (drawn column latch latched present p q cells h)

      fill-alike : (end c : ℕ) (d e : Drawing) → Drawn c d e → Alike held m Drawn c (fill_to (by false) fill end d) (fill_to (by true) fill end e)
      unfolding fill_to fill_by_word taking ◌>>=◌
      fill-alike end c _ _ (drawn column latch latched present p q cells h) =
          let r = drawn column latch latched present p q cells h in
          if-alike held m (ltb column end)
          (λ _. if-alike held m (fill.flag && present)
          (λ t. let n = h (both fill.flag present t).1 in
          asks n.same λ o l.
          if-alike held m (latches (word_of m p.address))
          (λ _. dones (filled-drawn end (drawn column _ _ present (onward false p) (onward true q) cells λ t. onward_near m b held c p q (h t) o l)))
          (λ _. refuses))
          (λ _. dones (filled-drawn end r)))
          (λ _. dones r)

      segment-alike : (source : Source) (g : Segment) → Pointed m b g → (c : ℕ) (d e : Drawing) → Drawn c d e
          → Alike held m Drawn c (segment (by false) fill source g d) (segment (by true) fill source g e)
      unfolding segment
      segment-alike source g s c _ _ (drawn column latch latched present p q cells h) =
          let r = with-list g.attributes s.1 (drawn column latch latched present p q cells h) in
          let end = column + width hidden g in
          bind held m (counted-alike source end g s.0 c _ _ r) λ n d₁ e₁ _ r₁. fill-alike end n d₁ e₁ r₁

      segments-alike : (source : Source) (gs : List Segment) (end c : ℕ) (d e : Drawing) → Each (Pointed m b) gs → Drawn c d e
          → Alike held m Drawn c (segments_to (by false) fill source gs end d) (segments_to (by true) fill source gs end e)
      unfolding segments_to
      segments-alike source gs end c d e s r =
          bind held m (each-alike held m (segment-alike source) gs s c d e r) λ n d₁ e₁ _ r₁. fill-alike end n d₁ e₁ r₁

      pub cells-alike : (o : Overlay) (gs : List Segment) (c : ℕ) (d e : Drawing) → OverlayStands m b o → Each (Pointed m b) gs → Drawn c d e
          → Alike held m Drawn c (row_cells (by false) fill o gs d) (row_cells (by true) fill o gs e)
      unfolding row_cells
      cells-alike none gs c d e s k r = segments-alike Background gs 132 c d e k r
      cells-alike (over number first end ws) gs c d e s k r =
          let before = on-side (Pointed m b) (Before first) hidden 0 gs k in
          let after = on-side (Pointed m b) (After first end) hidden 0 gs k in
          bind held m (segments-alike Background (segments_on (Before first) hidden 0 gs) first c d e before r) λ i d₁ e₁ _ r₁.
          bind held m (segments-alike (Window number) ws end i (with_list no_list d₁) (with_list no_list e₁) s (with-list nothing no-pointer-stands r₁)) λ j d₂ e₂ l r₂.
          segments-alike Background (segments_on (After first end) hidden 0 gs) 132 j _ _ after (list_back l r₁ r₂)

  -- a row begins with no list
  pub blank-drawn : (c latch : ℕ) → Drawn c (blank latch) (blank latch)
  blank-drawn c latch = drawn 0 latch false false nothing nothing [] λ e. apart (sym e)
