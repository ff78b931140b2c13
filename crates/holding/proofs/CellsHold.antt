-- The cells of a row: what a row in the making keeps through each word, character and fill run, it keeps to the row's end.
use mathlib.Core.Path.{◌≡◌}
use mathlib.Core.Bool.{Bool, true, false, ◌&&◌}
use mathlib.Core.List.{List, [], ◌∷◌}
use Prim.Native.Nat.{ℕ, zero, suc, ◌+◌}
use lib.ListN.{take}
use lib.Dec.{ltb}
use Rattle.memory.specs.declared.Fault.{Fault}
use Rattle.memory.specs.declared.Pointer.{Pointer}
use Rattle.memory.specs.Word.{high, low}
use Rattle.memory.specs.Reading.{Ask, asking, ◌>>=◌}
use Rattle.memory.specs.Address.{null, onward}
use Rattle.memory.proofs.ReadBounds.{if-cases, both}
use Rattle.blocks.specs.declared.FillMode.{FillMode}
use Rattle.blocks.specs.declared.Segment.{Segment}
use Rattle.layout.specs.declared.Side.{Side}
use Rattle.layout.specs.declared.Side.TheVariants.{Before, After}
use Rattle.layout.specs.Layout.{width, on_side, segments_on, Overlay, none, over}
use Rattle.codes.specs.declared.CodeSettings.{CodeSettings}
use Rattle.codes.specs.declared.Source.{Source}
use Rattle.codes.specs.Attribute.{Background, Window, invokes, latches}
use Rattle.codes.specs.Codes.{Drawing, drawing, list_at, no_list, with_list, taking, character, examine, word_codes, codes}
use Rattle.cells.specs.Cells.{filled, unlatched, fill_by_word, fill_to, segment, segments_to, row_cells}
use Rattle.holding.proofs.Holds.{Each, Holds, dones, refuses, asks, bind, if-holds, each_holds}

-- of any elements: nothing is asked of them
pub any : {X : Type 0} (xs : List X) → Each (λ _. Unit) xs
any [] = tt
any (x ∷ xs) = (tt, any xs)

-- the segments on a side are among the segments
pub on-side : (S : Segment → Type 0) (side : Side) (hidden : Bool) (s : ℕ) (gs : List Segment) → Each S gs → Each S (segments_on side hidden s gs)
unfolding segments_on
on-side S side hidden s [] h = tt
on-side S side hidden s (g ∷ gs) (h, hs) =
    let w = width hidden g in
    let rest = on-side S side hidden (s + w) gs hs in
    if-cases (Each S) (on_side side s w) (λ _. (h, rest)) (λ _. rest)

-- the window's segments
abbrev pub EachOver : (Segment → Type 0) → Overlay → Type 0
EachOver S none = Unit
EachOver S (over number first end ws) = Each S ws

module _ (Q : Ask → Type 0) (K : Ask → ℕ → Type 0) (F : Fault → Type 0) (σ : CodeSettings) (fill : FillMode) where
  -- what a row in the making, a pointer to codes and a segment keep
  pub record Keeps (I : Drawing → Type 0) (C : Pointer → Type 0) (S : Segment → Type 0) : Type 0 where
    pub code : (p : Pointer) → C p → Q (asking p)
    pub further : (p : Pointer) (w : ℕ) → C p → K (asking p) w → C (onward σ.linear p)
    pub list : (d : Drawing) → I d → d.pen.list.present ≡ true → Q (asking d.pen.list.next)
    pub taken : (d : Drawing) (w : ℕ) → I d → K (asking d.pen.list.next) w → I (drawing (taking σ.linear w d.pen) d.cells)
    pub shown : (source : Source) (end attribute code : ℕ) (d : Drawing) → I d → I (character σ.hidden source end attribute code d)
    pub run : (end : ℕ) (d : Drawing) → I d → I (filled fill end d)
    pub bad : (d : Drawing) → I d → d.pen.list.present ≡ true → F (unlatched d.pen.list.next)
    pub begun : (g : Segment) (d : Drawing) → S g → I d → I (with_list (list_at g.attributes) d)
    pub codes_of : (g : Segment) → S g → null g.codes ≡ false → C g.codes
    pub unlisted : (d : Drawing) → I d → I (with_list no_list d)
    pub resumed : (d e : Drawing) → I d → I e → I (with_list d.pen.list e)

  module _ {I : Drawing → Type 0} {C : Pointer → Type 0} {S : Segment → Type 0} (k : Keeps I C S) where
    examine-holds : (source : Source) (end code : ℕ) (d : Drawing) → I d → Holds Q K F I (examine σ source end code d)
    unfolding examine ◌>>=◌
    examine-holds source end code d i =
        if-holds (invokes σ.flag code && d.pen.list.present)
        (λ e. asks (k.list d i (both (invokes σ.flag code) d.pen.list.present e).1) λ w h. dones (k.shown source end w code _ (k.taken d w i h)))
        λ _. dones (k.shown source end _ code d i)

    word_holds : (source : Source) (end n w : ℕ) (d : Drawing) → I d → Holds Q K F I (word_codes σ source end n w d)
    unfolding word_codes
    word_holds source end n w d i =
        let bytes = take n (high w ∷ low w ∷ []) in
        each_holds {S = λ _. Unit} (λ code _. examine-holds source end code) bytes (any bytes) d i

    codes-hold : (source : Source) (end n : ℕ) (p : Pointer) (d : Drawing) → C p → I d → Holds Q K F I (codes σ source end n p d)
    unfolding codes ◌>>=◌
    codes-hold source end zero p d c i = dones i
    codes-hold source end (suc zero) p d c i = asks (k.code p c) λ w _. word_holds source end 1 w d i
    codes-hold source end (suc (suc n)) p d c i =
        asks (k.code p c) λ w h. bind (word_holds source end 2 w d i) λ d₁ i₁. codes-hold source end n (onward σ.linear p) d₁ (k.further p w c h) i₁

    fill_holds : (end : ℕ) (d : Drawing) → I d → Holds Q K F I (fill_to σ fill end d)
    unfolding fill_to fill_by_word ◌>>=◌
    fill_holds end d i =
        if-holds (ltb d.pen.column end)
        (λ _. if-holds (fill.flag && d.pen.list.present)
        (λ e. let p = (both fill.flag d.pen.list.present e).1 in
        asks (k.list d i p) λ w h. if-holds (latches w) (λ _. dones (k.run end _ (k.taken d w i h))) (λ _. refuses (k.bad d i p)))
        (λ _. dones (k.run end d i)))
        (λ _. dones i)

    segment-holds : (source : Source) (g : Segment) → S g → (d : Drawing) → I d → Holds Q K F I (segment σ fill source g d)
    unfolding segment codes
    segment-holds source g s d i =
        let end = d.pen.column + width σ.hidden g in
        let e = with_list (list_at g.attributes) d in
        let j = k.begun g d s i in
        bind
        (if-cases (λ (n : ℕ). Holds Q K F I (codes σ source end n g.codes e)) (null g.codes)
        (λ _. dones j) (λ z. codes-hold source end g.length g.codes e (k.codes_of g s z) j))
        (fill_holds end)

    segments-hold : (source : Source) (gs : List Segment) (end : ℕ) (d : Drawing) → Each S gs → I d → Holds Q K F I (segments_to σ fill source gs end d)
    unfolding segments_to
    segments-hold source gs end d s i = bind (each_holds (segment-holds source) gs s d i) (fill_holds end)

    pub cells-hold : (o : Overlay) (gs : List Segment) (d : Drawing) → EachOver S o → Each S gs → I d → Holds Q K F I (row_cells σ fill o gs d)
    unfolding row_cells
    cells-hold none gs d x s i = segments-hold Background gs 132 d s i
    cells-hold (over number first end ws) gs d x s i =
        bind (segments-hold Background _ first d (on-side S (Before first) σ.hidden 0 gs s) i) λ d₁ i₁.
        bind (segments-hold (Window number) ws end (with_list no_list d₁) x (k.unlisted d₁ i₁)) λ d₂ i₂.
        segments-hold Background _ 132 (with_list d₁.pen.list d₂) (on-side S (After first end) σ.hidden 0 gs s) (k.resumed d₁ d₂ i₁ i₂)
