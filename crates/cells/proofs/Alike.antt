-- The cells of a row drawn from two latches with the same bit 13 ask alike and end alike but for the cells: a word of the row became the
-- latch of both, or each still has its own.
use mathlib.Core.Path.{◌≡◌, refl}
use mathlib.Core.Bool.{Bool, true, false, ◌&&◌, ◌||◌, not}
use mathlib.Core.List.{List}
use Prim.Native.Nat.{ℕ, zero, suc, ◌+◌, ◌-◌}
use lib.Dec.{ltb}
use Rattle.memory.specs.Word.{when◌then◌else◌}
use Rattle.memory.specs.declared.Pointer.{Pointer}
use Rattle.memory.specs.Reading.{Reading, ◌>>=◌}
use Rattle.memory.specs.Address.{onward}
use Rattle.memory.proofs.Related.{Rel, dones, refuses, asks, if-rel, bind, each-rel}
use Rattle.blocks.specs.declared.FillMode.{FillMode}
use Rattle.blocks.specs.declared.Segment.{Segment}
use Rattle.layout.specs.Layout.{width, Overlay, none, over}
use Rattle.codes.specs.declared.CodeSettings.{CodeSettings}
use Rattle.codes.specs.declared.Source.{Source}
use Rattle.codes.specs.declared.AttributeList.{AttributeList}
use Rattle.codes.specs.Attribute.{Background, Window, invokes, latches, ignores}
use Rattle.codes.specs.Codes.{Drawing, drawing, no_list, list_at, with_list, taking, put, character, examine, word_codes, codes}
use Rattle.cells.specs.Cells.{filled, fill_by_word, fill_to, segment, segments_to, row_cells}

module _ (l₁ l₂ : ℕ) where
  -- the latches of two drawings, one begun with l₁ and one with l₂; the flag says whether a word of the row became the latch
  pub data Held : Bool → ℕ → ℕ → Type 0 where
    kept : Held false l₁ l₂
    became : (w : ℕ) → Held true w w

  -- two drawings that stand alike but for their cells
  pub data Alike : Drawing → Drawing → Type 0 where
    alike : {b : Bool} {w₁ w₂ : ℕ} (c : ℕ) (u : AttributeList) (xs ys : List ℕ) → Held b w₁ w₂
        → Alike (drawing (record { column = c; latch = w₁; latched = b; list = u }) xs)
        (drawing (record { column = c; latch = w₂; latched = b; list = u }) ys)

  -- a step of the walk that keeps drawings alike
  abbrev Keeps : (Drawing → Reading Drawing) → Type 0
  Keeps k = (d e : Drawing) → Alike d e → Rel Alike (k d) (k e)

  with-list : (u : AttributeList) (d e : Drawing) → Alike d e → Alike (with_list u d) (with_list u e)
  with-list v d e (alike c u xs ys h) = alike c v xs ys h

  -- the list in use before comes back
  list_back : (d₁ e₁ d₂ e₂ : Drawing) → Alike d₁ e₁ → Alike d₂ e₂
      → Alike (with_list d₁.pen.list d₂) (with_list e₁.pen.list e₂)
  list_back d₁ e₁ d₂ e₂ (alike c u xs ys h) r = with-list u d₂ e₂ r

  put-alike : (n x y : ℕ) (d e : Drawing) → Alike d e → Alike (put n x d) (put n y e)
  unfolding put
  put-alike n x y d e (alike c u xs ys h) = alike (c + n) u _ _ h

  -- either side of the word's bit 15
  held-taking : (t : Bool) (w : ℕ) {b : Bool} {w₁ w₂ : ℕ} → Held b w₁ w₂
      → Held (when t then true else b) (when t then w else w₁) (when t then w else w₂)
  held-taking true w h = became w
  held-taking false w h = h

  taking-alike : (linear : Bool) (w : ℕ) (d e : Drawing) → Alike d e
      → Alike (drawing (taking linear w d.pen) d.cells) (drawing (taking linear w e.pen) e.cells)
  unfolding taking
  taking-alike linear w d e (alike c u xs ys h) = alike c _ xs ys (held-taking (latches w) w h)

module _ (l₁ l₂ : ℕ) (same : ignores l₁ ≡ ignores l₂) (σ : CodeSettings) where
  held-ignores : {b : Bool} {w₁ w₂ : ℕ} → Held l₁ l₂ b w₁ w₂ → ignores w₁ ≡ ignores w₂
  held-ignores kept = same
  held-ignores (became w) = refl

  character-alike : (source : Source) (end x y code : ℕ) → ignores x ≡ ignores y → (d e : Drawing) → Alike l₁ l₂ d e
      → Alike l₁ l₂ (character σ.hidden source end x code d) (character σ.hidden source end y code e)
  unfolding character
  character-alike source end x y code i d e (alike c u xs ys h) =
      let r = alike c u xs ys h in
      rw i (if-rel (Alike l₁ l₂) ((σ.hidden || not (ignores y)) && ltb c end) (put-alike l₁ l₂ 1 _ _ _ _ r) r)

  examine-keeps : (source : Source) (end code : ℕ) → Keeps l₁ l₂ (examine σ source end code)
  unfolding examine ◌>>=◌
  examine-keeps source end code d e (alike c u xs ys h) =
      let r = alike c u xs ys h in
      if-rel (Rel (Alike l₁ l₂)) (invokes σ.flag code && u.present)
      (asks λ w. dones (character-alike source end w w code refl _ _ (taking-alike l₁ l₂ σ.linear w _ _ r)))
      (dones (character-alike source end _ _ code (held-ignores h) _ _ r))

  word_keeps : (source : Source) (end n w : ℕ) → Keeps l₁ l₂ (word_codes σ source end n w)
  unfolding word_codes
  word_keeps source end n w = each-rel (examine-keeps source end) _

  codes-keeps : (source : Source) (end n : ℕ) (p : Pointer) → Keeps l₁ l₂ (codes σ source end n p)
  unfolding codes ◌>>=◌
  codes-keeps source end zero p d e r = dones r
  codes-keeps source end (suc zero) p d e r = asks λ w. word_keeps source end 1 w d e r
  codes-keeps source end (suc (suc n)) p d e r =
      asks λ w. bind (word_keeps source end 2 w d e r) (codes-keeps source end n (onward σ.linear p))

  module _ (fill : FillMode) where
    filled-alike : (end : ℕ) (d e : Drawing) → Alike l₁ l₂ d e → Alike l₁ l₂ (filled fill end d) (filled fill end e)
    unfolding filled
    filled-alike end d e (alike c u xs ys h) = put-alike l₁ l₂ (end - c) _ _ _ _ (alike c u xs ys h)

    fill-word-keeps : (end : ℕ) → Keeps l₁ l₂ (fill_by_word σ fill end)
    unfolding fill_by_word ◌>>=◌
    fill-word-keeps end d e (alike c u xs ys h) =
        asks λ w. if-rel (Rel (Alike l₁ l₂)) (latches w)
        (dones (filled-alike end _ _ (taking-alike l₁ l₂ σ.linear w _ _ (alike c u xs ys h)))) refuses

    fill-keeps : (end : ℕ) → Keeps l₁ l₂ (fill_to σ fill end)
    unfolding fill_to
    fill-keeps end d e (alike c u xs ys h) =
        let r = alike c u xs ys h in
        if-rel (Rel (Alike l₁ l₂)) (ltb c end)
        (if-rel (Rel (Alike l₁ l₂)) (fill.flag && u.present) (fill-word-keeps end _ _ r) (dones (filled-alike end _ _ r))) (dones r)

    segment-keeps : (source : Source) (g : Segment) → Keeps l₁ l₂ (segment σ fill source g)
    unfolding segment
    segment-keeps source g d e (alike c u xs ys h) =
        let end = c + width σ.hidden g in
        bind (codes-keeps source end _ g.codes _ _ (alike c (list_at g.attributes) xs ys h)) (fill-keeps end)

    segments-keep : (source : Source) (gs : List Segment) (end : ℕ) → Keeps l₁ l₂ (segments_to σ fill source gs end)
    unfolding segments_to
    segments-keep source gs end d e r = bind (each-rel (segment-keeps source) gs d e r) (fill-keeps end)

    pub cells-keeps : (o : Overlay) (gs : List Segment) → Keeps l₁ l₂ (row_cells σ fill o gs)
    unfolding row_cells
    cells-keeps none gs d e r = segments-keep Background gs 132 d e r
    cells-keeps (over number first end ws) gs d e r =
        bind (segments-keep Background _ first d e r) λ d₁ e₁ r₁.
        bind (segments-keep (Window number) ws end _ _ (with-list l₁ l₂ no_list d₁ e₁ r₁)) λ d₂ e₂ r₂.
        segments-keep Background _ 132 _ _ (list_back l₁ l₂ d₁ e₁ d₂ e₂ r₁ r₂)
