-- What is told is what the drawing of a row makes of the latch, whatever latch, column and cells it begins with.
use mathlib.Core.Path.{◌≡◌, refl, sym, subst, ◌∙◌}
use mathlib.Core.List.{List, [], ◌∷◌}
use mathlib.Core.Bool.{Bool, true, false, ◌&&◌, ◌||◌, not}
use Prim.Native.Nat.{ℕ, zero, suc, ◌+◌, ◌/◌, ◌<◌, ◌≤◌}
use native.Mathlib.Omega.{arith}
use native.Mathlib.Nat.{add-zero, zero-add, le_refl}
use native.Mathlib.Numerals.{add-one}
use lib.ListN.{length, get_or}
use lib.Dec.{ltb}
use Rattle.memory.specs.Word.{when◌then◌else◌, high, low}
use Rattle.memory.specs.Reading.{Reading, ◌>>=◌, each, Outcome, given, run_from}
use Rattle.memory.specs.declared.Pointer.{Pointer}
use Rattle.memory.specs.Address.{null, ahead, further}
use Rattle.memory.specs.Answers.{is_run}
use Rattle.memory.proofs.Laws.{bind-given, run-done, ask-word}
use Rattle.memory.proofs.ReadBounds.{both, if-cases}
use Rattle.memory.proofs.RunLaws.{ahead-next, run-fetch}
use Rattle.codes.specs.declared.CodeSettings.{CodeSettings}
use Rattle.blocks.specs.declared.FillMode.{FillMode}
use Rattle.blocks.specs.declared.Segment.{Segment}
use Rattle.layout.specs.Layout.{width, Overlay, none, over}
use Rattle.codes.specs.declared.Source.{Source}
use Rattle.codes.specs.declared.AttributeList.{AttributeList}
use Rattle.codes.specs.Attribute.{Background, Window, invokes, latches, ignores}
use Rattle.codes.specs.Codes.{Drawing, list_at, no_list, blank, with_list, taking, put, character, examine, word_codes, codes}
use Rattle.cells.specs.Cells.{code_count}
use Rattle.cells.specs.Cells.{filled, fill_to, segment, segments_to, row_cells}
use Rattle.codes.proofs.CodeLaws.{examine-word, examine-latch}
use Rattle.latch.specs.declared.LatchEffect.{LatchEffect}
use Rattle.latch.specs.declared.LatchEffect.TheVariants.{Kept, Latched, Unclear}
use Rattle.latch.specs.Latch.{join, takes, invoking, last_latched, taken, over_segment, over_segments, over_parts, over_row, ending, or_else, AsDrawn}
use Rattle.latch.proofs.RowLatchLaws.{join_kept, join-assoc, invoking-more, invoking-one, invoking-none}

-- ---- readings that are not refused ----
data Given (P : Drawing → Type 0) : Outcome Drawing → Type 0 where
  is : {n : ℕ} {d : Drawing} → P d → Given P (given n d)

along : {P : Drawing → Type 0} {o o' : Outcome Drawing} → o ≡ o' → Given P o' → Given P o
along {P} e g = subst (Given P) (sym e) g

given-bind : {P Q : Drawing → Type 0} (n : ℕ) (m : List ℕ) (x : Reading Drawing) (k : Drawing → Reading Drawing)
    → Given P (run_from n m x) → ((i : ℕ) (d : Drawing) → P d → Given Q (run_from i m (k d))) → Given Q (run_from n m (x >>= k))
given-bind {P} {Q} n m x k g f = out g refl
  where
    out : {o : Outcome Drawing} → Given P o → run_from n m x ≡ o → Given Q (run_from n m (x >>= k))
    out (is {n = i} {d} h) e = along (bind-given n m x k e) (f i d h)

-- ---- steps that take no word: they leave the latch and the list in use ----

-- a property of whether a word became the latch, the latch, and the list in use
abbrev Of : (Bool → ℕ → AttributeList → Type 0) → Drawing → Type 0
Of P d = P d.pen.latched d.pen.latch d.pen.list

module _ (P : Bool → ℕ → AttributeList → Type 0) where
  character-of : (hidden : Bool) (source : Source) (end a code : ℕ) (d : Drawing) → Of P d → Of P (character hidden source end a code d)
  unfolding character put
  character-of hidden source end a code d h = if-cases (Of P) ((hidden || not (ignores a)) && ltb d.pen.column end) (λ _. h) (λ _. h)

  fill-of : (n : ℕ) (m : List ℕ) (σ : CodeSettings) (fill : FillMode) → fill.flag ≡ false → (end : ℕ) (d : Drawing)
      → Of P d → Given (Of P) (run_from n m (fill_to σ fill end d))
  unfolding fill_to filled put
  fill-of n m σ fill e end d h =
      rw e (if-cases (λ (x : Reading Drawing). Given (Of P) (run_from n m x)) (ltb d.pen.column end)
      (λ _. along (run-done n m _) (is h)) (λ _. along (run-done n m d) (is h)))

-- ---- what is told, of a drawing ----
module _ (b : Bool) (latch : ℕ) where
  -- whether a word has become the latch, and the latch, as told from b and `latch`
  abbrev Has : LatchEffect → Bool → ℕ → Type 0
  Has Kept x y = (x ≡ b) × (y ≡ latch)
  Has (Latched w) x y = (x ≡ true) × (y ≡ w)
  Has Unclear x y = Unit {0}

  has_word : (t : Bool) (w : ℕ) (f : LatchEffect) (x : Bool) (y : ℕ) → Has f x y
      → Has (when t then Latched w else f) (when t then true else x) (when t then w else y)
  has_word true w f x y h = (refl, refl)
  has_word false w f x y h = h

  -- an outcome as told: it is no refusal, unless that is unclear
  data Tells : LatchEffect → Outcome Drawing → Type 0 where
    tells : {f : LatchEffect} {n : ℕ} {d : Drawing} → Has f d.pen.latched d.pen.latch → Tells f (given n d)
    unclear : {o : Outcome Drawing} → Tells Unclear o

  tells-given : {P : Bool → ℕ → AttributeList → Type 0} {f : LatchEffect} {o : Outcome Drawing}
      → ((x : Bool) (y : ℕ) (u : AttributeList) → P x y u → Has f x y) → Given (Of P) o → Tells f o
  tells-given k (is {d} h) = tells (k d.pen.latched d.pen.latch d.pen.list h)

-- one step, and then another
tells-bind : {b : Bool} {latch : ℕ} {f g : LatchEffect} (n : ℕ) (m : List ℕ) (x : Reading Drawing) (k : Drawing → Reading Drawing)
    → Tells b latch f (run_from n m x) → ((i : ℕ) (d : Drawing) → Tells d.pen.latched d.pen.latch g (run_from i m (k d)))
    → Tells b latch (join f g) (run_from n m (x >>= k))
tells-bind {b} {latch} {f} {g} n m x k t s = out t refl
  where
    joined : (f g : LatchEffect) (y : Bool) (z : ℕ) {o : Outcome Drawing} → Has b latch f y z → Tells y z g o → Tells b latch (join f g) o
    joined Kept g y z h t = rw (h.0, h.1) at t
    joined Unclear g y z h t = unclear
    joined (Latched w) Kept y z h (tells i) = tells {f = Latched w} (i.0 ∙ h.0, i.1 ∙ h.1)
    joined (Latched w) (Latched v) y z h (tells i) = tells {f = Latched v} i
    joined (Latched w) Unclear y z h t = unclear

    out : {f : LatchEffect} {o : Outcome Drawing} → Tells b latch f o → run_from n m x ≡ o → Tells b latch (join f g) (run_from n m (x >>= k))
    out (tells {f} {n = i} {d} h) e = rw (bind-given n m x k e) (joined f g d.pen.latched d.pen.latch h (s i d))
    out unclear e = unclear

-- ---- codes ----

-- codes in a run of memory: I, which holds after i words of a list, holds after those that each code takes
module _ (m : List ℕ) (σ : CodeSettings) (source : Source) (end : ℕ) (I : ℕ → Drawing → Type 0) (k : ℕ)
    (step : (n i code : ℕ) (d : Drawing) → i + takes σ.flag code ≤ k → I i d
    → Given (I (i + takes σ.flag code)) (run_from n m (examine σ source end code d)))
    (p : Pointer) (c : ℕ) (run : is_run σ.linear (length m) p.address c ≡ true) where
  codes-from : (left j n i : ℕ) (d : Drawing) → j + (left + 1) / 2 ≤ c → i + invoking σ.flag m (p.address / 2 + j) left ≤ k → I i d
      → Given (I (i + invoking σ.flag m (p.address / 2 + j) left)) (run_from n m (codes σ source end left (further σ.linear j p) d))
  unfolding codes word_codes each ◌>>=◌
  codes-from zero j n i d l t h = rw (invoking-none σ.flag m (p.address / 2 + j) 0 refl, add-zero i) (along (run-done n m d) (is h))
  codes-from (suc zero) j n i d l t h =
      let one = invoking-one σ.flag m (p.address / 2 + j) 1 refl in
      rw one (along (ask-word n m (further σ.linear j p) _ _ (run-fetch σ.linear m p.address c j run (omega arith)))
      (given-bind (n + 1) m _ _ (step (n + 1) i _ d (rw one at t) h) λ n d h. along (run-done n m d) (is h)))
  codes-from (suc (suc left)) j n i d l t h =
      let w : ℕ = get_or m (p.address / 2 + j) 0 in
      let x : ℕ = takes σ.flag (high w) in
      let y : ℕ = takes σ.flag (low w) in
      let next : p.address / 2 + j + 1 ≡ p.address / 2 + (j + 1) = omega arith in
      let more : invoking σ.flag m (p.address / 2 + j) (suc (suc left)) ≡ x + y + invoking σ.flag m (p.address / 2 + (j + 1)) left
      = invoking-more σ.flag m (p.address / 2 + j) (suc (suc left)) left (omega arith) ∙ rw next in
      let sum : i + (x + y + invoking σ.flag m (p.address / 2 + (j + 1)) left) ≡ i + x + y + invoking σ.flag m (p.address / 2 + (j + 1)) left = omega arith in
      rw (more, sum) (along (ask-word n m (further σ.linear j p) _ _ (run-fetch σ.linear m p.address c j run (omega arith)))
      (given-bind (n + 1) m _ _
      (given-bind (n + 1) m _ _ (step (n + 1) i (high w) d (omega arith) h)
      λ n d h. given-bind n m _ _ (step n (i + x) (low w) d (omega arith) h) λ n d h. along (run-done n m d) (is h))
      λ n d h. rw (ahead-next σ.linear j p.address, ← add-one j) (codes-from left (j + 1) n (i + x + y) d (omega arith) (omega arith) h)))

  codes-run : (left n : ℕ) (d : Drawing) → c ≡ (left + 1) / 2 → invoking σ.flag m (p.address / 2) left ≤ k → I 0 d
      → Given (I (invoking σ.flag m (p.address / 2) left)) (run_from n m (codes σ source end left p d))
  unfolding ahead
  codes-run left n d e t h =
      let at : p.address / 2 + 0 ≡ p.address / 2 = omega arith in
      rw (at, zero-add (invoking σ.flag m (p.address / 2) left)) at (codes-from left 0 n 0 d (omega arith) (rw at (omega arith)) h)

module _ (m : List ℕ) (σ : CodeSettings) (source : Source) (end : ℕ) (b : Bool) (latch : ℕ) where
  -- without a list no code takes a word
  abbrev Plain : Bool → ℕ → AttributeList → Type 0
  Plain x y u = Has b latch Kept x y × (u.present ≡ false)

  plain_step : (n code : ℕ) (d : Drawing) → Of Plain d → Given (Of Plain) (run_from n m (examine σ source end code d))
  plain_step n code d h =
      along (examine-latch n m σ source end code d (rw h.1 (off (invokes σ.flag code))))
      (is (character-of Plain σ.hidden source end d.pen.latch code d h))
    where
      off : (t : Bool) → t && false ≡ false
      off true = refl
      off false = refl

  -- with one, after i of its words
  module _ (list : Pointer) (k : ℕ) (run : is_run σ.linear (length m) list.address k ≡ true) where
    abbrev Listed : ℕ → Bool → ℕ → AttributeList → Type 0
    Listed i x y u = Has b latch (last_latched m (list.address / 2) i) x y × (u ≡ record { present = true; next = further σ.linear i list })

    listed-step : (n i code : ℕ) (d : Drawing) → i + takes σ.flag code ≤ k → Of (Listed i) d
        → Given (Of (Listed (i + takes σ.flag code))) (run_from n m (examine σ source end code d))
    unfolding taking last_latched
    listed-step n i code d l h = by (invokes σ.flag code) refl
      where
        w : ℕ
        w = get_or m (list.address / 2 + i) 0

        by : (t : Bool) → invokes σ.flag code ≡ t → Given (Of (Listed (i + takes σ.flag code))) (run_from n m (examine σ source end code d))
        by true e =
            let short : i < k = omega (arith, rw e at l) in
            along (examine-word n m σ source end code d w (rw (e, h.1)) (rw h.1 (run-fetch σ.linear m list.address k i run short)))
            (is (rw (e, add-one i) (character-of (Listed (suc i)) σ.hidden source end w code _
            (has_word b latch (latches w) w _ _ _ h.0, rw (h.1, ahead-next σ.linear i list.address)))))
        by false e =
            along (examine-latch n m σ source end code d (rw e))
            (is (rw (e, add-zero i) (character-of (Listed i) σ.hidden source end d.pen.latch code d h)))

-- ---- segments and rows ----
module _ (m : List ℕ) (σ : CodeSettings) (fill : FillMode) (no : fill.flag ≡ false) where
  fill-tells : (end n : ℕ) (d : Drawing) → Tells d.pen.latched d.pen.latch Kept (run_from n m (fill_to σ fill end d))
  fill-tells end n d =
      tells-given _ _ (λ x y u h. h) (fill-of (λ x y u. Has d.pen.latched d.pen.latch Kept x y) n m σ fill no end d (refl, refl))

  -- a step, and then a fill run
  filled-tells : {b : Bool} {latch : ℕ} {f : LatchEffect} (end n : ℕ) (x : Reading Drawing) → Tells b latch f (run_from n m x)
      → Tells b latch f (run_from n m (x >>= fill_to σ fill end))
  filled-tells {b} {latch} {f} end n x t = rw (join_kept f) at (tells-bind n m x (fill_to σ fill end) t (fill-tells end))

  segment-tells : (source : Source) (g : Segment) (n : ℕ) (d : Drawing)
      → Tells d.pen.latched d.pen.latch (over_segment σ m g) (run_from n m (segment σ fill source g d))
  unfolding segment over_segment taken last_latched ahead
  segment-tells source g n d =
      filled-tells end n _
      (if-cases (λ (f : LatchEffect). Tells b latch f drawn)
      (is_run σ.linear (length m) g.codes.address size && is_run σ.linear (length m) g.attributes.address (taken σ m g))
      (λ e. let r = both _ _ e in by (null g.attributes) refl r.0 r.1) (λ _. unclear))
    where
      b : Bool
      b = d.pen.latched

      latch : ℕ
      latch = d.pen.latch

      end : ℕ
      end = d.pen.column + width σ.hidden g

      size : ℕ
      size = (code_count g + 1) / 2

      count : ℕ
      count = invoking σ.flag m (g.codes.address / 2) (code_count g)

      drawn : Outcome Drawing
      drawn = run_from n m (codes σ source end (code_count g) g.codes (with_list (list_at g.attributes) d))

      by : (t : Bool) → null g.attributes ≡ t → is_run σ.linear (length m) g.codes.address size ≡ true
          → is_run σ.linear (length m) g.attributes.address (when t then 0 else count) ≡ true
          → Tells b latch (last_latched m (g.attributes.address / 2) (when t then 0 else count)) drawn
      by true e r s =
          tells-given b latch (λ x y u h. h.0)
          (codes-run m σ source end (λ _. Of (Plain m σ source end b latch)) count (λ n i code d _ h. plain_step m σ source end b latch n code d h) g.codes size r (code_count g) n _ refl (le_refl count) ((refl, refl), rw e))
      by false e r s =
          tells-given b latch (λ x y u h. h.0)
          (codes-run m σ source end (λ i. Of (Listed m σ source end b latch g.attributes count s i)) count (listed-step m σ source end b latch g.attributes count s) g.codes size r (code_count g) n _ refl (le_refl count) ((refl, refl), rw e))

  segments-tell : (source : Source) (gs : List Segment) (n : ℕ) (d : Drawing)
      → Tells d.pen.latched d.pen.latch (over_segments σ m gs) (run_from n m (each (segment σ fill source) gs d))
  unfolding over_segments each
  segments-tell source [] n d = rw (run-done n m d) (tells {f = Kept} (refl, refl))
  segments-tell source (g ∷ gs) n d = tells-bind n m _ _ (segment-tells source g n d) (segments-tell source gs)

  run-tells : (source : Source) (gs : List Segment) (end n : ℕ) (d : Drawing)
      → Tells d.pen.latched d.pen.latch (over_segments σ m gs) (run_from n m (segments_to σ fill source gs end d))
  unfolding segments_to
  run-tells source gs end n d = filled-tells end n _ (segments-tell source gs n d)

  row-tells : (o : Overlay) (gs : List Segment) (n : ℕ) (d : Drawing)
      → Tells d.pen.latched d.pen.latch (over_parts σ m o gs) (run_from n m (row_cells σ fill o gs d))
  unfolding over_parts row_cells
  row-tells none gs n d = run-tells Background gs 132 n d
  row-tells (over number first end ws) gs n d =
      rw join-assoc
      (tells-bind n m _ _ (run-tells Background _ first n d)
      λ n d₁. tells-bind n m _ _ (run-tells (Window number) ws end n (with_list no_list d₁))
      λ n d₂. run-tells Background _ 132 n (with_list d₁.pen.list d₂))

-- what is told of a row is what its drawing makes of the latch
module _ (σ : CodeSettings) (m : List ℕ) (fill : FillMode) (o : Overlay) (gs : List Segment) where
  pub row_ends : {r : LatchEffect} → r ≡ over_row σ m fill o gs → (r ≡ over_row σ m fill o gs) × AsDrawn σ m fill o gs r
  unfolding over_row
  row_ends e = (e, rw e (by fill.flag refl))
    where
      told : (latch : ℕ) (f : LatchEffect) {o : Outcome Drawing} → Tells false latch f o → or_else f (ending o) ≡ ending o
      told latch Kept (tells h) = rw h.0
      told latch (Latched w) (tells h) = rw (h.0, h.1)
      told latch Unclear t = refl

      by : (t : Bool) → fill.flag ≡ t → AsDrawn σ m fill o gs (when t then Unclear else over_parts σ m o gs)
      by true e n latch = refl
      by false e n latch = told latch (over_parts σ m o gs) (row-tells m σ fill e o gs n (blank latch))
