-- The cells that codes and fill runs make: where a segment ends in fill, and how the row grows.
use mathlib.Core.Path.{◌≡◌, refl, ap, sym, ◌∙◌}
use mathlib.Core.List.{List, [], ◌∷◌, ◌++◌, append-nil}
use mathlib.Core.Bool.{Bool, true, false, ◌&&◌, ◌||◌, not}
use Prim.Native.Nat.{ℕ, zero, suc, ◌+◌, ◌-◌, ◌/◌, ◌<◌, ◌≤◌}
use native.Mathlib.Omega.{arith}
use native.Mathlib.Nat.{le_refl}
use lib.ListN.{length, get_or, replicate, length-append, get_or-append}
use lib.Seq.{get_or-append_seam}
use lib.Dec.{ltb}
use borrow.Author.Tests.{ltb-true, ltb-false}
use Rattle.memory.specs.Word.{when◌then◌else◌, high, low}
use Rattle.memory.specs.declared.Pointer.{Pointer}
use Rattle.memory.specs.Reading.{done, refuse, ◌>>=◌, each}
use Rattle.memory.specs.Address.{onward}
use Rattle.memory.proofs.ReadBounds.{if-cases, both}
use Rattle.memory.proofs.Gives.{Gives, bind, if-gives}
use Rattle.blocks.specs.declared.FillMode.{FillMode}
use Rattle.codes.specs.declared.CodeSettings.{CodeSettings}
use Rattle.codes.specs.declared.Source.{Source}
use Rattle.codes.specs.Attribute.{Fill, invokes, ignores, latches, cell, source_number, source_of}
use Rattle.codes.specs.Codes.{Drawing, drawing, taking, put, character, examine, word_codes, codes}
use Rattle.codes.proofs.CellParts.{source-back}
use Rattle.cells.specs.Cells.{filled, unlatched, fill_by_word, fill_to}
use Rattle.addresses.specs.Addresses.{taken, list_after, fills}
use Rattle.addresses.proofs.Trace.{Trace, dones, asks, no-refusal}

-- more cells, the first ones as they were
pub record Grown (xs ys : List ℕ) : Type 0 where
  pub longer : length xs ≤ length ys
  pub same : (i : ℕ) → i < length xs → get_or ys i 0 ≡ get_or xs i 0

pub grown-refl : (xs : List ℕ) → Grown xs xs
grown-refl xs = record { longer = le_refl (length xs); same = λ i h. refl }

pub grown-append : {xs ys : List ℕ} (zs : List ℕ) → Grown xs ys → Grown xs (ys ++ zs)
grown-append {xs} {ys} zs g = record {
  longer = omega (arith, g.longer, length-append ys zs);
  same = λ i h. get_or-append ys zs 0 i (omega (arith, g.longer)) ∙ g.same i h;
}

-- codes from the column c on, the row as it was at first: where a code became a character, the last cell is none of fill
pub record Ink (c end : ℕ) (xs : List ℕ) (d : Drawing) : Type 0 where
  pub even : length d.cells ≡ d.pen.column
  pub within : d.pen.column ≤ end
  pub since : c ≤ d.pen.column
  pub last : c < d.pen.column → source_of (get_or d.cells (d.pen.column - 1) 0) ≡ 0 → ⊥
  pub grown : Grown xs d.cells

module _ (σ : CodeSettings) (source : Source) (ink : source_number source ≡ 0 → ⊥) (c end : ℕ) (xs : List ℕ) where
  put-ink : (attribute code : ℕ) (d : Drawing) → code < 256 → d.pen.column < end → Ink c end xs d → Ink c end xs (put 1 (cell source attribute code) d)
  unfolding put
  put-ink attribute code d l r h =
      let value = cell source attribute code in
      let at : d.pen.column + 1 - 1 ≡ length d.cells = omega (arith, h.even) in
      let is : get_or (d.cells ++ (value ∷ [])) (d.pen.column + 1 - 1) 0 ≡ value = rw at (get_or-append_seam d.cells value [] 0) in
      record {
        even = length-append d.cells (value ∷ []) ∙ omega (arith, h.even);
        within = omega arith;
        since = omega (arith, h.since);
        last = λ _ e. ink (sym (source-back source attribute code l) ∙ ap source_of (sym is) ∙ e);
        grown = grown-append (value ∷ []) h.grown;
      }

  character-ink : (attribute code : ℕ) (d : Drawing) → code < 256 → Ink c end xs d → Ink c end xs (character σ.hidden source end attribute code d)
  unfolding character
  character-ink attribute code d l h =
      if-cases (Ink c end xs) ((σ.hidden || not (ignores attribute)) && ltb d.pen.column end)
      (λ e. put-ink attribute code d l (ltb-true d.pen.column end (both (σ.hidden || not (ignores attribute)) (ltb d.pen.column end) e).1) h) (λ _. h)

  -- a word that is taken changes none of this
  taking-ink : (w : ℕ) (d : Drawing) → Ink c end xs d → Ink c end xs (drawing (taking σ.linear w d.pen) d.cells)
  unfolding taking
  taking-ink w d h = record { even = h.even; within = h.within; since = h.since; last = h.last; grown = h.grown }

  examine-ink : (code : ℕ) → code < 256 → (d : Drawing) → Ink c end xs d → Gives (Ink c end xs) (examine σ source end code d)
  unfolding examine ◌>>=◌
  examine-ink code l d h =
      if-gives (invokes σ.flag code && d.pen.list.present)
      (λ _. Gives.asks λ w _. Gives.dones (character-ink w code (drawing (taking σ.linear w d.pen) d.cells) l (taking-ink w d h)))
      (λ _. Gives.dones (character-ink d.pen.latch code d l h))

  pub codes-ink : (n : ℕ) (p : Pointer) (d : Drawing) → Ink c end xs d → Gives (Ink c end xs) (codes σ source end n p d)
  unfolding codes word_codes each ◌>>=◌
  codes-ink zero p d h = Gives.dones h
  codes-ink (suc zero) p d h = Gives.asks λ w l. bind (examine-ink (high w) (omega arith) d h) λ d₁ h₁. Gives.dones h₁
  codes-ink (suc (suc n)) p d h =
      Gives.asks λ w l.
      bind
      (bind (examine-ink (high w) (omega arith) d h) λ d₁ h₁. bind (examine-ink (low w) (omega arith) d₁ h₁) λ d₂ h₂. Gives.dones h₂)
      λ d₁ h₁. codes-ink n (onward σ.linear p) d₁ h₁

-- a fill run: its word, the list after it, and its cells
pub record Filled (linear : Bool) (fill : FillMode) (end : ℕ) (d : Drawing) (xs : List ℕ) (e : Drawing) : Type 0 where
  pub addresses : xs ≡ taken (fills fill d.pen.list (ltb d.pen.column end)) d.pen.list
  pub list : e.pen.list ≡ list_after linear (fills fill d.pen.list (ltb d.pen.column end)) d.pen.list
  pub value : ℕ
  pub is-fill : source_of value ≡ 0
  pub cells : e.cells ≡ d.cells ++ replicate (end - d.pen.column) value
  pub column : d.pen.column ≤ end → e.pen.column ≡ end

module _ (m : List ℕ) (σ : CodeSettings) (fill : FillMode) (byte : fill.code < 256) (end : ℕ) (d : Drawing) where
  fill-source : (latch : ℕ) → source_of (cell Fill latch fill.code) ≡ 0
  unfolding source_number
  fill-source latch = source-back Fill latch fill.code byte

  -- the cells of a run
  run-cells : (latch : ℕ) (e : Drawing) → e.pen.column ≡ d.pen.column → e.cells ≡ d.cells → e.pen.latch ≡ latch
      → (filled fill end e).cells ≡ d.cells ++ replicate (end - d.pen.column) (cell Fill latch fill.code)
  unfolding filled put
  run-cells latch e c k l = rw (c, k, l)

  run-column : (e : Drawing) → e.pen.column ≡ d.pen.column → d.pen.column ≤ end → (filled fill end e).pen.column ≡ end
  unfolding filled put
  run-column e c h = omega (arith, c)

  run-list : (e : Drawing) → (filled fill end e).pen.list ≡ e.pen.list
  unfolding filled put
  run-list e = refl

  by_word : {xs : List ℕ} {e : Drawing} → ltb d.pen.column end ≡ true → fill.flag && d.pen.list.present ≡ true
      → Trace m (fill_by_word σ fill end d) xs e → Filled σ.linear fill end d xs e
  unfolding fill_by_word ◌>>=◌ taking
  by_word h b (asks t) = last (latches w) t
    where
      w : ℕ
      w = get_or m (d.pen.list.next.address / 2) 0

      last : (v : Bool) {ys : List ℕ} {e : Drawing}
          → Trace m (when v then done (filled fill end (drawing (taking σ.linear w d.pen) d.cells)) else refuse (unlatched d.pen.list.next)) ys e
          → Filled σ.linear fill end d (d.pen.list.next.address ∷ ys) e
      last true dones =
          let e = drawing (taking σ.linear w d.pen) d.cells in
          record {
            addresses = rw (b, h);
            list = rw (b, h) (run-list e);
            value = cell Fill e.pen.latch fill.code;
            is-fill = fill-source e.pen.latch;
            cells = run-cells e.pen.latch e refl refl refl;
            column = run-column e refl;
          }
      last false t = absurd (no-refusal t)

  plainly : {xs : List ℕ} {e : Drawing} (b : Bool) → ltb d.pen.column end ≡ true → fill.flag && d.pen.list.present ≡ b
      → Trace m (when b then fill_by_word σ fill end d else done (filled fill end d)) xs e → Filled σ.linear fill end d xs e
  plainly true h b t = by_word h b t
  plainly false h b dones = record {
    addresses = rw b;
    list = rw b (run-list d);
    value = cell Fill d.pen.latch fill.code;
    is-fill = fill-source d.pen.latch;
    cells = run-cells d.pen.latch d refl refl refl;
    column = run-column d refl;
  }

  runs : {xs : List ℕ} {e : Drawing} (r : Bool) → ltb d.pen.column end ≡ r
      → Trace m (when r then (when fill.flag && d.pen.list.present then fill_by_word σ fill end d else done (filled fill end d)) else done d) xs e
      → Filled σ.linear fill end d xs e
  runs true h t = plainly (fill.flag && d.pen.list.present) h refl t
  runs false h dones =
      let none : end - d.pen.column ≡ 0 = omega (arith, ltb-false d.pen.column end h) in
      record {
        addresses = rw (h, no_run (fill.flag && d.pen.list.present));
        list = rw (h, no_run (fill.flag && d.pen.list.present));
        value = cell Fill 0 fill.code;
        is-fill = fill-source 0;
        cells = rw none (sym (append-nil d.cells));
        column = λ l. omega (arith, ltb-false d.pen.column end h);
      }
    where
      no_run : (b : Bool) → b && false ≡ false
      no_run true = refl
      no_run false = refl

  pub fill-asked : {xs : List ℕ} {e : Drawing} → Trace m (fill_to σ fill end d) xs e → Filled σ.linear fill end d xs e
  unfolding fill_to
  fill-asked t = runs (ltb d.pen.column end) refl t
