-- The codes of a segment ask for the addresses of the walk, and leave the list in use that it tells.
use mathlib.Core.Path.{◌≡◌, refl, ap, sym, ◌∙◌}
use mathlib.Core.List.{List, ◌∷◌, ◌++◌}
use mathlib.Core.Bool.{Bool, true, false, ◌&&◌, ◌||◌, not}
use Prim.Native.Nat.{ℕ, zero, suc}
use lib.Dec.{ltb}
use Rattle.memory.specs.Word.{when◌then◌else◌, high, low}
use Rattle.memory.specs.declared.Pointer.{Pointer}
use Rattle.memory.specs.Reading.{Reading, done, word, ◌>>=◌, each}
use Rattle.memory.specs.Address.{onward}
use Rattle.memory.proofs.ReadBounds.{if-cases}
use Rattle.codes.specs.declared.CodeSettings.{CodeSettings}
use Rattle.codes.specs.declared.AttributeList.{AttributeList}
use Rattle.codes.specs.declared.Source.{Source}
use Rattle.codes.specs.Attribute.{ignores}
use Rattle.codes.specs.Codes.{Drawing, drawing, taking, put, character, examine, word_codes, codes}
use Rattle.addresses.specs.Addresses.{word_in, taken, list_after, takes, code_after, pair_after, code_addresses, code_list}
use Rattle.addresses.proofs.Trace.{Trace, dones, asks, parts, joined, alone, trace-done}

-- a character leaves the list as it was
character-list : (hidden : Bool) (source : Source) (end attribute code : ℕ) (d : Drawing)
    → (character hidden source end attribute code d).pen.list ≡ d.pen.list
unfolding character put
character-list hidden source end attribute code d =
    if-cases (λ (e : Drawing). e.pen.list ≡ d.pen.list) ((hidden || not (ignores attribute)) && ltb d.pen.column end) (λ _. refl) (λ _. refl)

-- addresses, and the list in use after them
pub record Takes (xs : List ℕ) (l : AttributeList) (ys : List ℕ) (k : AttributeList) : Type 0 where
  pub addresses : xs ≡ ys
  pub list : l ≡ k

module _ (σ : CodeSettings) (m : List ℕ) (source : Source) (end : ℕ) where
  -- one code
  abbrev by-test : ℕ → Drawing → Bool → Reading Drawing
  by-test code d b =
      when b
      then (word d.pen.list.next >>= λ w. done (character σ.hidden source end w code (drawing (taking σ.linear w d.pen) d.cells)))
      else done (character σ.hidden source end d.pen.latch code d)

  examined : (code : ℕ) (d : Drawing) (b : Bool) {xs : List ℕ} {e : Drawing} → Trace m (by-test code d b) xs e
      → Takes xs e.pen.list (taken b d.pen.list) (list_after σ.linear b d.pen.list)
  unfolding ◌>>=◌ taking
  examined code d true (asks t) =
      let w = word_in m d.pen.list.next.address in
      let ended = trace-done t in
      record {
        addresses = ap (◌∷◌ d.pen.list.next.address) ended.0;
        list = ap (λ (x : Drawing). x.pen.list) (sym ended.1) ∙ character-list σ.hidden source end w code (drawing (taking σ.linear w d.pen) d.cells);
      }
  examined code d false dones = record { addresses = refl; list = character-list σ.hidden source end d.pen.latch code d }

  examine-asked : (code : ℕ) (d : Drawing) {xs : List ℕ} {e : Drawing} → Trace m (examine σ source end code d) xs e
      → Takes xs e.pen.list (taken (takes σ d.pen.list code) d.pen.list) (code_after σ d.pen.list code)
  unfolding examine
  examine-asked code d t = examined code d (takes σ d.pen.list code) t

  -- a word's one code, and its two
  one-asked : (w : ℕ) (d : Drawing) {xs : List ℕ} {e : Drawing} → Trace m (word_codes σ source end 1 w d) xs e
      → Takes xs e.pen.list (taken (takes σ d.pen.list (high w)) d.pen.list) (code_after σ d.pen.list (high w))
  unfolding word_codes each
  one-asked w d t =
      let r = parts (examine σ source end (high w) d) _ t in
      let f = examine-asked (high w) d r.one in
      let ended = trace-done r.two in
      record { addresses = alone r.sum f.addresses ended.0; list = ap (λ (x : Drawing). x.pen.list) (sym ended.1) ∙ f.list }

  two-asked : (w : ℕ) (d : Drawing) {xs : List ℕ} {e : Drawing} → Trace m (word_codes σ source end 2 w d) xs e
      → Takes xs e.pen.list
      (taken (takes σ d.pen.list (high w)) d.pen.list ++ taken (takes σ (code_after σ d.pen.list (high w)) (low w)) (code_after σ d.pen.list (high w)))
      (pair_after σ d.pen.list w)
  unfolding word_codes each
  two-asked w d t =
      let r = parts (examine σ source end (high w) d) _ t in
      let f = examine-asked (high w) d r.one in
      let s = parts (examine σ source end (low w) r.result) _ r.two in
      let g = examine-asked (low w) r.result s.one in
      let ended = trace-done s.two in
      let second = alone s.sum (rw f.list at g.addresses) ended.0 in
      record {
        addresses = joined r.sum f.addresses second;
        list = ap (λ (x : Drawing). x.pen.list) (sym ended.1) ∙ (rw f.list at g.list);
      }

  pub codes-asked : (n : ℕ) (p : Pointer) (d : Drawing) {xs : List ℕ} {e : Drawing} → Trace m (codes σ source end n p d) xs e
      → Takes xs e.pen.list (code_addresses σ m n p d.pen.list) (code_list σ m n p d.pen.list)
  unfolding codes code_addresses code_list ◌>>=◌
  codes-asked zero p d dones = record { addresses = refl; list = refl }
  codes-asked (suc zero) p d (asks t) =
      let f = one-asked (word_in m p.address) d t in
      record { addresses = ap (◌∷◌ p.address) f.addresses; list = f.list }
  codes-asked (suc (suc n)) p d (asks t) =
      let w = word_in m p.address in
      let r = parts (word_codes σ source end 2 w d) (codes σ source end n (onward σ.linear p)) t in
      let f = two-asked w d r.one in
      let g = codes-asked n (onward σ.linear p) r.result r.two in
      let rest = rw f.list at g.addresses in
      record { addresses = ap (◌∷◌ p.address) (joined r.sum f.addresses rest); list = rw f.list at g.list }
