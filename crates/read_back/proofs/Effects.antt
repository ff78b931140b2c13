-- The effect of a row, and effects joined, are read back as they were: a refusal's number is one of the effect call's list, its row and its
-- addresses have 32 bits, and a word that became the latch has 16.
use mathlib.Core.Path.{◌≡◌, refl}
use mathlib.Core.Bool.{Bool, true, false, ◌&&◌, ◌||◌}
use mathlib.Core.List.{List, [], ◌∷◌, ◌++◌}
use Prim.Native.Nat.{ℕ, ◌≤◌}
use native.Mathlib.Omega.{arith}
use lib.Dec.{eqb, leb, lit≤}
use borrow.Author.Tests.{leb-true, eqb-true}
use Rattle.memory.specs.Word.{when◌then◌else◌, at}
use Rattle.memory.specs.declared.Fault.{Fault}
use Rattle.memory.specs.Reading.{Outcome, given, refused, refusal}
use Rattle.memory.proofs.ReadBounds.{Words, both, if-cases}
use Rattle.settings.specs.declared.Settings.{Settings}
use Rattle.state.specs.declared.Fields.{Fields}
use Rattle.state.specs.State.{state_of}
use Rattle.row.specs.Row.{Row, row}
use Rattle.codes.specs.Attribute.{ignores}
use Rattle.joining.specs.declared.Part.{Part}
use Rattle.joining.specs.declared.Part.TheVariants.{Keep, Set, Refuse}
use Rattle.joining.specs.declared.Effect.{Effect}
use Rattle.joining.specs.Join.{part_for, set_then, join_part, join}
use Rattle.effect.specs.Effect.{part_of, latch_with, outcome_for, effect_call}
use Rattle.numbers.specs.Places.{any}
use Rattle.effects.specs.EffectNumbers.{effect_limits, of_effect}
use Rattle.effects.proofs.EffectAgain.{PartFits}
use Rattle.refusals.specs.Refusals.{has, within, of_part}
use Rattle.refusals.specs.Refusals as Refusals
use Rattle.refusals.proofs.Told.{effect-told}
use Rattle.blame.proofs.Comes.{comes-refused}
use Rattle.read_back.proofs.Small.{SmallFault}
use Rattle.read_back.proofs.Rows.{FieldsFit, row_keeps}
use Rattle.read_back.proofs.States.{row_fits, from-latch}

-- ---- numbers of a list ----

abbrev pub all : (ℕ → Bool) → List ℕ → Bool
all test [] = true
all test (n ∷ ns) = test n && all test ns

-- a test that each number of a list passes is passed by a number that the list has
pub passes : (test : ℕ → Bool) (n : ℕ) (ns : List ℕ) → has n ns ≡ true → all test ns ≡ true → test n ≡ true
passes test n [] h k = let q : ◌≡◌ {A = ℕ} 0 1 = cc in absurd (omega arith)
passes test n (x ∷ ns) h k =
    let both-pass = both (test x) (all test ns) k in
    by (eqb n x) refl both-pass.0 (λ g. passes test n ns g both-pass.1) h
  where
    by : (t : Bool) → eqb n x ≡ t → test x ≡ true → (has n ns ≡ true → test n ≡ true) → t || has n ns ≡ true → test n ≡ true
    by true e now rest g = rw (eqb-true n x e) now
    by false e now rest g = rest g

-- a number that the effect call can answer with is an effect's, and within its limit
abbrev limit : ℕ
limit = at effect_limits 0

listed : (n : ℕ) → has n Refusals.effect_numbers ≡ true → (of_effect n ≡ true) × (n ≤ limit)
listed n h =
    let k = both (of_effect n) (leb n limit) (passes (λ n. of_effect n && leb n limit) n Refusals.effect_numbers h refl) in
    (k.0, leb-true n limit k.1)

-- ---- one part ----

-- where the pointer of a refusal begins is told of a 7 alone
told-from : (t : Bool) (from : ℕ) → from ≤ any → ((when t then from else 0) ≤ any) × (t || eqb (when t then from else 0) 0 ≡ true)
told-from true from h = (h, refl)
told-from false from h = (lit≤ tt, refl)

refusal-fits : (row : ℕ) (x : Fault) → row ≤ any → SmallFault x → has x.number Refusals.effect_numbers ≡ true → PartFits (Refuse (refusal row x))
refusal-fits row x h s k =
    let n = listed x.number k in
    let f = told-from (eqb x.number 7) x.from s.1 in
    (n.0, n.1, h, s.0, f.0, f.1)

module _ (m : List ℕ) (b : Words m) (σ : Settings) (f : Fields) (h : FieldsFit f) where
  part-fits : (ignore : Bool) (o : Outcome Row) → outcome_for σ m f ignore ≡ o → within (of_part (part_of f o)) Refusals.effect_numbers ≡ true
      → PartFits (part_of f o)
  unfolding outcome_for
  part-fits ignore (given n r) e k =
      if-cases PartFits r.drawing.pen.latched
      (λ _. omega (arith, (row_fits m b σ (state_of (latch_with ignore) f) (from-latch m b σ f h ignore) e).latch)) (λ _. tt)
  part-fits ignore (refused x) e k =
      refusal-fits f.row x h.row (comes-refused m SmallFault 0 (row_keeps m b σ (state_of (latch_with ignore) f) (from-latch m b σ f h ignore)) e)
      (both (has x.number Refusals.effect_numbers) true k).0

  -- of a list's two parts
  two : (xs ys ns : List ℕ) → within (xs ++ ys) ns ≡ true → (within xs ns ≡ true) × (within ys ns ≡ true)
  two [] ys ns e = (refl, e)
  two (x ∷ xs) ys ns e =
      let k = both (has x ns) (within (xs ++ ys) ns) e in
      let r = two xs ys ns k.1 in
      (rw (k.0, r.0), r.1)

  pub effect-fits : PartFits (effect_call σ m f).effect.clear × PartFits (effect_call σ m f).effect.set
  unfolding effect_call
  effect-fits =
      let clear = outcome_for σ m f false in
      let set = outcome_for σ m f true in
      let k = two (of_part (part_of f clear)) (of_part (part_of f set)) Refusals.effect_numbers (effect-told σ m f) in
      (part-fits false clear refl k.0, part-fits true set refl k.1)

-- ---- joined ----

abbrev pub EffectFits : Effect → Type 0
EffectFits e = PartFits e.clear × PartFits e.set

for-fits : (e : Effect) → EffectFits e → (ignore : Bool) → PartFits (part_for ignore e)
for-fits e h false = h.0
for-fits e h true = h.1

then-fits : (w : ℕ) (p : Part) → w ≤ 65535 → PartFits p → PartFits (set_then w p)
then-fits w Keep h k = h
then-fits w (Set v) h k = k
then-fits w (Refuse r) h k = k

part-joined : (p : Part) (ignore : Bool) (e : Effect) → PartFits p → EffectFits e → PartFits (join_part p ignore e)
part-joined Keep ignore e h k = for-fits e k ignore
part-joined (Set w) ignore e h k = then-fits w (part_for (ignores w) e) h (for-fits e k (ignores w))
part-joined (Refuse r) ignore e h k = h

pub join-fits : (d e : Effect) → EffectFits d → EffectFits e → EffectFits (join d e)
join-fits d e h k = (part-joined d.clear false e h.0 k, part-joined d.set true e h.1 k)
