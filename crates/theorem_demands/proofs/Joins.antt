-- Effects over slices: what is read from twelve numbers is written back as these twelve, so joined slices are the joined effects'.
use Rattle.std.proofs.Common.{Option, Some, None}
use mathlib.Core.Path.{◌≡◌, refl, sym, ap, ◌∙◌}
use mathlib.Core.Bool.{Bool, true, false, ◌&&◌, ◌||◌}
use mathlib.Core.List.{List, [], ◌∷◌}
use Prim.Native.Nat.{ℕ, ◌≤◌}
use native.Mathlib.Omega.{arith}
use lib.ListN.{length}
use lib.Dec.{eqb}
use borrow.Author.Tests.{eqb-true, eqb-false}
use Rattle.memory.specs.Word.{when◌then◌else◌, at}
use Rattle.memory.proofs.ReadBounds.{both, if-cases}
use Rattle.joining.specs.declared.Part.{Part}
use Rattle.joining.specs.declared.Part.TheVariants.{Keep, Set, Refuse}
use Rattle.joining.specs.declared.Effect.{Effect}
use Rattle.joining.specs.Join.{empty, join}
use Rattle.joining.proofs.Joining.{join-assoc, join-empty}
use Rattle.numbers.specs.Places.{within, any, Below}
use Rattle.numbers.specs.Decode.{yes}
use Rattle.numbers.proofs.PlaceLaws.{all-within}
use Rattle.answers.specs.AfterCall.{Answered, answered}
use Rattle.effects.specs.EffectNumbers.{effect_limits, part_at, effect_at, of_effect, part_written, effect_written, effect_in, part_numbers, effect_numbers}
use Rattle.effects.proofs.EffectAgain.{PartFits, effect-again}
use Rattle.read_back.proofs.Effects.{EffectFits, join-fits}
use Rattle.calls_alone.specs.DemandCalls.{no_effect}
use Rattle.thagaduvin_effect.specs.EffectCalls.{join_from, join_with, host_join}
use Rattle.theorem_demands.specs.Demands.{IsEffect, Room}

-- ---- a part, from its six numbers and back ----

pub record Back (number row address from sets word : ℕ) (p : Part) : Type 0 where
  pub numbered : (part_numbers p).number ≡ number
  pub in_row : (part_numbers p).row ≡ row
  pub told : (part_numbers p).address ≡ address
  pub begins : (part_numbers p).from ≡ from
  pub setting : (part_numbers p).sets ≡ sets
  pub becomes : (part_numbers p).word ≡ word
  pub fits : PartFits p

-- a part that keeps or sets: what it does not use is 0
plain : (row address from sets word : ℕ) → sets ≤ 1 → word ≤ 65535 → eqb row 0 && eqb address 0 && eqb from 0 && (yes sets || eqb word 0) ≡ true
    → Back 0 row address from sets word (when yes sets then Set word else Keep)
plain row address from sets word s w h =
    let a = both (eqb row 0 && eqb address 0 && eqb from 0) (yes sets || eqb word 0) h in
    let b = both (eqb row 0 && eqb address 0) (eqb from 0) a.0 in
    let c = both (eqb row 0) (eqb address 0) b.0 in
    rw (eqb-true row 0 c.0, eqb-true address 0 c.1, eqb-true from 0 b.1) (by (yes sets) refl a.1)
  where
    by : (t : Bool) → yes sets ≡ t → t || eqb word 0 ≡ true → Back 0 0 0 0 sets word (when t then Set word else Keep)
    by true e k = rw (eqb-true sets 1 e) (record { numbered = refl; in_row = refl; told = refl; begins = refl; setting = refl; becomes = refl; fits = w })
    by false e k =
        let none : sets ≡ 0 = omega (arith, s, eqb-false sets 1 e) in
        rw (none, eqb-true word 0 k) (record { numbered = refl; in_row = refl; told = refl; begins = refl; setting = refl; becomes = refl; fits = tt })

-- a part that refuses
refusing : (number row address from sets word : ℕ) → number ≤ 17 → row ≤ any → address ≤ any → from ≤ any
    → of_effect number && (eqb number 7 || eqb from 0) && eqb sets 0 && eqb word 0 ≡ true
    → Back number row address from sets word (Refuse (record { number = number; row = row; address = address; from = from }))
refusing number row address from sets word n r a f h =
    let x = both (of_effect number && (eqb number 7 || eqb from 0) && eqb sets 0) (eqb word 0) h in
    let y = both (of_effect number && (eqb number 7 || eqb from 0)) (eqb sets 0) x.0 in
    let z = both (of_effect number) (eqb number 7 || eqb from 0) y.0 in
    rw (eqb-true sets 0 y.1, eqb-true word 0 x.1) (record { numbered = refl; in_row = refl; told = refl; begins = refl; setting = refl; becomes = refl; fits = (z.0, n, r, a, f, z.1) })

part-back : (number row address from sets word : ℕ) → number ≤ 17 → row ≤ any → address ≤ any → from ≤ any → sets ≤ 1 → word ≤ 65535
    → part_written number row address from sets word ≡ true → Back number row address from sets word (part_at number row address from sets word)
part-back number row address from sets word n r a f s w h = by (eqb number 0) refl h
  where
    by : (t : Bool) → eqb number 0 ≡ t
        → (when t then eqb row 0 && eqb address 0 && eqb from 0 && (yes sets || eqb word 0) else of_effect number && (eqb number 7 || eqb from 0) && eqb sets 0 && eqb word 0) ≡ true
        → Back number row address from sets word
        (when t then (when yes sets then Set word else Keep) else Refuse (record { number = number; row = row; address = address; from = from }))
    by true e k = rw (eqb-true number 0 e) (plain row address from sets word s w k)
    by false e k = refusing number row address from sets word n r a f k

-- ---- twelve numbers ----

twelve : (xs : List ℕ) → length xs ≡ 12
    → at xs 0 ∷ at xs 1 ∷ at xs 2 ∷ at xs 3 ∷ at xs 4 ∷ at xs 5 ∷ at xs 6 ∷ at xs 7 ∷ at xs 8 ∷ at xs 9 ∷ at xs 10 ∷ at xs 11 ∷ [] ≡ xs
twelve (a ∷ b ∷ c ∷ d ∷ e ∷ f ∷ g ∷ h ∷ i ∷ j ∷ k ∷ l ∷ []) q = refl
twelve (a ∷ b ∷ c ∷ d ∷ e ∷ f ∷ g ∷ h ∷ i ∷ j ∷ k ∷ l ∷ m ∷ xs) q = absurd (omega (arith, q))
twelve [] q = absurd (omega (arith, q))
twelve (a ∷ []) q = absurd (omega (arith, q))
twelve (a ∷ b ∷ []) q = absurd (omega (arith, q))
twelve (a ∷ b ∷ c ∷ []) q = absurd (omega (arith, q))
twelve (a ∷ b ∷ c ∷ d ∷ []) q = absurd (omega (arith, q))
twelve (a ∷ b ∷ c ∷ d ∷ e ∷ []) q = absurd (omega (arith, q))
twelve (a ∷ b ∷ c ∷ d ∷ e ∷ f ∷ []) q = absurd (omega (arith, q))
twelve (a ∷ b ∷ c ∷ d ∷ e ∷ f ∷ g ∷ []) q = absurd (omega (arith, q))
twelve (a ∷ b ∷ c ∷ d ∷ e ∷ f ∷ g ∷ h ∷ []) q = absurd (omega (arith, q))
twelve (a ∷ b ∷ c ∷ d ∷ e ∷ f ∷ g ∷ h ∷ i ∷ []) q = absurd (omega (arith, q))
twelve (a ∷ b ∷ c ∷ d ∷ e ∷ f ∷ g ∷ h ∷ i ∷ j ∷ []) q = absurd (omega (arith, q))
twelve (a ∷ b ∷ c ∷ d ∷ e ∷ f ∷ g ∷ h ∷ i ∷ j ∷ k ∷ []) q = absurd (omega (arith, q))

-- what is read from a slice fits, and is written as that slice
abbrev Right : List ℕ → Option Effect → Type 0
Right xs (Some e) = (effect_numbers e ≡ xs) × EffectFits e
Right xs None = Unit {0}

abbrev clear : List ℕ → Bool
clear xs = part_written (at xs 0) (at xs 1) (at xs 2) (at xs 3) (at xs 4) (at xs 5)

abbrev set : List ℕ → Bool
set xs = part_written (at xs 6) (at xs 7) (at xs 8) (at xs 9) (at xs 10) (at xs 11)

right : (xs : List ℕ) → Right xs (effect_in xs)
unfolding effect_in effect_written effect_at effect_numbers
right xs =
    if-cases (Right xs) (within effect_limits xs)
    (λ w. if-cases (Right xs) (clear xs && set xs) (λ h. by (all-within effect_limits xs w) (both (clear xs) (set xs) h)) (λ _. tt)) (λ _. tt)
  where
    by : (length xs ≡ 12) × Below 0 effect_limits xs → (clear xs ≡ true) × (set xs ≡ true) → Right xs (Some (effect_at xs))
    by small h =
        let c = part-back (at xs 0) (at xs 1) (at xs 2) (at xs 3) (at xs 4) (at xs 5)
        (omega (arith, small)) (omega (arith, small)) (omega (arith, small)) (omega (arith, small)) (omega (arith, small)) (omega (arith, small)) h.0 in
        let s = part-back (at xs 6) (at xs 7) (at xs 8) (at xs 9) (at xs 10) (at xs 11)
        (omega (arith, small)) (omega (arith, small)) (omega (arith, small)) (omega (arith, small)) (omega (arith, small)) (omega (arith, small)) h.1 in (
          rw
              (c.numbered, c.in_row, c.told, c.begins, c.setting, c.becomes, s.numbered, s.in_row, s.told, s.begins, s.setting, s.becomes)
              (twelve xs small.0),
          (c.fits, s.fits),
        )

-- ---- slices that the calls take ----

pub record Holds (xs : List ℕ) : Type 0 where
  pub effect : Effect
  pub fits : EffectFits effect
  pub is : effect_numbers effect ≡ xs

no-effect : effect_numbers empty ≡ no_effect
unfolding effect_numbers
no-effect = refl

-- a join of status 0 read both
abbrev joins : Option Effect → Option Effect → Answered
joins (Some d) e = join_from no_effect d e
joins None e = answered 255 no_effect

by_read : (xs : List ℕ) (d e : Option Effect) → Right xs e → (joins d e).status ≡ 0 → Holds xs
by_read xs None e r h = absurd (omega (arith, h))
by_read xs (Some d) None r h = absurd (omega (arith, h))
by_read xs (Some d) (Some e) r h = record { effect = e; fits = r.1; is = r.0 }

same-join : (xs : List ℕ) (d : Option Effect) → join_with xs no_effect d ≡ joins d (effect_in xs)
same-join xs (Some d) = refl
same-join xs None = refl

holds : (xs : List ℕ) → IsEffect xs → Holds xs
unfolding host_join
holds xs h = by_read xs (effect_in no_effect) (effect_in xs) (right xs) (ap (λ (x : Answered). x.status) (sym (same-join xs (effect_in no_effect))) ∙ h)

join-call : (d e : Effect) (p : List ℕ) → EffectFits d → EffectFits e → Room p
    → host_join (effect_numbers d) (effect_numbers e) p ≡ answered 0 (effect_numbers (join d e))
unfolding host_join
join-call d e p h k l = rw (l, effect-again d h.0 h.1, effect-again e k.0 k.1)

grouped : (x y z : Effect) → EffectFits x → EffectFits y → EffectFits z → (p q r s : List ℕ) → Room p → Room q → Room r → Room s
    → host_join (host_join (effect_numbers x) (effect_numbers y) p).answer (effect_numbers z) q
    ≡ host_join (effect_numbers x) (host_join (effect_numbers y) (effect_numbers z) r).answer s
grouped x y z fx fy fz p q r s lp lq lr ls =
    let left = join-call (join x y) z q (join-fits x y fx fy) fz lq in
    let right = join-call x (join y z) s fx (join-fits y z fy fz) ls in
    rw (join-call x y p fx fy lp, join-call y z r fy fz lr)
    (left ∙ ap (λ (e : Effect). answered 0 (effect_numbers e)) (join-assoc x y z) ∙ sym right)

pub grouping : (a b c : List ℕ) → IsEffect a → IsEffect b → IsEffect c → (p q r s : List ℕ) → Room p → Room q → Room r → Room s
    → host_join (host_join a b p).answer c q ≡ host_join a (host_join b c r).answer s
grouping a b c ha hb hc p q r s lp lq lr ls =
    let x = holds a ha in
    let y = holds b hb in
    let z = holds c hc in
    rw (x.is, y.is, z.is) at (grouped x.effect y.effect z.effect x.fits y.fits z.fits p q r s lp lq lr ls)

pub empty-first : (e : List ℕ) → IsEffect e → (p : List ℕ) → Room p → host_join no_effect e p ≡ answered 0 e
empty-first e h p l =
    let x = holds e h in
    rw (x.is, no-effect) at (join-call empty x.effect p (tt, tt) x.fits l)

pub empty-last : (e : List ℕ) → IsEffect e → (p : List ℕ) → Room p → host_join e no_effect p ≡ answered 0 e
empty-last e h p l =
    let x = holds e h in
    let same = join-call x.effect empty p x.fits (tt, tt) l in
    rw (join-empty x.effect, x.is, no-effect) at same
