-- A console's calls, one after the other, are the mending: a call is a step, its numbers are read as the settings after it, and each change
-- leaves fewer words that are not 0.
use Rattle.std.proofs.Common.{Some}
use mathlib.Core.Path.{◌≡◌, refl, sym, ap, ◌∙◌}
use mathlib.Core.Bool.{Bool, true, false, ◌&&◌, not}
use mathlib.Core.List.{List, ◌∷◌}
use Prim.Native.Nat.{ℕ, zero, suc, ◌<◌}
use native.Mathlib.Omega.{arith}
use lib.ListN.{length, set, length-set}
use lib.Dec.{eqb}
use borrow.Author.Tests.{eq-eqb, ne_eqb}
use Rattle.memory.specs.Word.{at}
use Rattle.memory.specs.Reading.{◌>>=◌, fault, refused, refusal, run_from, run}
use Rattle.memory.proofs.ReadBounds.{Words}
use Rattle.settings.specs.declared.Settings.{Settings}
use Rattle.settings.specs.Good.{check_settings}
use Rattle.numbers.specs.Decode.{modes_fit, settings_at, settings_in}
use Rattle.numbers.proofs.Judged.{settings-refused}
use Rattle.answers.specs.Changing.{left}
use Rattle.answers.specs.AnswerNumbers.{with_refusal}
use Rattle.blame.specs.declared.Place.{Place}
use Rattle.blame.specs.declared.Place.TheVariants.{Register, Memory}
use Rattle.blame.specs.declared.Verdict.{Verdict}
use Rattle.blame.specs.Blame.{as_it_is, verdict}
use Rattle.blame.proofs.VerdictLaws.{settings-bad, main-refused}
use Rattle.blame.proofs.Frames.{whole, blames, Fair, judged, as-it-is, verdict-fair, main-numbers}
use Rattle.mending.specs.declared.Change.{Change}
use Rattle.mending.specs.Mending.{settings_after, memory_after, change_of, by_verdict, mend_step, with_change, by_step, count, mended}
use Rattle.mending.proofs.Steps.{Sixteen, place-fewer, place-sixteen, mended-step}
use Rattle.thagaduvin_mend.specs.MendCalls.{tow_after, change_numbers, after_step, host_mend}
use Rattle.thagaduvin_mend.specs.MendLoop.{changed, Loop, by_call, calls, Comes, CallsMend}
use Rattle.thagaduvin_mend.proofs.Again.{again}

-- ---- a call's slices ----

-- numbers are read as words of 16 bits
sixteen : (xs m : List ℕ) → Words m → Sixteen (settings_at xs) m
unfolding settings_at
sixteen xs m w = record { words = w; registers = record { top = omega arith; tow = omega arith } }

tow-length : (p : Place) (xs : List ℕ) → length (tow_after p xs) ≡ length xs
unfolding tow_after
tow-length Register xs = length-set (set xs 7 0) 8 0 ∙ length-set xs 7 0
tow-length (Memory a) xs = refl

change-length : (c : Change) → length (change_numbers c) ≡ 8
unfolding change_numbers
change-length c = refl

-- a call of the right lengths is a step
is-step : (latch : ℕ) (xs m answer : List ℕ) → length xs ≡ 18 → length answer ≡ 8
    → host_mend xs m latch answer ≡ after_step xs answer (mend_step latch (settings_at xs) m)
unfolding host_mend settings_in
is-step latch xs m answer l k = rw (eq-eqb (length answer) 8 k, eq-eqb (length xs) 18 l)

read-in : (xs : List ℕ) → length xs ≡ 18 → settings_in xs ≡ Some (settings_at xs)
unfolding settings_in
read-in xs l = rw (eq-eqb (length xs) 18 l)

-- what is read again
module _ (xs : List ℕ) (l : length xs ≡ 18) (m : List ℕ) (latch : ℕ) where
  -- numbers that are not in range blame no pointer
  in-range : {p : Place} {n : ℕ} → verdict latch (settings_at xs) m ≡ Verdict.Blamed p n → modes_fit xs ≡ true
  unfolding check_settings run_from ◌>>=◌
  in-range e = by (modes_fit xs) refl
    where
      by : (b : Bool) → modes_fit xs ≡ b → modes_fit xs ≡ true
      by true h = h
      by false h =
          let bad : run m (check_settings (settings_at xs)) ≡ refused (fault 2) = rw (settings-refused xs h) in
          let r = sym e ∙ main-refused latch (settings_at xs) m (settings-bad (settings_at xs) m bad) in
          let q : ◌≡◌ {A = ℕ} 0 1 = cc in absurd (omega arith)

  read_again : {p : Place} {n : ℕ} → verdict latch (settings_at xs) m ≡ Verdict.Blamed p n → settings_at (tow_after p xs) ≡ settings_after p (settings_at xs)
  read_again {p} e =
      let r = sym (read-in (tow_after p xs) (tow-length p xs ∙ l)) ∙ again xs l (in-range e) p in cc

-- a refusal is no change
not-zero : (n : ℕ) (b : Bool) → as_it_is n ≡ true → eqb n 0 && b ≡ false
not-zero zero b h = let q : ◌≡◌ {A = ℕ} 0 1 = cc in absurd (omega arith)
not-zero (suc n) b h = rw (ne_eqb (suc n) 0 (λ (e : suc n ≡ 0). omega arith))

-- ---- the calls ----
module _ (latch : ℕ) where
  -- what the calls after one come to
  abbrev Rest : (List ℕ → List ℕ → List ℕ → Loop) → Settings → List ℕ → Type 0
  Rest rest σ m = (xs m₁ answer : List ℕ) → length xs ≡ 18 → length answer ≡ 8 → Words m₁ → count (settings_at xs) m₁ < count σ m
      → Comes (mended latch (settings_at xs) m₁) (rest xs m₁ answer)

  module _ (xs m answer : List ℕ) (l : length xs ≡ 18) (b : Words m) where
    abbrev σ : Settings
    σ = settings_at xs

    abbrev w : Sixteen σ m
    w = sixteen xs m b

    -- a change, and the calls after it
    changed-comes : (rest : List ℕ → List ℕ → List ℕ → Loop) → Rest rest σ m → (p : Place) (n : ℕ) → verdict latch σ m ≡ Verdict.Blamed p n
        → count (settings_after p σ) (memory_after p σ.linear m) < count σ m
        → Comes (with_change (change_of p n σ m) (mended latch (settings_after p σ) (memory_after p σ.linear m)))
        (by_call rest (left 0 (tow_after p xs) (memory_after p σ.linear m) (change_numbers (change_of p n σ m))))
    unfolding change_numbers
    changed-comes rest go_on p n e less =
        let m₁ = memory_after p σ.linear m in
        let c = change_of p n σ m in
        let same = read_again xs l m latch e in
        let h = go_on (tow_after p xs) m₁ (change_numbers c) (tow-length p xs ∙ l) (change-length c) (place-sixteen σ m w p).words (rw same less) in
        let k : Comes (mended latch (settings_after p σ) m₁) (rest (tow_after p xs) m₁ (change_numbers c)) = rw same at h in
        record { changes = ap (λ (cs : List (List ℕ)). change_numbers c ∷ cs) k.changes; memory = k.memory; settings = k.settings; ended = k.ended }

    -- by the verdict
    by-verdict : (rest : List ℕ → List ℕ → List ℕ → Loop) → Rest rest σ m → {v : Verdict} → verdict latch σ m ≡ v
        → Fair σ m w.words w.registers latch v
        → Comes (by_step (mended latch) σ (by_verdict σ m v)) (by_call rest (after_step xs answer (by_verdict σ m v)))
    by-verdict rest go_on e (judged whole) = record { changes = refl; memory = refl; settings = read-in xs l; ended = refl }
    by-verdict rest go_on e (judged (blames {p} {n} _ k)) = changed-comes rest go_on p n e (place-fewer σ m w p k)
    by-verdict rest go_on e (as-it-is {x} i) =
        let r = refusal 0 x in
        let no : changed (left r.number xs m (with_refusal r answer)) ≡ false =
        not-zero x.number (not (eqb (at (with_refusal r answer) 3) 0)) (main-numbers σ m w.words w.registers i) in
        rw no (record { changes = refl; memory = refl; settings = read-in xs l; ended = no })

    call-comes : (rest : List ℕ → List ℕ → List ℕ → Loop) → Rest rest σ m → length answer ≡ 8
        → Comes (mended latch σ m) (by_call rest (host_mend xs m latch answer))
    unfolding mend_step
    call-comes rest go_on k =
        rw (is-step latch xs m answer l k, mended-step latch σ m w) (by-verdict rest go_on refl (verdict-fair σ m w.words w.registers latch))

pub calls-mend : CallsMend
unfolding calls
calls-mend zero latch xs m answer l k b h = absurd (omega arith)
calls-mend (suc n) latch xs m answer l k b h =
    call-comes latch xs m answer l b (calls n latch)
    (λ ys m₁ answer₁ l₁ k₁ b₁ less. calls-mend n latch ys m₁ answer₁ l₁ k₁ b₁ (omega (arith, less, h))) k
