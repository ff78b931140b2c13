-- A drawing's outcome, from what its finished cells say.
use mathlib.Core.Path.{◌≡◌, ap}
use Prim.Native.Nat.{ℕ}
use native.Mathlib.Omega.{arith}
use Rattle.memory.specs.declared.Fault.{Fault}
use Rattle.memory.specs.Reading.{Outcome, given, refused}
use Rattle.codes.specs.Codes.{Drawing}
use Rattle.cells.specs.Answers.{Finished, of_drawing, finish}

pub finish-refused : (o : Outcome Drawing) {x : Fault} → refused x ≡ finish o → refused x ≡ o
finish-refused (given k d) e = cc
finish-refused (refused y) {x} e = let same : x ≡ y = cc in ap refused same

-- the drawing that cells were finished from
pub record From (o : Outcome Drawing) (n : ℕ) (f : Finished) : Type 0 where
  pub drawing : Drawing
  pub is : given n drawing ≡ o
  pub same : f ≡ of_drawing drawing

pub finish-given : (o : Outcome Drawing) {n : ℕ} {f : Finished} → given n f ≡ finish o → From o n f
finish-given (given k d) {n} {f} e =
    let count : n ≡ k = cc in
    let made : f ≡ of_drawing d = cc in
    record { drawing = d; is = ap (λ (i : ℕ). given i d) count; same = made }
finish-given (refused y) e = let q : ◌≡◌ {A = ℕ} 0 1 = cc in absurd (omega (arith, q))
