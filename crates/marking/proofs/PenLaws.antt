-- What is known of a drawing's walk by its pen, and how such walks follow one another, one word or one reading after the other.
use mathlib.Core.Path.{◌≡◌, refl, ap, sym, ◌∙◌}
use mathlib.Core.List.{List}
use Prim.Native.Nat.{ℕ}
use Rattle.memory.specs.declared.Fault.{Fault}
use Rattle.memory.specs.Reading.{Ask, Reading, done, ask, ◌>>=◌}
use Rattle.codes.specs.declared.Pen.{Pen}
use Rattle.codes.specs.Codes.{Drawing, drawing}
use Rattle.converter.specs.Walk.{Walked, went, halted, walk}
use Rattle.converter.proofs.WalkLaws.{step_went, step-halted}
use Rattle.marking.specs.Answers.{pen_of}

-- one word, and what comes after it
module _ {A : Type 0} (m marks : List ℕ) (q : Ask) (f : ℕ → Reading A) where
  pub ask-went : {marks₁ : List ℕ} {w : ℕ} → walk 0 m marks (ask q done) ≡ went marks₁ w → walk 0 m marks (ask q f) ≡ walk 0 m marks₁ (f w)
  unfolding ◌>>=◌
  ask-went e = step_went 0 m marks (ask q done) f e

  pub ask-halted : {x : Fault} → walk 0 m marks (ask q done) ≡ halted x → walk 0 m marks (ask q f) ≡ halted x
  unfolding ◌>>=◌
  ask-halted e = step-halted 0 m marks (ask q done) f e

-- a reading that ends as it is
pub as_is : {A : Type 0} (m marks : List ℕ) (p : Reading A) → walk 0 m marks p ≡ walk 0 m marks (p >>= done)
unfolding walk
as_is {A} m marks p = go (walk 0 m marks p) refl
  where
    go : (o : Walked A) → walk 0 m marks p ≡ o → walk 0 m marks p ≡ walk 0 m marks (p >>= done)
    go (went marks₁ a) e = e ∙ sym (step_went 0 m marks p done e)
    go (halted x) e = e ∙ sym (step-halted 0 m marks p done e)

pub pen-halted : (o : Walked Drawing) {x : Fault} → halted x ≡ pen_of o → o ≡ halted x
pen-halted (went marks d) e = cc
pen-halted (halted y) e = cc

-- the drawing whose pen is known
pub record From (o : Walked Drawing) (marks : List ℕ) (p : Pen) : Type 0 where
  pub cells : List ℕ
  pub is : o ≡ went marks (drawing p cells)

pub pen-went : (o : Walked Drawing) {marks : List ℕ} {p : Pen} → went marks p ≡ pen_of o → From o marks p
pen-went (went marks₁ d) {marks} {p} e =
    let list : marks ≡ marks₁ = cc in
    let pen : p ≡ d.pen = cc in
    record { cells = d.cells; is = rw (list, pen) }
pen-went (halted y) e = cc

module _ (m marks : List ℕ) (p : Reading Drawing) (k : Drawing → Reading Drawing) where
  pub then-halted : {x : Fault} → halted x ≡ pen_of (walk 0 m marks p) → halted x ≡ pen_of (walk 0 m marks (p >>= k))
  then-halted e = sym (ap pen_of (step-halted 0 m marks p k (pen-halted (walk 0 m marks p) e)))

  pub then-went : {marks₁ : List ℕ} {pen : Pen} {r : Walked Pen} → went marks₁ pen ≡ pen_of (walk 0 m marks p)
      → ((cs : List ℕ) → r ≡ pen_of (walk 0 m marks₁ (k (drawing pen cs)))) → r ≡ pen_of (walk 0 m marks (p >>= k))
  then-went e f =
      let d = pen-went (walk 0 m marks p) e in
      f d.cells ∙ sym (ap pen_of (step_went 0 m marks p k d.is))
