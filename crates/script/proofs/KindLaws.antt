-- The choice by a kind, in each of its three cases.
use Rattle.std.proofs.Common.{◌≡◌, ℕ, Bool, true, false, eqb, refl, eq-eqb, ne_eqb}
use Rattle.memory.specs.Word.{when◌then◌else◌}
use Rattle.script.specs.Records.{by_kind}

module _ {A : Type 0} (kind : ℕ) (x y z : A) where
  pub kind_1 : kind ≡ 1 → by_kind kind x y z ≡ x
  kind_1 e = rw (eq-eqb kind 1 e)

  pub kind_2 : kind ≡ 2 → by_kind kind x y z ≡ y
  kind_2 e = rw e

  pub kind_3 : (kind ≡ 1 → ⊥) → (kind ≡ 2 → ⊥) → by_kind kind x y z ≡ z
  kind_3 f g = rw (ne_eqb kind 1 f, ne_eqb kind 2 g)

pub kind-other : {A : Type 0} (kind : ℕ) (x y : A) → (kind ≡ 2 → ⊥) → by_kind kind x y x ≡ x
kind-other kind x y g = rw (ne_eqb kind 2 g) (same (eqb kind 1) x)
  where
    same : {A : Type 0} (b : Bool) (x : A) → (when b then x else x) ≡ x
    same true x = refl
    same false x = refl
