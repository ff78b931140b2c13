-- The three ways that a call goes, by its status: slices that are none, accepted, refused. Each once for every call.
use mathlib.Core.Path.{◌≡◌, refl, sym, ◌∙◌}
use mathlib.Core.Bool.{true, false}
use mathlib.Core.List.{List, [], ◌∷◌}
use Prim.Native.Nat.{ℕ, ◌≤◌}
use native.Mathlib.Omega.{arith}
use lib.ListN.{length}
use Rattle.memory.specs.Word.{at}
use Rattle.memory.specs.declared.Refusal.{Refusal}
use Rattle.answers.specs.AnswerNumbers.{with_refusal}
use Rattle.refusals.specs.Refusals.{has}
use Rattle.refusals.proofs.Told.{more-told}
use Rattle.theorem_demands.specs.Demands.{Done, done, Kept, after_three, Tells, Silent, Outside, Inside}

pub apart : {A : Type 0} → true ≡ false → A
apart e = let z : ◌≡◌ {A = ℕ} 0 1 = cc in absurd (omega arith)

-- a refusal has a number of its call's list, and 255 and 0 are in none
pub other : (ns : List ℕ) (n k : ℕ) → has n ns ≡ true → has k ns ≡ false → n ≡ k → ⊥
other ns n k h z e = apart (sym (rw e at h) ∙ z)

-- what an answer with a refusal in it tells, and keeps
pub record Begins (r : Refusal) (answer xs : List ℕ) : Type 0 where
  pub row : at xs 0 ≡ r.row
  pub address : at xs 1 ≡ r.address
  pub rest : after_three xs ≡ after_three answer

pub begins : (r : Refusal) (answer : List ℕ) → 3 ≤ length answer → Begins r answer (with_refusal r answer)
begins r [] h = absurd (omega arith)
begins r (a ∷ []) h = absurd (omega arith)
begins r (a ∷ b ∷ []) h = absurd (omega arith)
begins r (a ∷ b ∷ c ∷ xs) h = record { row = refl; address = refl; rest = refl }

module _ {ns : List ℕ} {others : List (List ℕ)} {answer : List ℕ} where
  pub none_kept : Kept ns others answer (done 255 others answer)
  none_kept = record { number = refl; nothing = λ _. (refl, refl); stays = λ _. refl }

  pub accepted-kept : (o : List (List ℕ)) (a : List ℕ) → Kept ns others answer (done 0 o a)
  accepted-kept o a = record { number = refl; nothing = λ e. absurd (omega (arith, e)); stays = λ r. absurd (r.0 refl) }

  pub refused-kept : has 255 ns ≡ false → (n : ℕ) (a : List ℕ) → has n ns ≡ true → Kept ns others answer (done n others a)
  refused-kept z n a h = record {
    number = more-told 0 (255 ∷ ns) n (more-told 255 ns n h);
    nothing = λ e. absurd (other ns n 255 h z e);
    stays = λ _. refl;
  }

  pub none-silent : Silent ns others answer (done 255 others answer)
  none-silent = record { kept = none_kept; same = λ _. refl }

  pub accepted-silent : (o : List (List ℕ)) (a : List ℕ) → Silent ns others answer (done 0 o a)
  accepted-silent o a = record { kept = accepted-kept o a; same = λ r. absurd (r.0 refl) }

  pub refused-silent : has 255 ns ≡ false → (n : ℕ) → has n ns ≡ true → Silent ns others answer (done n others answer)
  refused-silent z n h = record { kept = refused-kept z n answer h; same = λ _. refl }

  module _ {row : ℕ} where
    pub none-tells : Tells row ns others answer (done 255 others answer)
    none-tells = record { kept = none_kept; told = λ r. absurd (r.1 refl); rest = λ _. refl }

    pub accepted-tells : (o : List (List ℕ)) (a : List ℕ) → Tells row ns others answer (done 0 o a)
    accepted-tells o a = record { kept = accepted-kept o a; told = λ r. absurd (r.0 refl); rest = λ r. absurd (r.0 refl) }

    pub refused-tells : has 255 ns ≡ false → 3 ≤ length answer → (r : Refusal) → r.row ≡ row → has r.number ns ≡ true
        → Tells row ns others answer (done r.number others (with_refusal r answer))
    refused-tells z l r e h =
        let b = begins r answer l in
        record { kept = refused-kept z r.number _ h; told = λ _. b.row ∙ e; rest = λ _. b.rest }

-- .. of a call that reads memory, with the list that it leaves and the count of words in it
pub record Reads (row : ℕ) (ns : List ℕ) (others : List (List ℕ)) (answer m : List ℕ) (words : ℕ) (list : List ℕ) (d : Done) : Type 0 where
  pub tells : Tells row ns others answer d
  pub read : d.status ≡ 0 → Inside m words list
  pub missed : Outside m d.status (at d.answer 1)

module _ {row : ℕ} {ns : List ℕ} {others : List (List ℕ)} {answer m : List ℕ} {words : ℕ} {list : List ℕ} where
  pub none_reads : Reads row ns others answer m words list (done 255 others answer)
  none_reads = record { tells = none-tells; read = λ e. absurd (omega (arith, e)); missed = λ e. absurd (omega (arith, e)) }

  pub accepted-reads : (o : List (List ℕ)) (a : List ℕ) → Inside m words list → Reads row ns others answer m words list (done 0 o a)
  accepted-reads o a h = record { tells = accepted-tells o a; read = λ _. h; missed = λ e. absurd (omega (arith, e)) }

  pub refused-reads : has 255 ns ≡ false → has 0 ns ≡ false → 3 ≤ length answer → (r : Refusal) → r.row ≡ row → has r.number ns ≡ true
      → Outside m r.number r.address → Reads row ns others answer m words list (done r.number others (with_refusal r answer))
  refused-reads z y l r e h k = record {
    tells = refused-tells z l r e h;
    read = λ q. absurd (other ns r.number 0 h y q);
    missed = λ q. rw (begins r answer l).address (k q);
  }
