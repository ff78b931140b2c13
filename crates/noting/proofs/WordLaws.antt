-- Codes of a segment with a list, with the addresses noted: one code, one word of them, and what is left from there on.
use Rattle.std.proofs.Common.{Some}
use mathlib.Core.Path.{◌≡◌, refl, ap, ap₂, sym, ◌∙◌}
use mathlib.Core.Bool.{Bool, true, false}
use mathlib.Core.List.{List}
use Prim.Native.Nat.{ℕ, suc, ◌+◌, ◌-◌, ◌*◌, ◌/◌, ◌<◌, ◌≤◌}
use native.Mathlib.Omega.{arith}
use native.Mathlib.Nat.{add-zero}
use lib.ListN.{length, get_or, set}
use Rattle.memory.specs.Word.{when◌then◌else◌, high, low}
use Rattle.memory.specs.declared.Pointer.{Pointer}
use Rattle.memory.specs.Address.{onward, further}
use Rattle.memory.specs.Reading.{each, fetch, given}
use Rattle.memory.specs.Answers.{is_run}
use Rattle.memory.proofs.RunLaws.{run-ahead, run-fetch, ahead_more}
use Rattle.codes.specs.declared.CodeSettings.{CodeSettings}
use Rattle.codes.specs.declared.Source.{Source}
use Rattle.codes.specs.Attribute.{invokes}
use Rattle.codes.specs.Codes.{Drawing, character, examine, word_codes, codes}
use Rattle.codes.specs.Answers.{so_far}
use Rattle.runs.specs.declared.with_list.Cursor.{Cursor}
use Rattle.runs.specs.Runs.{examined, pen_of}
use Rattle.noting.specs.Noting.{noted, noting, pointing}
use Rattle.noting.proofs.NotingLaws.{noting-word, noting-bind, noting-done}

module _ (m : List ℕ) (σ : CodeSettings) (source : Source) (end : ℕ) where
  -- one code, where the next word of its list is there
  examine-noted : (n : ℕ) (l : List ℕ) (w code : ℕ) (d : Drawing) → d.pen.list.present ≡ true
      → fetch m d.pen.list.next.address ≡ Some w
      → noting n m l (examine σ source end code d)
      ≡ noted (given (n + (when invokes σ.flag code then 1 else 0)) (examined σ source end w code d))
      (when invokes σ.flag code then set l n d.pen.list.next.address else l)
  unfolding examine examined
  examine-noted n l w code d p e = cases (invokes σ.flag code) refl
    where
      cases : (b : Bool) → invokes σ.flag code ≡ b
          → noting n m l (examine σ source end code d)
          ≡ noted (given (n + (when invokes σ.flag code then 1 else 0)) (examined σ source end w code d))
          (when invokes σ.flag code then set l n d.pen.list.next.address else l)
      cases true t = rw (t, p) (noting-word n m l d.pen.list.next _ e ∙ noting-done _ _ _ _)
      cases false t =
          rw t (noting-done _ _ _ _ ∙ ap (λ (i : ℕ). noted (given i (character σ.hidden source end d.pen.latch code d)) l) (sym (add-zero n)))

  -- .. as the cursor of a segment goes on
  listed-noted : (n : ℕ) (next : Pointer) (count code : ℕ) (h h₁ : Cursor) (cs cs₁ l l₁ : List ℕ)
      → is_run σ.linear (length m) next.address count ≡ true
      → h.taken < count → h₁.taken ≡ h.taken + (when invokes σ.flag code then 1 else 0)
      → so_far (pen_of σ.linear next h₁) cs₁
      ≡ examined σ source end (get_or m (next.address / 2 + h.taken) 0) code (so_far (pen_of σ.linear next h) cs)
      → l₁ ≡ (when invokes σ.flag code then set l (n + h.taken) (next.address + 2 * h.taken) else l)
      → noting (n + h.taken) m l (examine σ source end code (so_far (pen_of σ.linear next h) cs))
      ≡ noted (given (n + h₁.taken) (so_far (pen_of σ.linear next h₁) cs₁)) l₁
  listed-noted n next count code h h₁ cs cs₁ l l₁ r k t e s =
      let d = so_far (pen_of σ.linear next h) cs in
      let there = run-fetch σ.linear m next.address count h.taken r k in
      let place = run-ahead (length m) next.address count σ.linear h.taken r k in
      let words : n + h.taken + (when invokes σ.flag code then 1 else 0) ≡ n + h₁.taken = omega (arith, t) in
      let here : (when invokes σ.flag code then set l (n + h.taken) d.pen.list.next.address else l) ≡ l₁ =
      ap (λ (a : ℕ). when invokes σ.flag code then set l (n + h.taken) a else l) place ∙ sym s in
      examine-noted (n + h.taken) l (get_or m (next.address / 2 + h.taken) 0) code d refl there
      ∙ ap₂ (λ (i : ℕ) (b : Drawing). noted (given i b) (when invokes σ.flag code then set l (n + h.taken) d.pen.list.next.address else l)) words (sym e)
      ∙ ap (noted (given (n + h₁.taken) (so_far (pen_of σ.linear next h₁) cs₁))) here

  -- a word of codes that is there: both of its codes, and the last one alone
  module _ (n : ℕ) (l : List ℕ) (p : Pointer) (d : Drawing) (w : ℕ) (there : fetch m p.address ≡ Some w)
      (n₁ : ℕ) (d₁ : Drawing) (l₁ : List ℕ)
      (first : noting (n + 1) m (set l n p.address) (examine σ source end (high w) d) ≡ noted (given n₁ d₁) l₁) where
    word_two : (k n₂ : ℕ) (d₂ : Drawing) (l₂ : List ℕ) → noting n₁ m l₁ (examine σ source end (low w) d₁) ≡ noted (given n₂ d₂) l₂
        → noting n m l (codes σ source end (suc (suc k)) p d) ≡ noting n₂ m l₂ (codes σ source end k (onward σ.linear p) d₂)
    unfolding codes word_codes each
    word_two k n₂ d₂ l₂ second =
        noting-word n m l p _ there
        ∙ noting-bind (n + 1) m (set l n p.address) _ _ (noting-bind (n + 1) m (set l n p.address) _ _ first ∙ noting-bind n₁ m l₁ _ _ second ∙ noting-done _ _ _ _)

    word-one : noting n m l (codes σ source end 1 p d) ≡ noted (given n₁ d₁) l₁
    unfolding codes word_codes each
    word-one = noting-word n m l p _ there ∙ noting-bind (n + 1) m (set l n p.address) _ _ first ∙ noting-done _ _ _ _

  -- words of a run: word i, with the words that the codes before it took
  module _ (words first from : ℕ) (next : Pointer) (count i : ℕ) (here : 2 * i < count)
      (run : is_run σ.linear (length m) first ((count + 1) / 2) ≡ true)
      (list-run : is_run σ.linear (length m) next.address count ≡ true)
      (h h₁ : Cursor) (few : h.taken ≤ 2 * i) (cs cs₁ l l₀ l₁ : List ℕ) (w : ℕ) (same : w ≡ get_or m (first / 2 + i) 0)
      (put : l₀ ≡ set l (words + i + h.taken) (first + 2 * i))
      (taken : h₁.taken ≡ h.taken + (when invokes σ.flag (high w) then 1 else 0))
      (drawn : so_far (pen_of σ.linear next h₁) cs₁
      ≡ examined σ source end (get_or m (next.address / 2 + h.taken) 0) (high w) (so_far (pen_of σ.linear next h) cs))
      (listed : l₁ ≡ (when invokes σ.flag (high w) then set l₀ (words + i + 1 + h.taken) (next.address + 2 * h.taken) else l₀)) where
    abbrev at : Pointer
    at = further σ.linear i (pointing first from)

    there : fetch m at.address ≡ Some w
    there = run-fetch σ.linear m first ((count + 1) / 2) i run (omega arith) ∙ ap Some (sym same)

    one : noting (words + i + h.taken + 1) m (set l (words + i + h.taken) at.address) (examine σ source end (high w) (so_far (pen_of σ.linear next h) cs))
        ≡ noted (given (words + i + 1 + h₁.taken) (so_far (pen_of σ.linear next h₁) cs₁)) l₁
    one =
        let d = so_far (pen_of σ.linear next h) cs in
        let place = run-ahead (length m) first ((count + 1) / 2) σ.linear i run (omega arith) in
        let sum : words + i + h.taken + 1 ≡ words + i + 1 + h.taken = omega arith in
        ap₂ (λ (n : ℕ) (xs : List ℕ). noting n m xs (examine σ source end (high w) d)) sum (ap (set l (words + i + h.taken)) place ∙ sym put)
        ∙ listed-noted (words + i + 1) next count (high w) h h₁ cs cs₁ l₀ l₁ list-run (omega arith) taken drawn listed

    -- .. with both of its codes
    pub pair-noted : 2 * i + 2 ≤ count → (h₂ : Cursor) (cs₂ l₂ : List ℕ)
        → h₁.taken ≤ 2 * i + 1 → h₂.taken ≡ h₁.taken + (when invokes σ.flag (low w) then 1 else 0)
        → so_far (pen_of σ.linear next h₂) cs₂
        ≡ examined σ source end (get_or m (next.address / 2 + h₁.taken) 0) (low w) (so_far (pen_of σ.linear next h₁) cs₁)
        → l₂ ≡ (when invokes σ.flag (low w) then set l₁ (words + i + 1 + h₁.taken) (next.address + 2 * h₁.taken) else l₁)
        → noting (words + i + h.taken) m l (codes σ source end (count - 2 * i) at (so_far (pen_of σ.linear next h) cs))
        ≡ noting (words + (i + 1) + h₂.taken) m l₂ (codes σ source end (count - 2 * (i + 1)) (further σ.linear (i + 1) (pointing first from)) (so_far (pen_of σ.linear next h₂) cs₂))
    pair-noted both h₂ cs₂ l₂ few₁ taken₂ drawn₂ listed₂ =
        let d = so_far (pen_of σ.linear next h) cs in
        let d₁ = so_far (pen_of σ.linear next h₁) cs₁ in
        let d₂ = so_far (pen_of σ.linear next h₂) cs₂ in
        let left : count - 2 * i ≡ suc (suc (count - 2 * (i + 1))) = omega arith in
        let sum : words + i + 1 + h₂.taken ≡ words + (i + 1) + h₂.taken = omega arith in
        let two = listed-noted (words + i + 1) next count (low w) h₁ h₂ cs₁ cs₂ l₁ l₂ list-run (omega arith) taken₂ drawn₂ listed₂ in
        ap (λ (k : ℕ). noting (words + i + h.taken) m l (codes σ source end k at d)) left
        ∙ word_two (words + i + h.taken) l at d w there (words + i + 1 + h₁.taken) d₁ l₁ one (count - 2 * (i + 1)) (words + i + 1 + h₂.taken) d₂ l₂ two
        ∙ ap₂ (λ (n a : ℕ). noting n m l₂ (codes σ source end (count - 2 * (i + 1)) (pointing a from) d₂)) sum (sym (ahead_more σ.linear i first))

    -- .. with its first one alone
    pub odd-noted : count ≡ 2 * i + 1
        → noting (words + i + h.taken) m l (codes σ source end (count - 2 * i) at (so_far (pen_of σ.linear next h) cs))
        ≡ noted (given (words + (count + 1) / 2 + h₁.taken) (so_far (pen_of σ.linear next h₁) cs₁)) l₁
    odd-noted e =
        let d = so_far (pen_of σ.linear next h) cs in
        let d₁ = so_far (pen_of σ.linear next h₁) cs₁ in
        let left : count - 2 * i ≡ 1 = omega arith in
        let sum : words + i + 1 + h₁.taken ≡ words + (count + 1) / 2 + h₁.taken = omega arith in
        ap (λ (k : ℕ). noting (words + i + h.taken) m l (codes σ source end k at d)) left
        ∙ word-one (words + i + h.taken) l at d w there (words + i + 1 + h₁.taken) d₁ l₁ one
        ∙ ap (λ (n : ℕ). noted (given n d₁) l₁) sum

  -- no code is left
  pub none-noted : (n k : ℕ) (l : List ℕ) (p : Pointer) (d : Drawing) → k ≡ 0 → noting n m l (codes σ source end k p d) ≡ noted (given n d) l
  unfolding codes
  none-noted n k l p d e = ap (λ (i : ℕ). noting n m l (codes σ source end i p d)) e ∙ noting-done n m l d
