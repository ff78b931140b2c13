-- What the records of a written script do, one after the other.
use mathlib.Core.Path.{◌≡◌, refl, ◌∙◌}
use mathlib.Core.Bool.{true}
use mathlib.Core.List.{List, [], ◌∷◌, ◌++◌, append_assoc}
use Prim.Native.Nat.{ℕ, zero, suc, ◌+◌, ◌*◌, ◌/◌, ◌%◌, ◌<◌, ◌≤◌}
use native.Mathlib.Omega.{arith}
use lib.ListN.{length, get_or, set, replicate, length-append}
use lib.Seq.{take_at, drop_at, set_at, append_snoc}
use lib.Dec.{eqb}
use borrow.Author.Tests.{eq-eqb, ne_eqb, le-ltb, lt-ltb, le-leb, eqb-true}
use Rattle.memory.specs.Word.{high, low}
use Rattle.memory.proofs.ReadBounds.{if-cases}
use Rattle.settings.specs.declared.Settings.{Settings}
use Rattle.script.specs.Records.{body_length, accepted, address, value, interlace_bits, registered, settings_after, memory_after}
use Rattle.script.specs.Script.{number, number_from, records}
use Rattle.image.specs.Registers.{registers_after, registers_by}
use Rattle.image.specs.Image.{Outcome, switches_of, with_registers}
use Rattle.image.specs.Written.{switches_record, register_record, word_record, value_text, values_text}
use Rattle.image.proofs.Fields.{switches-again}

-- the records from one on, with the registers so far
abbrev pub imaged : (size n at : ℕ) → Settings → (registers memory bytes : List ℕ) → Outcome
imaged size n at σ rs m bytes = with_registers (registers_by n rs bytes) (records size n at σ m bytes)

-- Bytes lead from switches, registers and memory to others: whatever the records after them come to from there, they come to from here. A
-- script counts its records down from no fewer than its bytes.
pub record Leads (bytes : List ℕ) (s : ℕ) (rs m : List ℕ) (s₁ : ℕ) (rs₁ m₁ : List ℕ) : Type 0 where
  pub comes-to : (size n at : ℕ) (σ : Settings) (rest : List ℕ) (o : Outcome) → switches_of σ ≡ s → length (bytes ++ rest) ≤ n
      → ((k next : ℕ) (σ₁ : Settings) → switches_of σ₁ ≡ s₁ → length rest ≤ k → imaged size k next σ₁ rs₁ m₁ rest ≡ o)
      → imaged size n at σ rs m (bytes ++ rest) ≡ o

no_bytes : (s : ℕ) (rs m : List ℕ) → Leads [] s rs m s rs m
no_bytes s rs m = record { comes-to = λ size n at σ rest o e h k. k n at σ e h }

pub in-turn : {s s₁ s₂ : ℕ} {rs rs₁ rs₂ m m₁ m₂ a b : List ℕ} → Leads a s rs m s₁ rs₁ m₁ → Leads b s₁ rs₁ m₁ s₂ rs₂ m₂ → Leads (a ++ b) s rs m s₂ rs₂ m₂
in-turn {a} {b} p q =
    record {
      comes-to = λ size n at σ rest o e h k.
          rw (append_assoc a b rest)
          (p.comes-to size n at σ (b ++ rest) o e (rw (append_assoc a b rest) at h) (λ i next σ₁ f g. q.comes-to size i next σ₁ rest o f g k));
    }

-- ---- a record ----
module _ (kind : ℕ) (body : List ℕ) (s s₁ : ℕ) (rs m : List ℕ) (p : 0 < kind) (q : kind ≤ 3) (e : length body ≡ body_length kind)
    (a : accepted kind (number body) ≡ true) (f : (σ : Settings) → switches_of σ ≡ s → switches_of (settings_after kind (number body) σ) ≡ s₁) where
  record-comes-to : (size n at : ℕ) (σ : Settings) (rest : List ℕ) (o : Outcome) → switches_of σ ≡ s → length (kind ∷ body ++ rest) ≤ n
      → ((k next : ℕ) (σ₁ : Settings) → switches_of σ₁ ≡ s₁ → length rest ≤ k
      → imaged size k next σ₁ (registers_after kind (number body) rs) (memory_after kind (number body) m) rest ≡ o)
      → imaged size n at σ rs m (kind ∷ body ++ rest) ≡ o
  unfolding records registers_by
  record-comes-to size zero at σ rest o g h k = absurd (omega arith)
  record-comes-to size (suc n) at σ rest o g h k =
      let l : body_length kind ≤ length (body ++ rest) = omega (arith, length-append body rest) in
      rw (ne_eqb kind 0 (λ z. omega arith), le-ltb 3 kind q, le-ltb (length (body ++ rest)) (body_length kind) l)
      (rw (take_at body rest (body_length kind) e, a, drop_at body rest (body_length kind) e)
      (k n (at + 1 + body_length kind) (settings_after kind (number body) σ) (f σ g) (omega (arith, length-append body rest))))

  one-record : Leads (kind ∷ body) s rs m s₁ (registers_after kind (number body) rs) (memory_after kind (number body) m)
  one-record = record { comes-to = record-comes-to }

-- the switches
pub switches-lead : (s₀ s : ℕ) → s < 32 → interlace_bits s < 3 → (rs m : List ℕ) → Leads (switches_record s) s₀ rs m s rs m
unfolding accepted settings_after registers_after memory_after number_from
switches-lead s₀ s h i rs m =
    let n : 0 * 256 + s ≡ s = omega arith in
    let small : s % 32 ≡ s = omega arith in
    one-record 3 (s ∷ []) s₀ s rs m (omega arith) (omega arith) refl (rw (n, ne_eqb (interlace_bits s) 3 (λ z. omega arith)))
    (λ σ _. rw n (switches-again s σ i ∙ small))

-- a register
module _ (r v : ℕ) (g : r < 25) (h : v < 65536) where
  abbrev register : List ℕ
  register = r ∷ high v ∷ low v ∷ []

  register-address : address (number register) ≡ r
  unfolding number_from
  register-address = omega arith

  register-value : value (number register) ≡ v
  unfolding number_from
  register-value = omega arith

  register-leads : (s : ℕ) (rs m : List ℕ) → Leads (register_record r v) s rs m s (set rs r v) m
  unfolding accepted settings_after registers_after memory_after switches_of registered
  register-leads s rs m =
      let e = one-record 1 register s s rs m (omega arith) (omega arith) refl (rw register-address (le-leb r 0x18 (omega arith))) (λ σ same. same) in
      rw (register-address, register-value) at e

-- a word
module _ (i w : ℕ) (g : i < 16384) (h : w < 65536) where
  abbrev word : List ℕ
  word = 0 ∷ high (2 * i) ∷ low (2 * i) ∷ high w ∷ low w ∷ []

  word_address : address (number word) ≡ 2 * i
  unfolding number_from
  word_address = omega arith

  word_value : value (number word) ≡ w
  unfolding number_from
  word_value = omega arith

  word-accepted : accepted 2 (number word) ≡ true
  unfolding accepted
  word-accepted = rw (word_address, eq-eqb (2 * i % 2) 0 (omega arith), lt-ltb (2 * i / 2) 16384 (omega arith))

  word-leads : (s : ℕ) (rs m : List ℕ) → Leads (word_record i w) s rs m s rs (set m i w)
  unfolding settings_after registers_after memory_after
  word-leads s rs m =
      let e = one-record 2 word s s rs m (omega arith) (omega arith) refl word-accepted (λ σ same. same) in
      let place : address (number word) / 2 ≡ i = omega (arith, word_address) in
      rw (place, word_value) at e

-- ---- values from number i on, of a list that holds p before them and 0 from there on ----
module _ (L : (bytes before after : List ℕ) → Type 0) (none : (xs : List ℕ) → L [] xs xs)
    (turn : (a b x y z : List ℕ) → L a x y → L b y z → L (a ++ b) x z)
    (record_of : ℕ → ℕ → List ℕ) (size : ℕ) (one : (i v : ℕ) → i < size → v < 65536 → (xs : List ℕ) → L (record_of i v) xs (set xs i v)) where
  value-leads : (i v : ℕ) → i < size → v < 65536 → (p rest : List ℕ) → length p ≡ i → L (value_text record_of i v) (p ++ 0 ∷ rest) (p ++ v ∷ rest)
  value-leads i v g h p rest e =
      if-cases (λ (bytes : List ℕ). L bytes (p ++ 0 ∷ rest) (p ++ v ∷ rest)) (eqb v 0)
      (λ z. rw (eqb-true v 0 z) (none (p ++ 0 ∷ rest)))
      (λ _. rw (set_at p 0 rest v i e) at (one i v g h (p ++ 0 ∷ rest)))

  values-lead : (vs p : List ℕ) (i : ℕ) → length p ≡ i → i + length vs ≤ size → ((j : ℕ) → get_or vs j 0 < 65536)
      → L (values_text record_of i vs) (p ++ replicate (length vs) 0) (p ++ vs)
  unfolding values_text
  values-lead [] p i e h w = none (p ++ [])
  values-lead (x ∷ vs) p i e h w =
      let q = p ++ (x ∷ []) in
      let l : length q ≡ i + 1 = length-append p (x ∷ []) ∙ omega arith in
      let more = values-lead vs q (i + 1) l (omega arith) (λ j. w (suc j)) in
      let first = value-leads i x (omega arith) (w 0) p (replicate (length vs) 0) e in
      turn _ _ _ _ _ first (rw (append_snoc p x (replicate (length vs) 0), append_snoc p x vs) at more)

module _ (s : ℕ) (rs m : List ℕ) where
  pub registers-lead : (vs : List ℕ) → length vs ≤ 25 → ((j : ℕ) → get_or vs j 0 < 65536)
      → Leads (values_text register_record 0 vs) s (replicate (length vs) 0) m s vs m
  registers-lead vs h w =
      values-lead (λ bytes x y. Leads bytes s x m s y m) (λ x. no_bytes s x m) (λ a b x y z p q. in-turn p q)
      register_record 25 (λ i v g k x. register-leads i v g k s x m) vs [] 0 refl (omega arith) w

  pub words-lead : (vs : List ℕ) → length vs ≤ 16384 → ((j : ℕ) → get_or vs j 0 < 65536)
      → Leads (values_text word_record 0 vs) s rs (replicate (length vs) 0) s rs vs
  words-lead vs h w =
      values-lead (λ bytes x y. Leads bytes s rs x s rs y) (λ x. no_bytes s rs x) (λ a b x y z p q. in-turn p q)
      word_record 16384 (λ i v g k x. word-leads i v g k s rs x) vs [] 0 refl (omega arith) w
