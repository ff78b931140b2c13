-- A script that is read byte by byte, in any parts, comes to what its records come to, and where it draws its registers are those of its records.
use mathlib.Core.Path.{◌≡◌, refl, ap, subst, ◌∙◌}
use mathlib.Core.List.{List, [], ◌∷◌}
use Prim.Native.Nat.{ℕ, zero, suc, ◌+◌, ◌*◌, ◌%◌, ◌^◌, ◌<◌, ◌≤◌}
use native.Mathlib.Omega.{arith}
use native.Mathlib.Nat.{le_refl}
use lib.ListN.{length, set, replicate}
use borrow.Author.Tests.{ne_eqb, lt-leb}
use Rattle.memory.proofs.ReadBounds.{if-cases}
use Rattle.settings.specs.declared.Settings.{Settings}
use Rattle.script.specs.declared.Script.{Script}
use Rattle.script.specs.declared.Step.{Step}
use Rattle.script.specs.declared.Step.TheVariants.{More, Draw, Refused}
use Rattle.script.specs.Records.{accepted, address, value}
use Rattle.script.specs.Script.{Outcome, drawn, refused_at, number_from, number, script}
use Rattle.script.specs.Feeding.{beginning, counted, begun, taken, with_settings, ended, Stepped, stepped, step_of, outcome, joined}
use Rattle.script.proofs.ByRecords.{Bytes, fed-script}
use Rattle.image.specs.Registers.{registers_after, registers_by, registers_of}
use Rattle.image.specs.Feeding.{registers_at, Fed, noting, byte_of, onward, feeding, read_parts}
use Rattle.image.proofs.FeedLaws.{in-parts, same-script}

-- where a script draws, its registers are these
abbrev Says : Step → (registers these : List ℕ) → Type 0
Says (More s) rs these = Unit
Says (Draw σ) rs these = rs ≡ these
Says (Refused n) rs these = Unit

abbrev Read : Fed → List ℕ → Type 0
Read t these = Says t.stepped.outcome t.registers these

-- a record whose body is there
ended-reads : (s : Script) (rs m rest these : List ℕ) → ((σ : Settings) (m₁ : List ℕ) → Read (feeding rest (with_settings σ s) (registers_at s rs) m₁) these)
    → Read (onward (noting rs (ended s m)) (feeding rest)) these
unfolding ended
ended-reads s rs m rest these h =
    if-cases (λ (t : Stepped). Read (onward (noting rs t) (feeding rest)) these) (accepted s.kind s.body) (λ _. h _ _) (λ _. tt)

-- a record in hand, from the script between two records
abbrev in_hand : Script → (kind left : ℕ) → Script
in_hand s kind left = record { settings = s.settings; read = counted s.read; start = s.read; kind = kind; left = left; body = 0 }

-- the bytes from a record on
abbrev Goes : ℕ → Type 0
Goes n = (bytes : List ℕ) (s : Script) (rs m : List ℕ) → length bytes ≤ n → Bytes bytes → s.left ≡ 0 → Read (feeding bytes s rs m) (registers_by n rs bytes)

module _ (n : ℕ) (goes : Goes n) (s : Script) (rs m : List ℕ) (left : s.left ≡ 0) where
  register-goes : (bytes : List ℕ) → length bytes ≤ n → Bytes bytes → Read (feeding (1 ∷ bytes) s rs m) (registers_by (suc n) rs (1 ∷ bytes))
  unfolding feeding byte_of step_of begun taken registers_by registers_after number_from
  register-goes [] h w = rw left tt
  register-goes (a ∷ []) h w = rw left tt
  register-goes (a ∷ b ∷ []) h w = rw left tt
  register-goes (a ∷ b ∷ c ∷ rest) h w =
      let t = taken (taken (taken (in_hand s 1 3) a) b) c in
      let k = number (a ∷ b ∷ c ∷ []) in
      let e : k ≡ (((0 * 256 + a) % 2 ^ 40 * 256 + b) % 2 ^ 40 * 256 + c) % 2 ^ 40 = omega (arith, w 0, w 1, w 2) in
      let these = registers_by n (set rs (address k) (value k)) rest in
      rw left
      (ended-reads t rs m rest these
      (λ σ m₁. subst (λ (body : ℕ). Read (feeding rest (with_settings σ t) (set rs (address body) (value body)) m₁) these) e
      (goes rest (with_settings σ t) (set rs (address k) (value k)) m₁ (omega arith) (λ i. w (suc (suc (suc i)))) refl)))

  word-goes : (bytes : List ℕ) → length bytes ≤ n → Bytes bytes → Read (feeding (2 ∷ bytes) s rs m) (registers_by (suc n) rs (2 ∷ bytes))
  unfolding feeding byte_of step_of begun taken registers_by registers_after
  word-goes [] h w = rw left tt
  word-goes (a ∷ []) h w = rw left tt
  word-goes (a ∷ b ∷ []) h w = rw left tt
  word-goes (a ∷ b ∷ c ∷ []) h w = rw left tt
  word-goes (a ∷ b ∷ c ∷ d ∷ []) h w = rw left tt
  word-goes (a ∷ b ∷ c ∷ d ∷ e ∷ rest) h w =
      let t = taken (taken (taken (taken (taken (in_hand s 2 5) a) b) c) d) e in
      rw left
      (ended-reads t rs m rest (registers_by n rs rest)
      (λ σ m₁. goes rest (with_settings σ t) rs m₁ (omega arith) (λ i. w (suc (suc (suc (suc (suc i)))))) refl))

  switches-goes : (bytes : List ℕ) → length bytes ≤ n → Bytes bytes → Read (feeding (3 ∷ bytes) s rs m) (registers_by (suc n) rs (3 ∷ bytes))
  unfolding feeding byte_of step_of begun taken registers_by registers_after
  switches-goes [] h w = rw left tt
  switches-goes (a ∷ rest) h w =
      let t = taken (in_hand s 3 1) a in
      rw left
      (ended-reads t rs m rest (registers_by n rs rest)
      (λ σ m₁. goes rest (with_settings σ t) rs m₁ (omega arith) (λ i. w (suc i)) refl))

  by_kind : (kind : ℕ) (bytes : List ℕ) → length bytes ≤ n → Bytes bytes → Read (feeding (kind ∷ bytes) s rs m) (registers_by (suc n) rs (kind ∷ bytes))
  unfolding feeding byte_of step_of begun registers_by
  by_kind zero bytes h w = rw left refl
  by_kind (suc zero) bytes h w = register-goes bytes h w
  by_kind (suc (suc zero)) bytes h w = word-goes bytes h w
  by_kind (suc (suc (suc zero))) bytes h w = switches-goes bytes h w
  by_kind (suc (suc (suc (suc k)))) bytes h w =
      let kind = suc (suc (suc (suc k))) in
      rw (left, ne_eqb kind 0 (λ z. omega arith), lt-leb kind 3 (omega arith)) tt

by-records : (n : ℕ) → Goes n
unfolding feeding
by-records zero [] s rs m h w left = tt
by-records zero (kind ∷ bytes) s rs m h w left = absurd (omega arith)
by-records (suc n) [] s rs m h w left = tt
by-records (suc n) (kind ∷ bytes) s rs m h w left = by_kind n (by-records n) s rs m left kind bytes (omega arith) (λ i. w (suc i))

-- ---- what is made of a script, whatever it is, where a refused one's registers do not matter ----
module _ {A : Type 0} (f : List ℕ → Outcome → A) (refused : (rs qs : List ℕ) (n : ℕ) → f rs (refused_at n) ≡ f qs (refused_at n)) where
  as_read : (o : Step) (rs qs m : List ℕ) → Says o rs qs → f rs (outcome (stepped o m)) ≡ f qs (outcome (stepped o m))
  as_read (More s) rs qs m h = refused rs qs _
  as_read (Draw σ) rs qs m h = ap (λ (xs : List ℕ). f xs (drawn σ m)) h
  as_read (Refused n) rs qs m h = refused rs qs n

  -- a script fed whole; its length fits 64 bits, as every slice's does
  pub fed-image : (bytes : List ℕ) → length bytes < 2 ^ 64 → Bytes bytes → (t : Fed) → t ≡ feeding bytes beginning (replicate 25 0) (replicate 16384 0)
      → f t.registers (outcome t.stepped) ≡ f (registers_of bytes) (script bytes)
  unfolding registers_of beginning
  fed-image bytes h w t e =
      let o = t.stepped.outcome in
      as_read o t.registers (registers_of bytes) t.stepped.memory
      (rw e (by-records (length bytes) bytes beginning (replicate 25 0) (replicate 16384 0) (le_refl _) w refl))
      ∙ ap (λ (u : Stepped). f (registers_of bytes) (outcome u)) (ap (λ (u : Fed). u.stepped) e ∙ same-script bytes beginning (replicate 25 0) (replicate 16384 0))
      ∙ ap (f (registers_of bytes)) (fed-script bytes h w)

  pub read-image : (parts : List (List ℕ)) → length (joined parts) < 2 ^ 64 → Bytes (joined parts)
      → f (read_parts parts).registers (outcome (read_parts parts).stepped) ≡ f (registers_of (joined parts)) (script (joined parts))
  read-image parts h w = fed-image (joined parts) h w (read_parts parts) (in-parts parts beginning (replicate 25 0) (replicate 16384 0))
