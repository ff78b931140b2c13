-- A change keeps a start's part up to the main block: TOP is never changed, memory keeps its length, and a word that becomes 0 sets no bit.
use mathlib.Core.Path.{◌≡◌, refl, ap, ap₂, ◌∙◌}
use mathlib.Core.Bool.{Bool, true, false, ◌&&◌, not}
use mathlib.Core.Logic.{◌⊎◌, inl, inr}
use mathlib.Core.List.{List, [], ◌∷◌}
use Prim.Native.Nat.{ℕ, zero, suc, ◌+◌, ◌/◌}
use native.Mathlib.Omega.{arith}
use lib.ListN.{length, get_or, set, length-set}
use lib.Dec.{ltb}
use Rattle.memory.specs.declared.Fault.{Fault}
use Rattle.memory.specs.declared.Pointer.{Pointer}
use Rattle.memory.specs.Word.{when◌then◌else◌, bit, at}
use Rattle.memory.specs.Reading.{Reading, done, missing, read_as, one_pointer, ◌>>=◌, ◌>>◌, fault, check, Outcome, given, refused, run_from, run}
use Rattle.memory.specs.Address.{null, next_word, onward, words}
use Rattle.memory.proofs.Laws.{bind-given, bind-refused, check-passed, check-failed, run-done}
use Rattle.memory.proofs.Roles.{run-as}
use Rattle.settings.specs.declared.PointerWords.{PointerWords}
use Rattle.settings.specs.declared.Settings.{Settings}
use Rattle.settings.specs.declared.Interlace.{Interlace}
use Rattle.settings.specs.declared.Interlace.TheVariants.{Progressive, RepeatField, Video}
use Rattle.settings.specs.declared.Edition.{Edition}
use Rattle.settings.specs.declared.Edition.TheVariants.{Am8052, Z8052}
use Rattle.settings.specs.Good.{in_range, in_order, fits_mode, fits_edition, good, check_settings}
use Rattle.settings.proofs.CheckLaws.{Passing, passing-done, given-passing}
use Rattle.blocks.specs.Main.{main_block, main_block_at}
use Rattle.start.specs.Top.{registered, top_block}
use Rattle.blame.specs.declared.Place.{Place}
use Rattle.blame.specs.declared.Place.TheVariants.{Register, Memory}
use Rattle.blame.specs.Blame.{main_of}
use Rattle.mending.specs.Mending.{settings_after, memory_after}

-- a memory of the same length, each of whose words stays or is 0
pub record Less (m m₁ : List ℕ) : Type 0 where
  pub size : length m₁ ≡ length m
  pub falls : (i : ℕ) → (get_or m₁ i 0 ≡ get_or m i 0) ⊎ (get_or m₁ i 0 ≡ 0)

set-falls : (m : List ℕ) (i k : ℕ) → (get_or (set m i 0) k 0 ≡ get_or m k 0) ⊎ (get_or (set m i 0) k 0 ≡ 0)
set-falls [] i k = inl refl
set-falls (x ∷ xs) zero zero = inr refl
set-falls (x ∷ xs) zero (suc k) = inl refl
set-falls (x ∷ xs) (suc i) zero = inl refl
set-falls (x ∷ xs) (suc i) (suc k) = set-falls xs i k

set-less : (m : List ℕ) (i : ℕ) → Less m (set m i 0)
set-less m i = record { size = length-set m i 0; falls = set-falls m i }

less-trans : {m m₁ m₂ : List ℕ} → Less m m₁ → Less m₁ m₂ → Less m m₂
less-trans {m} {m₁} {m₂} h k = record { size = k.size ∙ h.size; falls = λ i. both i (h.falls i) (k.falls i) }
  where
    both : (i : ℕ) → (get_or m₁ i 0 ≡ get_or m i 0) ⊎ (get_or m₁ i 0 ≡ 0) → (get_or m₂ i 0 ≡ get_or m₁ i 0) ⊎ (get_or m₂ i 0 ≡ 0)
        → (get_or m₂ i 0 ≡ get_or m i 0) ⊎ (get_or m₂ i 0 ≡ 0)
    both i (inl e) (inl f) = inl (f ∙ e)
    both i (inr e) (inl f) = inr (f ∙ e)
    both i h (inr f) = inr f

pub change-less : (p : Place) (linear : Bool) (m : List ℕ) → Less m (memory_after p linear m)
unfolding memory_after
change-less Register linear m = record { size = refl; falls = λ i. inl refl }
change-less (Memory a) linear m = less-trans (set-less m (a / 2)) (set-less (set m (a / 2) 0) (next_word linear a / 2))

-- ---- what is read of such a memory ----
module _ (m m₁ : List ℕ) (less : Less m m₁) where
  data Follows : Outcome (List ℕ) → Outcome (List ℕ) → Type 0 where
    read : {i : ℕ} {ws ws₁ : List ℕ} → ((k : ℕ) → (at ws₁ k ≡ at ws k) ⊎ (at ws₁ k ≡ 0)) → Follows (given i ws) (given i ws₁)
    missed : {x : Fault} {o : Outcome (List ℕ)} → Follows (refused x) o

  one_more : (w w₁ : ℕ) (ws ws₁ : List ℕ) → (w₁ ≡ w) ⊎ (w₁ ≡ 0) → ((k : ℕ) → (at ws₁ k ≡ at ws k) ⊎ (at ws₁ k ≡ 0))
      → (k : ℕ) → (at (w₁ ∷ ws₁) k ≡ at (w ∷ ws) k) ⊎ (at (w₁ ∷ ws₁) k ≡ 0)
  one_more w w₁ ws ws₁ h g zero = h
  one_more w w₁ ws ws₁ h g (suc k) = g k

  word-follows : (n w w₁ : ℕ) (p : Reading (List ℕ)) → (w₁ ≡ w) ⊎ (w₁ ≡ 0) → Follows (run_from n m p) (run_from n m₁ p)
      → Follows (run_from n m (p >>= λ ws. done (w ∷ ws))) (run_from n m₁ (p >>= λ ws. done (w₁ ∷ ws)))
  word-follows n w w₁ p h f = by (run_from n m p) (run_from n m₁ p) refl refl f
    where
      by : (o o₁ : Outcome (List ℕ)) → run_from n m p ≡ o → run_from n m₁ p ≡ o₁ → Follows o o₁
          → Follows (run_from n m (p >>= λ ws. done (w ∷ ws))) (run_from n m₁ (p >>= λ ws. done (w₁ ∷ ws)))
      by _ _ e e₁ (read {i} {ws} {ws₁} g) =
          rw (bind-given n m p (λ ws. done (w ∷ ws)) e ∙ run-done i m (w ∷ ws), bind-given n m₁ p (λ ws. done (w₁ ∷ ws)) e₁ ∙ run-done i m₁ (w₁ ∷ ws₁))
          (read (one_more w w₁ ws ws₁ h g))
      by _ _ e e₁ missed = rw (bind-refused n m p (λ ws. done (w ∷ ws)) e) missed

  words-follow : (linear : Bool) (k : ℕ) (p : Pointer) (n : ℕ) → Follows (run_from n m (words linear k p)) (run_from n m₁ (words linear k p))
  unfolding words ◌>>=◌ run_from
  words-follow linear zero p n = read λ k. inl refl
  words-follow linear (suc k) p n =
      rw less.size
      (there (ltb (p.address / 2) (length m)) (missing p) _ _ (word-follows (n + 1) _ _ (words linear k (onward linear p)) (less.falls (p.address / 2)) (words-follow linear k (onward linear p) (n + 1))))
    where
      there : (t : Bool) (x : Fault) (o o₁ : Outcome (List ℕ)) → Follows o o₁ → Follows (when t then o else refused x) (when t then o₁ else refused x)
      there true x o o₁ h = h
      there false x o o₁ h = missed

-- an outcome that is no refusal
pub data Given {A : Type 0} : Outcome A → Type 0 where
  is-given : {n : ℕ} {a : A} → Given (given n a)

pub given-not : {A : Type 0} {o : Outcome A} {x : Fault} → Given o → o ≡ refused x → ⊥
given-not is-given e = let q : ◌≡◌ {A = ℕ} 0 1 = cc in omega arith

-- a test of M4 that passes, passes with 0 in its place
abbrev passes : ℕ → Bool
passes w = not (bit 14 w && bit 12 w)

still-passes : (w w₁ : ℕ) → (w₁ ≡ w) ⊎ (w₁ ≡ 0) → passes w ≡ true → passes w₁ ≡ true
still-passes w w₁ (inl e) h = ap passes e ∙ h
still-passes w w₁ (inr e) h = ap passes e

-- the main block of a top register: what comes after its words
module _ (linear : Bool) (top : PointerWords) where
  abbrev p : Pointer
  p = registered linear top

  top-null : (m : List ℕ) → not (null p) ≡ false → run m (top_block linear top) ≡ refused (fault 6)
  unfolding top_block
  top-null m t = check-failed 0 m 6 (not (null p)) _ t

  top-missed : (m : List ℕ) → not (null p) ≡ true → {x : Fault} → run m (words linear 7 p) ≡ refused x → Given (run m (top_block linear top)) → ⊥
  unfolding top_block main_block_at
  top-missed m t e h = given-not h (check-passed 0 m 6 (not (null p)) _ t
      ∙ bind-refused 0 m (main_block_at linear p) _ (bind-refused 0 m (read_as one_pointer (words linear 7 p)) _ (run-as _ _ _ _ ∙ e)))

  top_read : (m : List ℕ) → not (null p) ≡ true → {i : ℕ} {ws : List ℕ} → run m (words linear 7 p) ≡ given i ws
      → run m (top_block linear top) ≡ run_from i m (check 14 (passes (at ws 4)) >> done (main_block linear p.address ws))
  unfolding top_block main_block_at main_block
  top_read m t {i} {ws} e =
      check-passed 0 m 6 (not (null p)) _ t
      ∙ bind-given 0 m (main_block_at linear p) _ (bind-given 0 m (read_as one_pointer (words linear 7 p)) _ (run-as _ _ _ _ ∙ e) ∙ run-done i m (main_block linear p.address ws))

  top_kept : (m m₁ : List ℕ) → Less m m₁ → Given (run m (top_block linear top)) → Given (run m₁ (top_block linear top))
  top_kept m m₁ less h = by-null (not (null p)) refl
    where
      by-m4 : not (null p) ≡ true → {i : ℕ} {ws ws₁ : List ℕ} → run m (words linear 7 p) ≡ given i ws → run m₁ (words linear 7 p) ≡ given i ws₁
          → (at ws₁ 4 ≡ at ws 4) ⊎ (at ws₁ 4 ≡ 0) → (b : Bool) → passes (at ws 4) ≡ b → Given (run m₁ (top_block linear top))
      by-m4 t {i} {ws} {ws₁} e e₁ g true b =
          rw (top_read m₁ t e₁ ∙ check-passed i m₁ 14 (passes (at ws₁ 4)) _ (still-passes (at ws 4) (at ws₁ 4) g b) ∙ run-done i m₁ _) is-given
      by-m4 t {i} {ws} e e₁ g false b = absurd (given-not h (top_read m t e ∙ check-failed i m 14 (passes (at ws 4)) _ b))

      by-words : not (null p) ≡ true → (o o₁ : Outcome (List ℕ)) → run m (words linear 7 p) ≡ o → run m₁ (words linear 7 p) ≡ o₁ → Follows m m₁ less o o₁
          → Given (run m₁ (top_block linear top))
      by-words t _ _ e e₁ (read {ws} g) = by-m4 t e e₁ (g 4) (passes (at ws 4)) refl
      by-words t _ _ e e₁ missed = absurd (top-missed m t e h)

      by-null : (t : Bool) → not (null p) ≡ t → Given (run m₁ (top_block linear top))
      by-null true t = by-words t _ _ refl refl (words-follow m m₁ less linear 7 p 0)
      by-null false t = absurd (given-not h (top-null m t))

-- ---- a start up to its main block ----
same-mode : (i : Interlace) (σ : Settings) → fits_mode i (settings_after Register σ) ≡ fits_mode i σ
unfolding settings_after
same-mode Progressive σ = refl
same-mode RepeatField σ = refl
same-mode Video σ = refl

same-edition : (e : Edition) (σ : Settings) → fits_edition e (settings_after Register σ) ≡ fits_edition e σ
unfolding settings_after
same-edition Am8052 σ = refl
same-edition Z8052 σ = refl

same_good : (p : Place) (σ : Settings) → good (settings_after p σ) ≡ good σ
unfolding settings_after good
same_good Register σ = ap₂ (λ (a b : Bool). in_range σ && in_order σ && a && b) (same-mode σ.interlace σ) (same-edition σ.edition σ)
same_good (Memory a) σ = refl

same-linear : (p : Place) (σ : Settings) → (settings_after p σ).linear ≡ σ.linear
unfolding settings_after
same-linear Register σ = refl
same-linear (Memory a) σ = refl

same-passing : (p : Place) (σ : Settings) → Passing σ → Passing (settings_after p σ)
same-passing p σ h = record { proper = same_good p σ ∙ h.proper; straight = same-linear p σ ∙ h.straight }

main-of : (σ : Settings) (m : List ℕ) → Passing σ → run m (main_of σ) ≡ run m (top_block σ.linear σ.top)
unfolding main_of ◌>>=◌
main-of σ m h = rw (passing-done σ h)

main-bad : (σ : Settings) (m : List ℕ) {x : Fault} → run m (check_settings σ) ≡ refused x → run m (main_of σ) ≡ refused x
unfolding main_of
main-bad σ m e = bind-refused 0 m (check_settings σ) _ e

same-top : (p : Place) (σ : Settings) (m : List ℕ) → top_block (settings_after p σ).linear (settings_after p σ).top ≡ top_block σ.linear σ.top
unfolding settings_after
same-top Register σ m = refl
same-top (Memory a) σ m = refl

pub main-kept : (p : Place) (σ : Settings) (m : List ℕ) → Given (run m (main_of σ)) → Given (run (memory_after p σ.linear m) (main_of (settings_after p σ)))
main-kept p σ m h = by (run m (check_settings σ)) refl
  where
    kept : Passing σ → Given (run (memory_after p σ.linear m) (main_of (settings_after p σ)))
    kept g =
        rw (main-of (settings_after p σ) (memory_after p σ.linear m) (same-passing p σ g), same-top p σ m)
        (top_kept σ.linear σ.top m (memory_after p σ.linear m) (change-less p σ.linear m) (rw (main-of σ m g) at h))

    by : (o : Outcome (Unit {0})) → run m (check_settings σ) ≡ o → Given (run (memory_after p σ.linear m) (main_of (settings_after p σ)))
    by (given i tt) e = kept (given-passing σ 0 m e)
    by (refused x) e = absurd (given-not h (main-bad σ m e))
