-- How many words the codes of a segment read at most, and how many cells there are then.
use mathlib.Core.Path.{◌≡◌, refl}
use mathlib.Core.Bool.{◌&&◌, ◌||◌, not}
use mathlib.Core.List.{List, [], ◌∷◌}
use Prim.Native.Nat.{ℕ, zero, suc, ◌+◌, ◌*◌, ◌/◌, ◌≤◌}
use native.Mathlib.Omega.{arith}
use native.Mathlib.Nat.{le_refl}
use lib.ListN.{length, length-append, length-replicate}
use lib.Dec.{ltb, lit<}
use borrow.Author.Tests.{ltb-true}
use Rattle.memory.specs.Word.{high, low}
use Rattle.memory.specs.Reading.{◌>>=◌, each}
use Rattle.memory.specs.declared.Pointer.{Pointer}
use Rattle.memory.specs.Address.{onward}
use Rattle.memory.proofs.ReadBounds.{Reads, dones, asks, bind, if-cases, if-reads, both}
use Rattle.codes.specs.declared.CodeSettings.{CodeSettings}
use Rattle.codes.specs.declared.Source.{Source}
use Rattle.codes.specs.Attribute.{invokes, ignores, cell}
use Rattle.codes.specs.Codes.{Drawing, drawing, taking, put, character, examine, word_codes, codes}

-- as many cells as the pen's column says
abbrev pub Even : Drawing → Type 0
Even d = length d.cells ≡ d.pen.column

-- .. up to a column at most; at a column
abbrev pub Inked : ℕ → Drawing → Type 0
Inked end d = Even d × (d.pen.column ≤ end)

abbrev pub At : ℕ → Drawing → Type 0
At c d = Even d × (d.pen.column ≡ c)

pub put-at : (n value c : ℕ) (d : Drawing) → Even d → d.pen.column + n ≡ c → At c (put n value d)
unfolding put
put-at n value c d h e = (simp (length-append, length-replicate) (omega arith), e)

module _ (σ : CodeSettings) where
  character-inked : (source : Source) (end attribute code : ℕ) (d : Drawing) → Inked end d → Inked end (character σ.hidden source end attribute code d)
  unfolding character
  character-inked source end attribute code d h =
      if-cases (Inked end) ((σ.hidden || not (ignores attribute)) && ltb d.pen.column end)
      (λ e. let k = put-at 1 (cell source attribute code) (d.pen.column + 1) d h.0 refl in
      (k.0, omega (arith, ltb-true d.pen.column end (both (σ.hidden || not (ignores attribute)) (ltb d.pen.column end) e).1)))
      (λ _. h)

  pub examine-reads : (source : Source) (end code : ℕ) (d : Drawing) → Inked end d → Reads (Inked end) 1 (examine σ source end code d)
  unfolding examine ◌>>=◌ taking
  examine-reads source end code d h =
      if-reads (invokes σ.flag code && d.pen.list.present)
      (λ _. asks {n = 1} {k = 0} (le_refl 1) λ w _. dones (character-inked source end w code (drawing (taking σ.linear w d.pen) d.cells) h))
      (λ _. dones (character-inked source end d.pen.latch code d h))

  -- a word's codes, one word each at most
  each-examined : (source : Source) (end : ℕ) (cs : List ℕ) (d : Drawing) → Inked end d
      → Reads (Inked end) (length cs) (each (examine σ source end) cs d)
  unfolding each
  each-examined source end [] d h = dones h
  each-examined source end (c ∷ cs) d h =
      bind {n = 1} {k = length cs} (omega arith) (examine-reads source end c d h) (each-examined source end cs)

  -- three words to two codes
  pub codes-read : (source : Source) (end n : ℕ) (p : Pointer) (d : Drawing) → Inked end d → Reads (Inked end) ((3 * n + 1) / 2) (codes σ source end n p d)
  unfolding codes word_codes ◌>>=◌
  codes-read source end zero p d h = dones h
  codes-read source end (suc zero) p d h = asks {k = 1} (lit< tt) λ w _. each-examined source end (high w ∷ []) d h
  codes-read source end (suc (suc n)) p d h =
      let t = (3 * n + 1) / 2 in
      asks {n = (3 * suc (suc n) + 1) / 2} {k = t + 2} (omega arith) λ w _.
      bind {n = 2} {k = t} (omega arith) (each-examined source end (high w ∷ low w ∷ []) d h) λ d₁ h₁.
      codes-read source end n (onward σ.linear p) d₁ h₁
