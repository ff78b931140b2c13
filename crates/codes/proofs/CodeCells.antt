-- What every cell that a source makes keeps of a row in the making, the codes of a segment keep. So what holds of every such cell holds of
-- every cell that they put into a row.
use mathlib.Core.Bool.{◌&&◌, ◌||◌, not}
use mathlib.Core.List.{List, ◌++◌}
use Prim.Native.Nat.{ℕ, zero, suc, ◌<◌}
use native.Mathlib.Omega.{arith}
use lib.ListN.{replicate}
use lib.Dec.{ltb}
use Rattle.memory.specs.Word.{high, low}
use Rattle.memory.specs.Reading.{◌>>=◌, each}
use Rattle.memory.specs.declared.Pointer.{Pointer}
use Rattle.memory.specs.Address.{onward}
use Rattle.memory.proofs.Agree.{All, none, also}
use Rattle.memory.proofs.ReadBounds.{if-cases}
use Rattle.memory.proofs.Gives.{Gives, dones, asks, bind, if-gives}
use Rattle.codes.specs.declared.CodeSettings.{CodeSettings}
use Rattle.codes.specs.declared.Pen.{Pen}
use Rattle.codes.specs.declared.Source.{Source}
use Rattle.codes.specs.Attribute.{invokes, ignores, cell}
use Rattle.codes.specs.Codes.{Drawing, drawing, taking, put, character, examine, word_codes, codes}

module _ (K : Drawing → Type 0) where
  -- the cells of a source keep it, and another pen does
  abbrev pub Kept : Source → Type 0
  Kept source = (n attribute code : ℕ) (d : Drawing) → code < 256 → K d → K (put n (cell source attribute code) d)

  abbrev pub AnyPen : Type 0
  AnyPen = (p : Pen) (d : Drawing) → K d → K (drawing p d.cells)

  module _ (any-pen : AnyPen) (σ : CodeSettings) (source : Source) (kept : Kept source) (end : ℕ) where
    character-keeps : (attribute code : ℕ) (d : Drawing) → code < 256 → K d → K (character σ.hidden source end attribute code d)
    unfolding character
    character-keeps attribute code d l h =
        if-cases K ((σ.hidden || not (ignores attribute)) && ltb d.pen.column end) (λ _. kept 1 attribute code d l h) (λ _. h)

    examine-keeps : (code : ℕ) → code < 256 → (d : Drawing) → K d → Gives K (examine σ source end code d)
    unfolding examine ◌>>=◌
    examine-keeps code l d h =
        if-gives (invokes σ.flag code && d.pen.list.present)
        (λ _. asks λ w _. let p = taking σ.linear w d.pen in dones (character-keeps w code (drawing p d.cells) l (any-pen p d h)))
        (λ _. dones (character-keeps d.pen.latch code d l h))

    pub codes-keep : (n : ℕ) (p : Pointer) (d : Drawing) → K d → Gives K (codes σ source end n p d)
    unfolding codes word_codes each ◌>>=◌
    codes-keep zero p d h = dones h
    codes-keep (suc zero) p d h = asks λ w l. bind (examine-keeps (high w) (omega arith) d h) λ d₁ h₁. dones h₁
    codes-keep (suc (suc n)) p d h =
        asks λ w l.
        bind
        (bind (examine-keeps (high w) (omega arith) d h) λ d₁ h₁. bind (examine-keeps (low w) (omega arith) d₁ h₁) λ d₂ h₂. dones h₂)
        λ d₁ h₁. codes-keep n (onward σ.linear p) d₁ h₁

-- ---- of every cell ----

pub all_replicate : {P : ℕ → Type 0} (n value : ℕ) → P value → All P (replicate n value)
all_replicate zero value h = none
all_replicate (suc n) value h = also h (all_replicate n value h)

pub all_append : {P : ℕ → Type 0} {xs ys : List ℕ} → All P xs → All P ys → All P (xs ++ ys)
all_append none k = k
all_append (also h hs) k = also h (all_append hs k)

module _ (P : ℕ → Type 0) where
  -- the cells that a source makes, and those of a row in the making
  abbrev pub Makes : Source → Type 0
  Makes source = (attribute code : ℕ) → code < 256 → P (cell source attribute code)

  abbrev pub Cells : Drawing → Type 0
  Cells d = All P d.cells

  pub cells-kept : (source : Source) → Makes source → Kept Cells source
  unfolding put
  cells-kept source makes n attribute code d l h = all_append h (all_replicate n _ (makes attribute code l))

  pub any-pen : AnyPen Cells
  any-pen p d h = h
