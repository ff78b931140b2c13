-- What the functions of this crate give, as what the rules give: no rules of their own.
use Rattle.std.specs.Prelude.{ℕ, ◌<◌, List}
use Rattle.settings.specs.declared.Settings.{Settings}
use Rattle.mending.specs.declared.MendAnswer.{MendAnswer}
use Rattle.mending.specs.declared.MendAnswer.TheVariants.{Whole, Changed, Refused}
use Rattle.mending.specs.Mending.{count}

-- "Each change leaves fewer nonzero words, registers counted"
abbrev pub Fewer : Settings → List ℕ → MendAnswer → List ℕ → Type 0
Fewer σ m Whole m₁ = Unit
Fewer σ m (Changed c σ₁) m₁ = count σ₁ m₁ < count σ m
Fewer σ m (Refused r) m₁ = Unit
