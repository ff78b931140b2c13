-- What the functions of this crate give: no rules of their own.
use Rattle.std.specs.Prelude.{ℕ, List, Result}
use Rattle.memory.specs.declared.Refusal.{Refusal}
use Rattle.converter.specs.Converter.{Called}
use Rattle.converter.specs.declared.Conversion.{Conversion}

-- the answer of `convert`, with the memory that it leaves
abbrev pub called : Result Conversion Refusal → List ℕ → Called
called answer memory = record { answer = answer; memory = memory }
