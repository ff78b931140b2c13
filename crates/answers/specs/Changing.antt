-- What a call that may change settings and memory leaves in the slices that it was lent.
use Rattle.std.specs.Prelude.{ℕ, List}

-- a status, and what stands in the settings, in memory and in the answer
pub record Left : Type 0 where
  pub status : ℕ
  pub settings : List ℕ
  pub memory : List ℕ
  pub answer : List ℕ

abbrev pub left : ℕ → List ℕ → List ℕ → List ℕ → Left
left status settings memory answer = record { status = status; settings = settings; memory = memory; answer = answer }
