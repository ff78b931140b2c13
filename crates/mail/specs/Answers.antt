-- What the functions of this crate leave in a buffer: no rules of their own.
use Rattle.std.specs.Prelude.{ℕ, ◌+◌, ◌≡◌, List, ◌++◌, length, take, drop}

-- a text was put after the first `at` bytes of the buffer `old`, up to `end`
pub record Put (at : ℕ) (text old : List ℕ) (end : ℕ) (new : List ℕ) : Type 0 where
  pub ends : end ≡ at + length text
  pub front : take end new ≡ take at old ++ text
  pub past : drop end new ≡ drop end old
