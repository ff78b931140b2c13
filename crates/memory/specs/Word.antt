-- Parts of a 16-bit word, and the choice by a test that the rules use.
use Rattle.std.specs.Prelude.{ℕ, ◌/◌, ◌%◌, ◌^◌, Bool, true, false, List, ◌==◌, slice_index}

infix 0 when◌then◌else◌
abbrev pub when◌then◌else◌ : {A : Type 0} → Bool → A → A → A
when true then a else b = a
when false then a else b = b

-- bit n, counted from 0
abbrev pub bit : ℕ → ℕ → Bool
bit n w = w / 2 ^ n % 2 == 1

abbrev pub high : ℕ → ℕ
high w = w / 256

abbrev pub low : ℕ → ℕ
low w = w % 256

-- word k of a list, counted from 0
abbrev pub at : List ℕ → ℕ → ℕ
at ws k = slice_index ws k
