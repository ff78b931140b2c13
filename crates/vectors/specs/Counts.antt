-- How many bytes are at the start of a buffer, and how many two texts begin with alike.
use Rattle.std.specs.Prelude.{ℕ, ◌≡◌, ◌≤◌, ◌==◌, List, length, take}
use Rattle.std.specs.List.{prefix_len, zip}

-- the first n bytes of xs are there, and n of them
abbrev pub IsPrefixLen : ℕ → List ℕ → Type 0
IsPrefixLen n xs = (n ≤ length xs) × (n ≡ length (take n xs))

-- how many pairs at the front of both are of equal bytes
abbrev pub alike : List ℕ → List ℕ → ℕ
alike a b = prefix_len (λ p. p.0 == p.1) (zip a b)

-- the first n bytes of both are there, and the same
abbrev pub BeginAlike : ℕ → List ℕ → List ℕ → Type 0
BeginAlike n a b = (n ≤ length a) × (n ≤ length b) × (take n a ≡ take n b)
