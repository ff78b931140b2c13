-- A slice of numbers with fixed places: how many there are, and the largest number that each may have.
use Rattle.std.specs.Prelude.{ℕ, ◌+◌, ◌≤◌, ◌≡◌, Bool, true, false, ◌&&◌, List, [], ◌∷◌, length, get_or, leb}

-- as many numbers as limits, and none above its limit
unfoldable pub within : List ℕ → List ℕ → Bool
within [] [] = true
within [] (x ∷ xs) = false
within (l ∷ ls) [] = false
within (l ∷ ls) (x ∷ xs) = leb x l && within ls xs

-- any number
abbrev pub any : ℕ
any = 4294967295

-- the same as facts on numbers, from the place i on
abbrev pub Below : ℕ → List ℕ → List ℕ → Type 0
Below i [] xs = Unit
Below i (l ∷ ls) xs = (get_or xs i 0 ≤ l) × Below (i + 1) ls xs

abbrev pub Within : List ℕ → List ℕ → Type 0
Within ls xs = (length xs ≡ length ls) × Below 0 ls xs
