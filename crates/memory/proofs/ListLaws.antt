-- Lists that a loop fills or copies from the front.
use Rattle.std.proofs.Common.{◌≡◌, ℕ, ◌+◌, ◌<◌, ◌≤◌, List, [], ◌∷◌, ◌++◌, length, get_or, take, set, sym, ◌∙◌, add-one, take_all, take-suc, take-suc-set}

-- one more element
pub take_next : (l : List ℕ) (i x : ℕ) → i < length l → take (i + 1) (set l i x) ≡ take i l ++ (x ∷ [])
take_next l i x h = rw (add-one i) (take-suc-set l i x h)

-- a list that is copied from the front: one more, and all
pub copy_more : (l k : List ℕ) (i : ℕ) → i < length l → i < length k → take i l ≡ take i k
    → take (i + 1) (set l i (get_or k i 0)) ≡ take (i + 1) k
copy_more l k i h g e = take_next l i (get_or k i 0) h ∙ rw (e, add-one i) (sym (take-suc k i 0 g))

pub copy_done : (l k : List ℕ) (i : ℕ) → length l ≤ i → length k ≤ i → take i l ≡ take i k → l ≡ k
copy_done l k i h g e = sym (take_all i l h) ∙ e ∙ take_all i k g
