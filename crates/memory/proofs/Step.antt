-- The step to another address, from its two parts: moves add up, addresses stay addresses, and no two step to the same one.
use Rattle.std.proofs.Common.{◌≡◌, ℕ, ◌+◌, ◌*◌, ◌/◌, ◌%◌, ◌<◌, ◌≤◌, Bool, true, false, eqb, ltb, refl, ◌∙◌, arith, ltb-true, lt-ltb, eq-eqb, eqb-true}
use Rattle.memory.specs.Address.{is_address, page, place, address_of, place_after, carry, page_after, forward, next_word}
use Rattle.memory.specs.Answers.{end_page}
use Rattle.memory.proofs.ReadBounds.{both}

-- the parts of an address that is made of them
page-of : (g p : ℕ) → p < 65536 → page (address_of g p) ≡ g
page-of g p h = omega arith

place_of : (g p : ℕ) → p < 65536 → place (address_of g p) ≡ p
place_of g p h = omega arith

-- the step of every number: in one sum, 24 bits of it or 16
pub step-linear : (a : ℕ) → next_word true a ≡ (a + 2) % 16777216
unfolding next_word
step-linear a = omega arith

pub step-segmented : (a : ℕ) → next_word false a ≡ a / 65536 * 65536 + (a + 2) % 65536
unfolding next_word
step-segmented a = omega arith

-- two moves are one: the places, what they carry, and the pages
places-add : (m n p : ℕ) → place_after n (place_after m p) ≡ place_after (m + n) p
places-add m n p = omega arith

carries-add : (m n p : ℕ) → carry m p + carry n (place_after m p) ≡ carry (m + n) p
carries-add m n p = omega arith

pages-add : (l : Bool) (c d g : ℕ) → page_after l d (page_after l c g) ≡ page_after l (c + d) g
pages-add true c d g = omega arith
pages-add false c d g = refl

pub forward-forward : (l : Bool) (m n a : ℕ) → forward l n (forward l m a) ≡ forward l (m + n) a
forward-forward l m n a =
    let p = place a in
    let g = page_after l (carry m p) (page a) in
    let small : place_after m p < 65536 = omega arith in
    rw (page-of g (place_after m p) small, place_of g (place_after m p) small, pages-add l (carry m p) (carry n (place_after m p)) (page a), carries-add m n p, places-add m n p)

-- a move that wraps nowhere is a sum
pub forward-sum : (l : Bool) (j k a : ℕ) → a / 2 + k ≤ end_page l (page a) * 32768 → j < k → forward l (2 * j) a ≡ a + 2 * j
forward-sum true j k a h i = omega arith
forward-sum false j k a h i = omega arith

pub end-small : (l : Bool) (g : ℕ) → g < 65536 → end_page l g ≤ 65536
end-small true g h = omega arith
end-small false g h = omega arith

-- what a move does is settled by the bytes it goes on, 24 bits of them
pub forward-cut : (l : Bool) (k a : ℕ) → forward l (k % 8388608 * 2) a ≡ forward l (2 * k) a
forward-cut true k a = omega arith
forward-cut false k a = omega arith

-- "different even addresses never step to the same one": two places that agree after a step agreed before it, and carry the same; so
-- do two pages that took the same carry
places-apart : (p q : ℕ) → p < 65536 → q < 65536 → place_after 2 p ≡ place_after 2 q → p ≡ q
places-apart p q h k e = omega arith

pages-apart : (l : Bool) (c g h : ℕ) → g < 256 → h < 256 → page_after l c g ≡ page_after l c h → g ≡ h
pages-apart true c g h i k e = omega arith
pages-apart false c g h i k e = e

-- a page stays below any bound that it was below, from 256 on
pub pages-kept : (l : Bool) (n c g : ℕ) → 256 ≤ n → g < n → page_after l c g < n
pages-kept true n c g h i = omega arith
pages-kept false n c g h i = i

even : (a : ℕ) → is_address a ≡ true → a % 2 ≡ 0
even a h = eqb-true (a % 2) 0 (both (eqb (a % 2) 0) (ltb a 16777216) h).0

in-pages : (a : ℕ) → is_address a ≡ true → page a < 256
in-pages a h = let small = ltb-true a 16777216 (both (eqb (a % 2) 0) (ltb a 16777216) h).1 in omega arith

-- a step keeps an address even and within 24 bits
pub step-address : (l : Bool) (a : ℕ) → is_address a ≡ true → is_address (next_word l a) ≡ true
unfolding next_word
step-address l a h =
    let g = page_after l (carry 2 (place a)) (page a) in
    let e = even a h in
    let small : g < 256 = pages-kept l 256 (carry 2 (place a)) (page a) (omega arith) (in-pages a h) in
    rw (eq-eqb (address_of g (place_after 2 (place a)) % 2) 0 (omega arith), lt-ltb (address_of g (place_after 2 (place a))) 16777216 (omega arith))

-- no two addresses step to the same one
pub step-apart : (l : Bool) (a b : ℕ) → is_address a ≡ true → is_address b ≡ true → next_word l a ≡ next_word l b → a ≡ b
unfolding next_word
step-apart l a b h k e =
    let g = page_after l (carry 2 (place a)) (page a) in
    let i = page_after l (carry 2 (place b)) (page b) in
    let places : place a ≡ place b = places-apart (place a) (place b) (omega arith) (omega arith) (omega arith) in
    let pages : g ≡ i = omega arith in
    let same : page a ≡ page b = pages-apart l (carry 2 (place a)) (page a) (page b) (in-pages a h) (in-pages b k) (pages ∙ rw places) in
    omega arith
