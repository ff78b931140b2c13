-- What stands before a cell tells its marks: no two changes of marks begin the same text.
use mathlib.Core.Path.{◌≡◌, refl, sym, ap, ◌∙◌}
use mathlib.Core.Bool.{Bool, true, false}
use mathlib.Core.List.{List, [], ◌∷◌, ◌++◌}
use Prim.Native.Nat.{ℕ, ◌+◌, ◌<◌}
use native.Mathlib.Omega.{arith}
use lib.ListN.{drop}
use lib.Dec.{eqb}
use borrow.Author.Tests.{eqb-true, ne_eqb}
use Rattle.memory.specs.Word.{when◌then◌else◌}
use Rattle.mail.specs.Mail.{is_character, sequence, change, row_end}
use Rattle.mail.proofs.Below.{below}
use Rattle.mail.proofs.TextLaws.{character-range}

-- marks, and the text after them
record Parsed : Type 0 where
  marks : ℕ
  rest : List ℕ

abbrev parsed : ℕ → List ℕ → Parsed
parsed m t = record { marks = m; rest = t }

-- a parameter, where it stands next
digit-next : ℕ → ℕ → ℕ → ℕ → List ℕ → Parsed
digit-next digit weight m s [] = parsed m (s ∷ [])
digit-next digit weight m s (d ∷ t) = when eqb d digit then parsed (m + weight) t else parsed m (s ∷ d ∷ t)

mark-next : ℕ → ℕ → ℕ → List ℕ → Parsed
mark-next digit weight m [] = parsed m []
mark-next digit weight m (s ∷ t) = when eqb s 0x3b then digit-next digit weight m s t else parsed m (s ∷ t)

then-mark : ℕ → ℕ → Parsed → Parsed
then-mark digit weight p = mark-next digit weight p.marks p.rest

parse : List ℕ → Parsed
parse t =
    let p : Parsed = then-mark 0x37 8 (then-mark 0x35 4 (then-mark 0x34 2 (then-mark 0x31 1 (parsed 0 (drop 3 t))))) in
    parsed p.marks (drop 1 p.rest)

parse-sequence : (t : List ℕ) (marks : ℕ) → marks < 16 → parse (sequence marks ++ t) ≡ parsed marks t
unfolding sequence parse then-mark mark-next digit-next
parse-sequence t marks h =
    below (λ n. parse (sequence n ++ t) ≡ parsed n t) 16
    (refl, (refl, (refl, (refl, (refl, (refl, (refl, (refl, (refl, (refl, (refl, (refl, (refl, (refl, (refl, (refl, tt)))))))))))))))) marks h

-- the marks that a text begins with, after a cell with the marks `before`
lead : ℕ → List ℕ → Parsed
lead before [] = parsed before []
lead before (s ∷ t) = when eqb s 0x1b then parse (s ∷ t) else parsed before (s ∷ t)

lead-sequence : (before marks : ℕ) (t : List ℕ) → marks < 16 → lead before (sequence marks ++ t) ≡ parsed marks t
unfolding lead sequence
lead-sequence before marks t h = parse-sequence t marks h

no-escape : (c : ℕ) → is_character c ≡ true → eqb c 0x1b ≡ false
no-escape c e = ne_eqb c 0x1b (λ q. omega (arith, (character-range c e).0))

lead-change : (before marks c : ℕ) (t : List ℕ) → marks < 16 → is_character c ≡ true → lead before (change before marks ++ c ∷ t) ≡ parsed marks (c ∷ t)
unfolding lead
lead-change before marks c t h e = by (eqb marks before) refl
  where
    by : (same : Bool) → eqb marks before ≡ same → lead before (change before marks ++ c ∷ t) ≡ parsed marks (c ∷ t)
    by true q = rw (q, no-escape c e) (ap (λ (m : ℕ). parsed m (c ∷ t)) (sym (eqb-true marks before q)))
    by false q = rw q (lead-sequence before marks (c ∷ t) h)

lead-end : (before : ℕ) (t : List ℕ) → lead before (row_end ++ t) ≡ parsed 0 (0x0a ∷ t)
unfolding lead parse then-mark mark-next digit-next
lead-end before t = refl

-- the parts of a list that begins with a byte
head : List ℕ → ℕ
head [] = 0
head (x ∷ xs) = x

tail : List ℕ → List ℕ
tail [] = []
tail (x ∷ xs) = xs

-- two texts that begin with a cell are the same in each part
pub record SameCell (m n c d : ℕ) (s t : List ℕ) : Type 0 where
  pub marks : m ≡ n
  pub character : c ≡ d
  pub rest : s ≡ t

pub same-cell : (before m n c d : ℕ) (s t : List ℕ) → m < 16 → n < 16 → is_character c ≡ true → is_character d ≡ true
    → change before m ++ c ∷ s ≡ change before n ++ d ∷ t → SameCell m n c d s t
unfolding head tail
same-cell before m n c d s t h k e f q =
    let p : parsed m (c ∷ s) ≡ parsed n (d ∷ t) = sym (lead-change before m c s h e) ∙ ap (lead before) q ∙ lead-change before n d t k f in
    record {
      marks = ap (λ (x : Parsed). x.marks) p;
      character = ap (λ (x : Parsed). head x.rest) p;
      rest = ap (λ (x : Parsed). tail x.rest) p;
    }

-- no text that begins with a cell is a row's end
pub no_end : (before m c : ℕ) (s t : List ℕ) → m < 16 → is_character c ≡ true → change before m ++ c ∷ s ≡ row_end ++ t → ⊥
unfolding head
no_end before m c s t h e q =
    let p : c ≡ 0x0a = ap (λ (x : Parsed). head x.rest) (sym (lead-change before m c s h e) ∙ ap (lead before) q ∙ lead-end before t) in
    omega (arith, (character-range c e).0)
