-- The longest text that a row can have: 1,593 bytes. A change to all four marks takes 12 bytes, any other at most 10, and after a cell with all
-- four there is none to all four.
use mathlib.Core.Path.{◌≡◌, refl, sym, ◌∙◌}
use mathlib.Core.Bool.{Bool, true, false}
use mathlib.Core.List.{List, [], ◌∷◌}
use Prim.Native.Nat.{ℕ, zero, suc, ◌+◌, ◌*◌, ◌<◌, ◌≤◌}
use native.Mathlib.Omega.{arith}
use native.Mathlib.Decide.{ℕ_discrete}
use lib.ListN.{length, length-append}
use lib.Dec.{eqb, leb}
use borrow.Author.Tests.{eqb-true, eqb-false, leb-true}
use Rattle.memory.specs.Word.{when◌then◌else◌}
use Rattle.settings.specs.declared.Settings.{Settings}
use Rattle.settings.specs.Good.{good}
use Rattle.mail.specs.Mail.{marks_of, character_of, text_cell, sequence, change, cells_text, row_text, shown_cells, mail_text}
use Rattle.mail.specs.Texts.{Each, IsCell, RowCells}
use Rattle.mail.proofs.Below.{below}
use Rattle.mail.proofs.CellLaws.{showing, shown-are-cells}

-- the most bytes that m cells take, after one with all four marks or after another
abbrev most : Bool → ℕ → ℕ
most full zero = 0
most true (suc m) = 11 + most false m
most false (suc m) = 13 + most true m

near : (m : ℕ) → (most true m ≤ most false m) × (most false m ≤ 2 + most true m)
near zero = (omega arith, omega arith)
near (suc m) = let h = near m in (omega arith, omega arith)

bounded : (m : ℕ) → (most true m ≤ 12 * m) × (most false m ≤ 12 * m + 1)
bounded zero = (omega arith, omega arith)
bounded (suc m) = let h = bounded m in (omega arith, omega arith)

abbrev longest : ℕ → ℕ
longest marks = when eqb marks 15 then 12 else 10

sequence-length : (marks : ℕ) → marks < 16 → length (sequence marks) ≤ longest marks
unfolding sequence
sequence-length marks h =
    leb-true _ _ (below (λ n. leb (length (sequence n)) (longest n) ≡ true) 16 (refl, (refl, (refl, (refl, (refl, (refl, (refl, (refl, (refl, (refl, (refl, (refl, (refl, (refl, (refl, (refl, tt)))))))))))))))) marks h)

grow : (full : Bool) (m : ℕ) → suc (most full m) ≤ most full (suc m)
grow true m = let h = near m in omega arith
grow false m = let h = near m in omega arith

-- a change of marks, a character, and the cells after it
one_more : (before marks m rest : ℕ) → marks < 16 → rest ≤ most (eqb marks 15) m + 5
    → length (change before marks) + suc rest ≤ most (eqb before 15) (suc m) + 5
one_more before marks m rest h r = by (eqb marks before) (eqb marks 15) (eqb before 15) refl refl refl
  where
    by : (same full was : Bool) → eqb marks before ≡ same → eqb marks 15 ≡ full → eqb before 15 ≡ was
        → length (change before marks) + suc rest ≤ most (eqb before 15) (suc m) + 5
    by true full was e f g =
        let q : rest ≤ most (eqb before 15) m + 5 = rw (eqb-true marks before e) at r in
        rw e (omega (arith, grow (eqb before 15) m))
    by false true true e f g = absurd (eqb-false marks before e (eqb-true marks 15 f ∙ sym (eqb-true before 15 g)))
    by false true false e f g =
        let l : length (sequence marks) ≤ 12 = rw f at (sequence-length marks h) in
        let q : rest ≤ most true m + 5 = rw f at r in
        rw (e, g) (omega arith)
    by false false true e f g =
        let l : length (sequence marks) ≤ 10 = rw f at (sequence-length marks h) in
        let q : rest ≤ most false m + 5 = rw f at r in
        rw (e, g) (omega arith)
    by false false false e f g =
        let l : length (sequence marks) ≤ 10 = rw f at (sequence-length marks h) in
        let q : rest ≤ most false m + 5 = rw f at r in
        rw (e, g) (omega (arith, (near m).1))

cells-length : (before : ℕ) (cells : List ℕ) → Each IsCell cells → length (cells_text before cells) ≤ most (eqb before 15) (length cells) + 5
unfolding cells_text
cells-length before [] h = omega arith
cells-length before (c ∷ cs) h =
    rw (length-append (change before (marks_of c)) (character_of c ∷ cells_text (marks_of c) cs))
    (one_more before (marks_of c) (length cs) (length (cells_text (marks_of c) cs)) h.0.marks (cells-length (marks_of c) cs h.1))

pub row-length : (cells : List ℕ) → RowCells cells → length (row_text cells) ≤ 1593
row-length cells h =
    let l : length (cells_text 0 cells) ≤ most false (length cells) + 5 = cells-length 0 cells h.each in
    by (ℕ_discrete (length cells) 132) l
  where
    by : Dec (length cells ≡ 132) → length (cells_text 0 cells) ≤ most false (length cells) + 5 → length (row_text cells) ≤ 1593
    by (yes e) l = let k : length (cells_text 0 cells) ≤ 1589 = rw e at l in omega arith
    by (no f) l = omega (arith, (bounded (length cells)).1)

pub text-length : (σ : Settings) (cells : List ℕ) → good σ ≡ true → length cells ≡ 132 → length (mail_text σ cells) ≤ 1593
text-length σ cells g h = row-length (shown_cells σ cells) (shown-are-cells σ cells g h)

-- a row with that many: cells with all four marks and cells with three take turns
pub in_turns : ℕ → List ℕ
in_turns zero = []
in_turns (suc n) = 0x6341 ∷ 0x2341 ∷ in_turns n

pub longest-reached : (good (showing 132) ≡ true) × (length (in_turns 66) ≡ 132) × (length (mail_text (showing 132) (in_turns 66)) ≡ 1593)
unfolding showing in_turns good text_cell sequence cells_text
longest-reached = (refl, refl, refl)
