-- What the cells of a text are.
use mathlib.Core.Path.{◌≡◌, refl, ◌∙◌}
use mathlib.Core.Bool.{true, false}
use mathlib.Core.List.{List, [], ◌∷◌, map}
use Prim.Native.Nat.{ℕ, ◌-◌, ◌<◌, ◌≤◌}
use native.Mathlib.Omega.{arith}
use lib.ListN.{length, take, length-map}
use lib.Seq.{length-take-le}
use borrow.Author.Tests.{lt-ltb, le-leb}
use Rattle.memory.proofs.ReadBounds.{if-cases}
use Rattle.codes.specs.Attribute.{code_of, attribute_of}
use Rattle.settings.specs.declared.Edition.TheVariants.{Am8052}
use Rattle.settings.specs.declared.Interlace.TheVariants.{Progressive}
use Rattle.settings.specs.declared.Settings.{Settings}
use Rattle.settings.specs.Good.{good, shown_columns}
use Rattle.settings.proofs.GoodLaws.{ordered}
use Rattle.mail.specs.Mail.{is_character, character_for, marks_for, text_cell, shown_cells}
use Rattle.mail.specs.Texts.{Each, IsCell, RowCells}
use Rattle.mail.proofs.TextLaws.{text-character, text-marks}

character-kept : (code : ℕ) → is_character (character_for code) ≡ true
character-kept code = if-cases (λ (n : ℕ). is_character n ≡ true) (is_character code) (λ e. e) (λ _. refl)

marks-small : (a : ℕ) → marks_for a < 16
marks-small a = omega arith

pub text-is-cell : (cell : ℕ) → IsCell (text_cell cell)
text-is-cell cell = record {
  character = rw (text-character cell) (character-kept (code_of cell));
  marks = rw (text-marks cell) (marks-small (attribute_of cell));
}

each_map : (cells : List ℕ) → Each IsCell (map text_cell cells)
each_map [] = tt
each_map (c ∷ cs) = (text-is-cell c, each_map cs)

pub shown-are-cells : (σ : Settings) (cells : List ℕ) → good σ ≡ true → length cells ≡ 132 → RowCells (shown_cells σ cells)
shown-are-cells σ cells g h =
    let o = ordered σ g in
    let n : length (shown_cells σ cells) ≡ shown_columns σ =
    length-map (take (shown_columns σ) cells) text_cell ∙ length-take-le (shown_columns σ) cells (omega arith) in
    record {
      some = omega arith;
      most = omega arith;
      each = each_map (take (shown_columns σ) cells);
    }

-- settings that show n columns
unfoldable pub showing : ℕ → Settings
showing n = record {
  linear = true;
  hidden = false;
  interlace = Progressive;
  cursor = false;
  flag = 0;
  top = record { first = 0; second = 0 };
  tow = record { first = 0; second = 0 };
  vsw = 0;
  vsd = 0;
  val = 1;
  vtot = 1;
  hsync = 0;
  hsd = 0;
  htc = 132;
  htd = n;
  edition = Am8052;
}

pub showing-good : (n : ℕ) → 1 ≤ n → n ≤ 132 → good (showing n) ≡ true
unfolding showing good
showing-good n h k =
    let d : n - 0 ≤ 132 = omega arith in
    let r : n ≤ 1023 = omega arith in
    rw (le-leb n 1023 r, lt-ltb 0 n h, le-leb n 132 k, le-leb (n - 0) 132 d)

pub showing-columns : (n : ℕ) → shown_columns (showing n) ≡ n
unfolding showing
showing-columns n = omega arith
