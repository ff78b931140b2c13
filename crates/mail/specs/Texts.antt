-- The texts that the writer writes, and the cells that they have.
use Rattle.std.specs.Prelude.{ℕ, ◌^◌, ◌<◌, ◌≤◌, ◌≡◌, true, List, [], ◌∷◌, length}
use Rattle.settings.specs.declared.Settings.{Settings}
use Rattle.settings.specs.Good.{good}
use Rattle.mail.specs.Mail.{is_character, character_of, marks_of, mail_text}

-- every element of a list has a property
abbrev pub Each : (ℕ → Type 0) → List ℕ → Type 0
Each P [] = Unit {0}
Each P (x ∷ xs) = P x × Each P xs

-- a text that the writer writes, for some good settings and the 132 cells of some row buffer, numbers of 32 bits
pub record WrittenText (text : List ℕ) : Type 0 where
  pub settings : Settings
  pub cells : List ℕ
  pub accepted : good settings ≡ true
  pub whole : length cells ≡ 132
  pub sized : Each (λ c. c < 2 ^ 32) cells
  pub written : text ≡ mail_text settings cells

-- a character and four marks
pub record IsCell (c : ℕ) : Type 0 where
  pub character : is_character (character_of c) ≡ true
  pub marks : marks_of c < 16

-- "one row, of 1 to 132 cells"
pub record RowCells (cells : List ℕ) : Type 0 where
  pub some : 1 ≤ length cells
  pub most : length cells ≤ 132
  pub each : Each IsCell cells
