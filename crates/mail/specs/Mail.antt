-- Document 02, §12: "Write each accepted row's shown columns as terminal text with ECMA-48 marks". The text of a row.
use Rattle.std.specs.Prelude.{ℕ, ◌+◌, ◌*◌, ◌/◌, ◌%◌, ◌^◌, Bool, ◌&&◌, List, [], ◌∷◌, ◌++◌, map, take, leb, eqb}
use Rattle.memory.specs.Word.{when◌then◌else◌, bit}
use Rattle.codes.specs.Attribute.{code_of, attribute_of}
use Rattle.settings.specs.declared.Settings.{Settings}
use Rattle.settings.specs.Good.{shown_columns}

-- "Codes outside 20h to 7Eh become `?`."
abbrev pub is_character : ℕ → Bool
is_character code = leb 0x20 code && leb code 0x7e

abbrev pub character_for : ℕ → ℕ
character_for code = when is_character code then code else 0x3f

-- the marks of an attribute, a number of four bits: 0 highlight, 1 underline, 2 blink, 3 reverse, of "attribute bits 6, 1, 0 and 5"
abbrev pub marks_for : ℕ → ℕ
marks_for attribute = attribute / 2 ^ 6 % 2 + attribute / 2 % 2 * 2 + attribute % 2 * 4 + attribute / 2 ^ 5 % 2 * 8

-- A cell as the text has it, and as it is read back: bits 7..0 the character, 11..8 the marks.
abbrev pub marked : ℕ → ℕ → ℕ
marked character marks = character + marks * 2 ^ 8

abbrev pub character_of : ℕ → ℕ
character_of c = c % 2 ^ 8

abbrev pub marks_of : ℕ → ℕ
marks_of c = c / 2 ^ 8

unfoldable pub text_cell : ℕ → ℕ
text_cell cell = marked (character_for (code_of cell)) (marks_for (attribute_of cell))

-- "1 highlight, 4 underline, 5 blink and 7 reverse": the parameter of the mark in bit k, where it holds, after its `;`
abbrev pub parameter : ℕ → ℕ → ℕ → List ℕ
parameter k digit marks = when bit k marks then 0x3b ∷ digit ∷ [] else []

-- "a fresh 0 and those .. that hold, rising, in one sequence with `;` between"
unfoldable pub sequence : ℕ → List ℕ
sequence marks =
    (0x1b ∷ 0x5b ∷ 0x30 ∷ [])
    ++ parameter 0 0x31 marks ++ parameter 1 0x34 marks ++ parameter 2 0x35 marks ++ parameter 3 0x37 marks
    ++ (0x6d ∷ [])

-- "before a cell whose marks differ from the cell before"
abbrev pub change : ℕ → ℕ → List ℕ
change before marks = when eqb marks before then [] else sequence marks

-- "`ESC [ 0 m` first on every row (1B 5B 30 6D)"; "A row ends in `ESC [ 0 m` and a line feed."
abbrev pub row_start : List ℕ
row_start = 0x1b ∷ 0x5b ∷ 0x30 ∷ 0x6d ∷ []

abbrev pub row_end : List ℕ
row_end = 0x1b ∷ 0x5b ∷ 0x30 ∷ 0x6d ∷ 0x0a ∷ []

-- the cells of a row after one with the marks `before`, and the row's end
unfoldable pub cells_text : ℕ → List ℕ → List ℕ
cells_text before [] = row_end
cells_text before (c ∷ cs) = change before (marks_of c) ++ character_of c ∷ cells_text (marks_of c) cs

-- the text of a row's cells: marks that "differ from the cell before (none, for the first)"
abbrev pub row_text : List ℕ → List ℕ
row_text cs = row_start ++ cells_text 0 cs

-- "each accepted row's shown columns"
abbrev pub shown_cells : Settings → List ℕ → List ℕ
shown_cells σ cells = map text_cell (take (shown_columns σ) cells)

abbrev pub mail_text : Settings → List ℕ → List ℕ
mail_text σ cells = row_text (shown_cells σ cells)
