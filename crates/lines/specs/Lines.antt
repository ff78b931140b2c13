-- Document 01, "The draw program": the lines of the output, as bytes. "Fields: decimal, but row attributes three hex digits,
-- the shown columns' cells and AAAAAA six, hex in capitals." Of a cell 02 has: "The draw program prints eight hex digits".
use Rattle.std.specs.Prelude.{ℕ, zero, suc, ◌+◌, ◌/◌, ◌%◌, ◌≤◌, ◌≡◌, List, [], ◌∷◌, ◌++◌, length, take, ltb, eqb}
use Prim.Native.Char.{code}
use Prim.Native.String.{String, [] as []ₛ, ◌∷◌ as ◌∷ₛ◌}
use Rattle.memory.specs.Word.{when◌then◌else◌}
use Rattle.memory.specs.declared.Refusal.{Refusal}
use Rattle.settings.specs.declared.Settings.{Settings}
use Rattle.settings.specs.Good.{shown_columns}
use Rattle.row.specs.declared.DrawnRow.{DrawnRow}

-- the bytes of a text
abbrev pub text : String → List ℕ
text []ₛ = []
text (c ∷ₛ cs) = code c ∷ text cs

-- a digit, "hex in capitals"
abbrev pub digit : ℕ → ℕ
digit d = when ltb d 10 then 48 + d else 55 + d

-- the last k digits of a number, the highest first
unfoldable pub digits : ℕ → ℕ → ℕ → List ℕ
digits base zero n = []
digits base (suc k) n = digits base k (n / base) ++ (digit (n % base) ∷ [])

abbrev pub hex : ℕ → ℕ → List ℕ
hex k n = digits 16 k n

-- without zeros in front of the first digit, or of the last
unfoldable pub fewest : List ℕ → List ℕ
fewest [] = []
fewest (c ∷ []) = c ∷ []
fewest (c ∷ d ∷ ds) = when eqb c 48 then fewest (d ∷ ds) else c ∷ d ∷ ds

-- 20 digits hold every number of 64 bits
abbrev pub decimal : ℕ → List ℕ
decimal n = fewest (digits 10 20 n)

-- a line stands at the start of a buffer, n bytes long; the second part follows from the first, and is what a caller who
-- lends those bytes needs. What the buffer's bytes past the line are is left free.
abbrev pub Line : List ℕ → ℕ → List ℕ → Type 0
Line line n buffer = (n ≤ length buffer) × (n ≡ length (take n buffer)) × (take n buffer ≡ line)

-- "row 0 lines 8 attr 000 words 12"
unfoldable pub row_line : DrawnRow → List ℕ
row_line r =
    text "row " ++ decimal r.number ++ text " lines " ++ decimal r.lines
    ++ text " attr " ++ hex 3 r.format.attributes ++ text " words " ++ decimal r.words ++ text "\n"

-- "100041 500042 100281 000220", each with "two leading zeros" (02)
unfoldable pub more_cells : List ℕ → List ℕ
more_cells [] = text "\n"
more_cells (c ∷ cs) = text " " ++ hex 8 c ++ more_cells cs

unfoldable pub cell_line : List ℕ → List ℕ
cell_line [] = text "\n"
cell_line (c ∷ cs) = hex 8 c ++ more_cells cs

abbrev pub shown_cells : Settings → List ℕ → List ℕ
shown_cells σ cells = take (shown_columns σ) cells

-- "end rows 2 words 22"
unfoldable pub end_line : ℕ → ℕ → List ℕ
end_line rows words = text "end rows " ++ decimal rows ++ text " words " ++ decimal words ++ text "\n"

-- "A refusal prints `refused N row R at AAAAAA`". 02: the line "gains ` from AAAAAA` at the end, for refusal 7 only"
abbrev pub origin : Refusal → List ℕ
origin r = when eqb r.number 7 then text " from " ++ hex 6 r.from else []

unfoldable pub refusal_line : Refusal → List ℕ
refusal_line r =
    text "refused " ++ decimal r.number ++ text " row " ++ decimal r.row ++ text " at " ++ hex 6 r.address ++ origin r ++ text "\n"

-- "prints `refused script at N`"
unfoldable pub script_line : ℕ → List ℕ
script_line offset = text "refused script at " ++ decimal offset ++ text "\n"
