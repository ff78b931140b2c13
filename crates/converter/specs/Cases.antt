-- Converter cases, computed: P3 and P4 ("P3 and P4 keep their segmented halves as converter cases"), the order of the checks, and each
-- refusal of its own.
use Rattle.std.specs.Prelude.{ℕ, Bool, true, false, ◌&&◌, List, [], ◌∷◌, ◌++◌, length, replicate, eqb, Result, Ok, Err}
use Rattle.memory.specs.Address.{pointer}
use Rattle.memory.specs.declared.Refusal.{Refusal}
use Rattle.settings.specs.declared.Edition.TheVariants.{Am8052}
use Rattle.settings.specs.declared.Interlace.TheVariants.{Progressive}
use Rattle.settings.specs.declared.Settings.{Settings}
use Rattle.converter.specs.Converter.{turned_first, Called, convert_call}
use Rattle.converter.specs.declared.Conversion.{Conversion}

-- are two lists of numbers the same?
unfoldable pub same : List ℕ → List ℕ → Bool
same [] [] = true
same [] (y ∷ ys) = false
same (x ∷ xs) [] = false
same (x ∷ xs) (y ∷ ys) = eqb x y && same xs ys

unfoldable pub every : List Bool → Bool
every [] = true
every (b ∷ bs) = b && every bs

-- four columns, 16 lines; TOP is two words, and there is no window
unfoldable pub screen : Bool → (first second vtot : ℕ) → Settings
screen linear first second vtot = record {
  linear = linear;
  hidden = false;
  interlace = Progressive;
  cursor = false;
  flag = 0x8080;
  top = record { first = first; second = second };
  tow = record { first = 0x80FF; second = 0 };
  vsw = 0;
  vsd = 0;
  val = 16;
  vtot = vtot;
  hsync = 0;
  hsd = 1;
  htc = 7;
  htd = 5;
  edition = Am8052;
}

-- what a conversion answers: the count of pointers, or a refusal; and whether the memory is then another
unfoldable pub answered : Result Conversion Refusal → List ℕ
answered (Ok c) = c.pointers ∷ c.settings.top.first ∷ c.settings.top.second ∷ c.settings.tow.first ∷ []
answered (Err r) = r.number ∷ r.row ∷ r.address ∷ r.from ∷ []

unfoldable pub shown : Called → List ℕ
shown c = answered c.answer ++ c.memory

-- a main block at 2 with rows of these lines (less 1), its first row block at 10 with one segment at 16: codes and attributes at these
-- addresses, L 2, V 1; then the words from 20 on
unfoldable pub list : (m0 lines link to codes attributes : ℕ) → List ℕ → List ℕ
list m0 lines link to codes attributes more =
    0 ∷ m0 ∷ 0x10 ∷ 0 ∷ 0x20 ∷ 0 ∷ 0 ∷ lines
    ∷ link ∷ to ∷ 1 ∷ 0 ∷ codes ∷ 0 ∷ attributes ∷ 0x0201
    ∷ more

-- the answer to as many marks as words, and the memory then
unfoldable pub converted : Settings → List ℕ → List ℕ
converted σ m = shown (convert_call 0 σ m (length m))

-- is it this refusal, and the memory as it was?
unfoldable pub refuses : List ℕ → (number row address from : ℕ) → Bool
refuses m number row address from = same (converted (screen false 0x80FF 2 20) m) (number ∷ row ∷ address ∷ from ∷ m)

unfoldable pub cases : List Bool
cases =
    -- P4, in the link of the only row, and its like in M0, TOP and TOW, each turned once; the other words stay
    same (converted (screen false 0x80FF 2 20) (list 0x00FF 15 0x0123 0x4567 0x20 0 (0x4142 ∷ []))) (4 ∷ 0 ∷ 2 ∷ 0 ∷ list 0 15 1 0x4567 0x20 0 (0x4142 ∷ []))
    ∷ eqb (pointer true 0 (turned_first 0x0123) 0x4567).address (pointer false 0 0x0123 0x4567).address
    -- a block that two rows read is turned once, and counts once; TOW alone changes beside it
    ∷ same (converted (screen false 0 2 20) (list 0 7 0x8000 0x10 0x20 0 (0x4142 ∷ []))) (2 ∷ 0 ∷ 2 ∷ 0 ∷ list 0 7 0 0x10 0x20 0 (0x4142 ∷ []))
    -- codes that are read from a word of the same block that is no pointer's
    ∷ same (answered (convert_call 0 (screen false 0 2 20) (list 0 15 0 0 0x14 0 []) 16).answer) (1 ∷ 0 ∷ 2 ∷ 0 ∷ [])
    -- 19: codes from a pointer's first word, from its second, and an attribute word from a code pointer's
    ∷ refuses (list 0 15 0 0 0x10 0 []) 19 0 0x10 0
    ∷ refuses (list 0 15 0 0 0x12 0 []) 19 0 0x12 0
    ∷ refuses (list 0 15 0 0 0x20 0x16 (0x8042 ∷ [])) 19 0 0x16 0
    -- .. in the other order: what row 0 read as codes is a link in row 1; a second word that is then a first one
    ∷ refuses (list 0 7 0 0x20 0x20 0 (0 ∷ 0 ∷ 0 ∷ [])) 19 1 0x20 0
    ∷ refuses (list 0 7 0 0x12 0x20 0 (0x4142 ∷ [])) 19 1 0x12 0
    -- the drawing's own: 7 with its pointer, 6
    ∷ refuses (list 0x00FF 15 0x0123 0x4567 0x22 0 (0x4142 ∷ [])) 7 0 0x22 0x16
    ∷ same (converted (screen false 0x80FF 1 20) []) (6 ∷ 0 ∷ 0 ∷ 0 ∷ [])
    -- 22, 2, 26
    ∷ same (answered (convert_call 0 (screen true 0 2 5) (0 ∷ []) 2).answer) (22 ∷ 0 ∷ 0 ∷ 0 ∷ [])
    ∷ same (answered (convert_call 0 (screen true 0 2 5) (0 ∷ []) 1).answer) (2 ∷ 0 ∷ 0 ∷ 0 ∷ [])
    ∷ same (answered (convert_call 0 (screen true 0 2 20) (0 ∷ []) 1).answer) (26 ∷ 0 ∷ 0 ∷ 0 ∷ [])
    ∷ []

-- P3: a memory of one page, which ends in these words
unfoldable pub whole_page : ℕ → List ℕ → List ℕ
whole_page before words = replicate before 0 ++ words

unfoldable pub page_case : (top : ℕ) → List ℕ
page_case top = answered (convert_call 0 (screen false 0 top 20) (whole_page 32761 (0 ∷ 0 ∷ 0 ∷ 0x20 ∷ 0 ∷ 0 ∷ 15 ∷ [])) 32768).answer

-- "P3 after 00FFFE: .. 000000 segmented": a main block that ends in the page's last word is turned; one that goes on there is 18
unfoldable pub page_cases : List Bool
page_cases = same (page_case 0xFFF2) (1 ∷ 0 ∷ 0xFFF2 ∷ 0 ∷ []) ∷ same (page_case 0xFFF4) (18 ∷ 0 ∷ 0xFFFE ∷ 0 ∷ []) ∷ []

-- .. of a code list and of an attribute list: a whole page whose one row has four codes from one address on, and attribute words from
-- another; the codes at 20 take two attribute words, and the rest of the page is 0
unfoldable pub list_case : (codes attributes : ℕ) → List ℕ
list_case codes attributes =
    answered
    (convert_call 0 (screen false 0 2 20)
    (0 ∷ 0 ∷ 0x10 ∷ 0 ∷ 0x20 ∷ 0 ∷ 0 ∷ 15 ∷ 0 ∷ 0 ∷ 1 ∷ 0 ∷ codes ∷ 0 ∷ attributes ∷ 0x0404 ∷ 0x8080 ∷ 0x4142 ∷ whole_page 32750 []) 32768).answer

-- a list that ends in the page's last word is followed; one that goes on there is 18
unfoldable pub list_cases : List Bool
list_cases =
    same (list_case 0xFFFC 0) (1 ∷ 0 ∷ 2 ∷ 0 ∷ []) ∷ same (list_case 0xFFFE 0) (18 ∷ 0 ∷ 0xFFFE ∷ 0 ∷ [])
    ∷ same (list_case 0x20 0xFFFC) (1 ∷ 0 ∷ 2 ∷ 0 ∷ []) ∷ same (list_case 0x20 0xFFFE) (18 ∷ 0 ∷ 0xFFFE ∷ 0 ∷ []) ∷ []
