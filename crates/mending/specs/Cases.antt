-- Mending cases, computed: which pointer one step cuts, for each refusal from 7 to 13, and the refusals that are given as they are.
use Rattle.std.specs.Prelude.{ℕ, Bool, true, false, ◌&&◌, List, [], ◌∷◌, ◌++◌, eqb}
use Rattle.settings.specs.declared.Edition.TheVariants.{Am8052}
use Rattle.settings.specs.declared.Interlace.TheVariants.{Progressive}
use Rattle.settings.specs.declared.Settings.{Settings}
use Rattle.blame.specs.declared.Place.{Place}
use Rattle.blame.specs.declared.Place.TheVariants.{Register, Memory}
use Rattle.mending.specs.declared.MendAnswer.{MendAnswer}
use Rattle.mending.specs.declared.MendAnswer.TheVariants.{Whole, Changed, Refused}
use Rattle.mending.specs.Mending.{Stepped, mend_step}

-- are two lists of numbers the same?
unfoldable pub same : List ℕ → List ℕ → Bool
same [] [] = true
same [] (y ∷ ys) = false
same (x ∷ xs) [] = false
same (x ∷ xs) (y ∷ ys) = eqb x y && same xs ys

unfoldable pub every : List Bool → Bool
every [] = true
every (b ∷ bs) = b && every bs

-- four columns, two rows of 8 lines; TOP and TOW have these second words
unfoldable pub screen : (linear : Bool) (top tow val : ℕ) → Settings
screen linear top tow val = record {
  linear = linear;
  hidden = false;
  interlace = Progressive;
  cursor = false;
  flag = 0;
  top = record { first = 0; second = top };
  tow = record { first = 0; second = tow };
  vsw = 0;
  vsd = 0;
  val = val;
  vtot = 20;
  hsync = 0;
  hsd = 1;
  htc = 7;
  htd = 5;
  edition = Am8052;
}

-- a main block at 2 with M1, M3 and M4; at 16 a row block with its link and one segment, whose code pointer is at 22 and whose attribute
-- pointer is at 26; then the words from 32 on
unfoldable pub list : (m1 m3 m4 link codes attributes lengths : ℕ) → List ℕ → List ℕ
list m1 m3 m4 link codes attributes lengths more =
    0 ∷ 0 ∷ m1 ∷ 0 ∷ m3 ∷ m4 ∷ 0 ∷ 7
    ∷ 0 ∷ link ∷ 1 ∷ 0 ∷ codes ∷ 0 ∷ attributes ∷ lengths
    ∷ more

-- .. that draws: a segment of two columns without codes
unfoldable pub drawing : (link : ℕ) → List ℕ → List ℕ
drawing link more = list 16 0x20 0 link 0 0 2 more

-- another row block of one segment
unfoldable pub block : (codes lengths : ℕ) → List ℕ
block codes lengths = 0 ∷ 0 ∷ 1 ∷ 0 ∷ codes ∷ 0 ∷ 0 ∷ lengths ∷ []

-- a window block: its link, its row block, its first and last row, its first and last column
unfoldable pub window : (link rows span columns : ℕ) → List ℕ → List ℕ
window link rows span columns more = 0 ∷ link ∷ 0 ∷ rows ∷ span ∷ columns ∷ more

-- a place: whether it is in memory, and its address
abbrev pub placed : Place → List ℕ
placed Register = 0 ∷ 0 ∷ []
placed (Memory a) = 1 ∷ a ∷ []

-- a step's answer, then memory: the place, the pointer's old words, the refusal's number, TOW; or the refusal
unfoldable pub answered : MendAnswer → List ℕ
answered Whole = []
answered (Changed c σ) = placed c.place ++ c.first ∷ c.second ∷ c.number ∷ σ.tow.first ∷ σ.tow.second ∷ []
answered (Refused r) = r.number ∷ r.row ∷ r.address ∷ r.from ∷ []

unfoldable pub shown : Stepped → List ℕ
shown s = answered s.answer ++ s.memory

-- is the pointer at an address of `before` cut, which is `after` then? Its words are 0 and `second`, and TOW stays.
unfoldable pub cuts : (tow : ℕ) (before : List ℕ) (address second number : ℕ) (after : List ℕ) → Bool
cuts tow before address second number after =
    same (shown (mend_step 0 (screen true 2 tow 16) before)) (1 ∷ address ∷ 0 ∷ second ∷ number ∷ 0 ∷ tow ∷ after)

-- .. is TOW cut, and memory left?
unfoldable pub cuts_tow : (tow number : ℕ) → List ℕ → Bool
cuts_tow tow number m = same (shown (mend_step 0 (screen true 2 tow 16) m)) (0 ∷ 0 ∷ 0 ∷ tow ∷ number ∷ 0 ∷ 0 ∷ m)

-- .. is it this refusal, on row 0, and memory left?
unfoldable pub given : Settings → (number address : ℕ) → List ℕ → Bool
given σ number address m = same (shown (mend_step 0 σ m)) (number ∷ 0 ∷ address ∷ 0 ∷ m)

unfoldable pub cases : List Bool
cases =
    -- "A good list is unchanged."
    same (shown (mend_step 0 (screen true 2 32 16) (drawing 16 (window 0 0 0 1 [])))) (drawing 16 (window 0 0 0 1 []))
    -- "for 7 the pointer in use": a row's link, a code pointer, an attribute pointer, TOW
    ∷ cuts 0 (drawing 0x4566 []) 16 0x4566 7 (drawing 0 [])
    ∷ cuts 0 (list 16 0x20 0 0 0x4000 0 0x0202 []) 22 0x4000 7 (list 16 0x20 0 0 0 0 0x0202 [])
    ∷ cuts 0 (list 16 0x120 0 0 0 0x4000 2 []) 26 0x4000 7 (list 16 0x120 0 0 0 0 2 [])
    ∷ cuts_tow 0x4000 7 (drawing 0 [])
    -- "for 13 the attribute pointer in use"
    ∷ cuts 0 (list 16 0x120 0 0 0 32 2 (0x7FFF ∷ [])) 26 32 13 (list 16 0x120 0 0 0 0 2 (0x7FFF ∷ []))
    -- "for 9 and 10 the one that led to the row block or window row block": a row's link, the window block's second pointer, M0,M1
    ∷ cuts 0 (drawing 32 (block 2 1)) 16 32 9 (drawing 0 (block 2 1))
    ∷ cuts 32 (drawing 0 (window 0 44 0 1 (block 2 1))) 36 44 9 (drawing 0 (window 0 0 0 1 (block 2 1)))
    ∷ cuts 0 (list 16 0x20 0 0 0 0 133 []) 2 16 10 (list 0 0x20 0 0 0 0 133 [])
    -- "for 8, 11 and 12 the one that led to the window": the link of the window before, which is on row 0; 8 has the same row again
    ∷ cuts 32 (drawing 0 (window 44 0 0 1 (window 0 0 0 1 []))) 32 44 8 (drawing 0 (window 0 0 0 1 (window 0 0 0 1 [])))
    ∷ cuts 32 (drawing 0 (window 44 0 0 1 (window 0 56 0x0101 1 (block 0 3)))) 32 44 11 (drawing 0 (window 0 0 0 1 (window 0 56 0x0101 1 (block 0 3))))
    ∷ cuts 32 (drawing 16 (window 44 0 0 1 (window 0 0 0x0101 0x0102 []))) 32 44 12 (drawing 16 (window 0 0 0 1 (window 0 0 0x0101 0x0102 [])))
    -- ".. registers included": TOW
    ∷ cuts_tow 32 8 (drawing 0 (window 0 0 0x0100 1 []))
    ∷ cuts_tow 32 11 (drawing 0 (window 0 44 0 1 (block 0 3)))
    ∷ cuts_tow 32 12 (drawing 0 (window 0 0 0 0x0102 []))
    -- "2, 6, 14, 17 and 7 on a main block .. are given as they are"
    ∷ given (screen true 2 0 0) 2 0 (drawing 0 [])
    ∷ given (screen true 0 0 16) 6 0 (drawing 0 [])
    ∷ given (screen true 2 0 16) 14 0 (list 16 0x20 0x5000 0 0 0 2 [])
    ∷ given (screen false 2 0 16) 17 0 (drawing 0 [])
    ∷ given (screen true 0x4000 0 16) 7 0x4000 (drawing 0 [])
    ∷ []
