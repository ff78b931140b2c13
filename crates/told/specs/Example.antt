-- A screen whose row lacks a word of its codes, and what is then told.
use Rattle.std.specs.Prelude.{ℕ, true, false, List, [], ◌∷◌}
use Rattle.memory.specs.declared.Refusal.{Refusal}
use Rattle.settings.specs.declared.Edition.TheVariants.{Am8052}
use Rattle.settings.specs.declared.Interlace.TheVariants.{Progressive}
use Rattle.settings.specs.declared.Settings.{Settings}

-- the main block is at 2, and there is no window
unfoldable pub settings : Settings
settings = record {
  linear = true;
  hidden = false;
  interlace = Progressive;
  cursor = false;
  flag = 0;
  top = record { first = 0; second = 2 };
  tow = record { first = 0; second = 0 };
  vsw = 0;
  vsd = 0;
  val = 16;
  vtot = 20;
  hsync = 0;
  hsd = 1;
  htc = 7;
  htd = 5;
  edition = Am8052;
}

unfoldable pub memory : List ℕ
memory =
    0
    -- 2: the main block; M0, M1 point to 10
    ∷ 0 ∷ 0x10 ∷ 0 ∷ 0x20 ∷ 0 ∷ 0 ∷ 7
    -- 10: a row block, one segment
    ∷ 0 ∷ 0 ∷ 1
    -- 16: its code pointer, to 20; no attribute pointer; six codes, one visible
    ∷ 0 ∷ 0x20 ∷ 0 ∷ 0 ∷ 0x0601
    -- 20: four of the six codes, and memory ends
    ∷ 0x4142 ∷ 0x4344 ∷ []

-- the word at 24 is missing, and the pointer to the codes begins at 16
abbrev pub told : Refusal
told = record { number = 7; row = 0; address = 0x24; from = 0x16 }
