-- What a line shows in the columns of a window and elsewhere, and where every shown cell is from.
use Rattle.std.proofs.Common.{Option, Some, None}
use mathlib.Core.Path.{◌≡◌, refl, ap, sym, ◌∙◌}
use mathlib.Core.Bool.{Bool, true, false}
use mathlib.Core.List.{List, [], ◌∷◌, ◌++◌}
use mathlib.Core.Option.{Option as Maybe, none, some}
use Prim.Native.Nat.{ℕ, zero, suc, ◌<◌}
use native.Mathlib.Omega.{arith}
use lib.IntN.{ℤ, pos, nat_abs}
use lib.Signed.{lt_z}
use lib.ListN.{drop}
use Rattle.memory.specs.Word.{when◌then◌else◌}
use Rattle.memory.proofs.ReadBounds.{Words, if-cases}
use Rattle.settings.specs.declared.PointerWords.{PointerWords}
use Rattle.settings.specs.declared.Settings.{Settings}
use Rattle.panel.specs.declared.Background.{Background}
use Rattle.panel.specs.declared.Background.TheVariants.{Nothing, Row, Above}
use Rattle.panel.specs.Line.{is_down}
use Rattle.panel.specs.Shown.{in_columns, nothing, cell_in, cursor_bit, background_cell, with_cursor_of}
use Rattle.panel.specs.declared.Place.{Place}
use Rattle.picture.specs.Picture.{PictureRow, Picture, picture, line_on, first, still_row, gliding_row, layer_of, behind_of, shown_on}
use Rattle.picture.specs.Still.{still_on, gliding_on}
use Rattle.picture.specs.Windows.{in_window, shown_in, still_in, ShowsWindows, WindowsStandStill, NoWindow, NoWindowElsewhere, RowIn, of_frame, of_below, of_above, From, dark, of_row, behind, but_for_cursor, ShownFrom, ShowsNothingElse}
use Rattle.picture.proofs.Made.{each_first, each-if, frame_made, above-made, below-made}
use Rattle.picture.proofs.Clear.{nothing-clear, cursor-clear, ClearRow, made-clear}
use Rattle.picture.proofs.Shown.{Shows, nowhere, stands, glides, shows}
use Rattle.picture.proofs.Still.{still-place}

-- what is shown in a column
module _ (p : Picture) (y x : ℕ) where
  abbrev pub ShowsIn : ℕ → Type 0
  ShowsIn =
      Shows (layer_of (still_on p y)).cells (layer_of (still_on p y)).columns (layer_of (gliding_on p y)) (behind_of (gliding_on p y)) x

  pub shows_in : x < 132 → ShowsIn (shown_in p y x)
  unfolding shown_on
  shows_in l = shows _ _ (layer_of (gliding_on p y)) (behind_of (gliding_on p y)) x l

-- ---- in the columns ----

apart : true ≡ false → ⊥
apart e = let z : ◌≡◌ {A = ℕ} 0 1 = ap (λ (b : Bool). when b then 0 else 1) e in omega arith

in-columns : (p : Picture) (y x : ℕ) → in_window p y x ≡ true → {c : ℕ} → ShowsIn p y x c → c ≡ still_in p y x
in-columns p y x h (nowhere e) = sym (ap (λ (cs : List ℕ). cell_in cs x) e)
in-columns p y x h (stands e) = refl
in-columns p y x h (glides e) = absurd (apart (sym h ∙ e))

pub shows-windows : ShowsWindows
shows-windows p y x l h = in-columns p y x h (shows_in p y x l)

module _ (a b : ℤ) (soft : PointerWords) (latch : ℕ) (σ : Settings) (m : List ℕ) (y : ℕ) where
  abbrev p : Picture
  p = picture a soft latch σ m

  abbrev q : Picture
  q = picture b soft latch σ m

  same_line : (line_on p y).still ≡ (line_on q y).still
  unfolding picture
  same_line = still-place p y ∙ sym (still-place q y)

  same_rows : (z : Option Place) → still_row p z ≡ still_row q z
  unfolding picture
  same_rows None = refl
  same_rows (Some s) = refl

  same-still : still_on p y ≡ still_on q y
  same-still = ap (still_row p) same_line ∙ same_rows (line_on q y).still

  same-cells : (x : ℕ) → x < 132 → in_window p y x ≡ true → shown_in p y x ≡ shown_in q y x
  same-cells x l h =
      let in_q = ap (λ (s : Maybe PictureRow). in_columns (layer_of s).columns x) (sym same-still) ∙ h in
      shows-windows p y x l h ∙ ap (λ (s : Maybe PictureRow). cell_in (layer_of s).cells x) same-still ∙ sym (shows-windows q y x l in_q)

pub windows-stand-still : WindowsStandStill
windows-stand-still a b soft latch σ m y = record {
  line = same_line a b soft latch σ m y;
  row = same-still a b soft latch σ m y;
  cells = same-cells a b soft latch σ m y;
}

-- ---- where a cell is from ----

none_first : {r : PictureRow} (i : ℕ) → first (drop i []) ≡ some r → ⊥
none_first zero e = let z : ◌≡◌ {A = ℕ} 0 1 = cc in omega arith
none_first (suc i) e = let z : ◌≡◌ {A = ℕ} 0 1 = cc in omega arith

-- one of the frame's rows and those below
module _ (p : Picture) {r : PictureRow} where
  of-both : (k : ℕ) (rs : List PictureRow) → ((j : ℕ) → first (drop j rs) ≡ some r → RowIn p r)
      → first (drop k (rs ++ p.below)) ≡ some r → RowIn p r
  of-both k [] frame e = of_below k e
  of-both zero (q ∷ rs) frame e = frame 0 e
  of-both (suc k) (q ∷ rs) frame e = of-both k rs (λ j h. frame (suc j) h) e

  pub still-in : (z : Option Place) → still_row p z ≡ some r → RowIn p r
  still-in None e = let z : ◌≡◌ {A = ℕ} 0 1 = cc in absurd (omega arith)
  still-in (Some s) e = of_frame s.index e

  pub gliding-in : (z : Background) → gliding_row p z ≡ some r → RowIn p r
  gliding-in Nothing e = let z : ◌≡◌ {A = ℕ} 0 1 = cc in absurd (omega arith)
  gliding-in (Row b) e = of-both b.index p.rows of_frame e
  gliding-in (Above b) e = of_above e

-- what glides in a column
data Gliding (p : Picture) (x : ℕ) : ℕ → Type 0 where
  no_row : Gliding p x nothing
  outside : {r : PictureRow} → RowIn p r → in_columns r.columns x ≡ false → Gliding p x (cell_in r.cells x)
  inside : {r : PictureRow} → RowIn p r → in_columns r.columns x ≡ true → Gliding p x (cell_in r.behind x)

module _ (p : Picture) (x : ℕ) where
  by_row : (b : Maybe PictureRow) → ((r : PictureRow) → b ≡ some r → RowIn p r)
      → Gliding p x (background_cell (layer_of b) (behind_of b) (layer_of b).cells x)
  by_row none h = no_row
  by_row (some r) h = by r.cells
    where
      by : (cs : List ℕ) → Gliding p x (background_cell (layer_of (some r)) r.behind cs x)
      by [] = no_row
      by (c ∷ cs) = if-cases (Gliding p x) (in_columns r.columns x) (inside (h r refl)) (outside (h r refl))

  gliding : (y : ℕ) → Gliding p x (background_cell (layer_of (gliding_on p y)) (behind_of (gliding_on p y)) (layer_of (gliding_on p y)).cells x)
  gliding y = by_row (gliding_on p y) (λ r h. gliding-in p (line_on p y).background h)

  gliding-from : {c : ℕ} → Gliding p x c → From p x c
  gliding-from no_row = dark
  gliding-from (outside r e) = of_row r
  gliding-from (inside r e) = behind r e

  -- the cell of the row that stands still, where there is one
  still-from : (s : Maybe PictureRow) → ((r : PictureRow) → s ≡ some r → RowIn p r) → From p x (cell_in (layer_of s).cells x)
  still-from none h = dark
  still-from (some r) h = of_row (h r refl)

-- bit 22, put in and taken out
module _ (v c : ℕ) where
  cursor-apart : but_for_cursor (with_cursor_of v c) ≡ but_for_cursor c
  unfolding with_cursor_of
  cursor-apart = omega arith

  cursor-put : cursor_bit (with_cursor_of v c) ≡ cursor_bit v
  unfolding with_cursor_of
  cursor-put = omega arith

module _ (p : Picture) (y x : ℕ) where
  by-shown : {c : ℕ} → ShowsIn p y x c → shown_in p y x ≡ c → ShownFrom p y x
  by-shown (nowhere e) k = record {
    cell = nothing;
    from = dark;
    same = ap but_for_cursor k;
    cursor = ap cursor_bit k ∙ sym (ap (λ (cs : List ℕ). cursor_bit (cell_in cs x)) e);
  }
  by-shown (stands e) k = record {
    cell = still_in p y x;
    from = still-from p x (still_on p y) (λ r h. still-in p (line_on p y).still h);
    same = ap but_for_cursor k;
    cursor = ap cursor_bit k;
  }
  by-shown (glides e) k = record {
    cell = background_cell (layer_of (gliding_on p y)) (behind_of (gliding_on p y)) (layer_of (gliding_on p y)).cells x;
    from = gliding-from p x (gliding p x y);
    same = ap but_for_cursor k ∙ cursor-apart _ _;
    cursor = ap cursor_bit k ∙ cursor-put _ _;
  }

pub shows-nothing-else : ShowsNothingElse
shows-nothing-else p y x l = by-shown p y x (shows_in p y x l) refl

-- ---- elsewhere ----

module _ (shift : ℤ) (soft : PointerWords) (latch : ℕ) (σ : Settings) (m : List ℕ) (w : Words m) where
  abbrev shifted : Picture
  shifted = picture shift soft latch σ m

  rows-clear : {r : PictureRow} → RowIn shifted r → ClearRow r
  unfolding picture
  rows-clear (of_frame i e) = made-clear σ m w (each_first i (frame_made σ m w latch) e)
  rows-clear (of_below i e) = made-clear σ m w (each_first i (each-if (lt_z (pos 0) shift) (below-made σ m w latch (nat_abs shift))) e)
  rows-clear (of_above e) = made-clear _ m w (each_first 0 (each-if (is_down shift) (above-made _ m w _)) e)

  gliding-clear : {x c : ℕ} → Gliding shifted x c → NoWindow c
  gliding-clear no_row = nothing-clear
  gliding-clear {x} (outside r e) = (rows-clear r).cells x e
  gliding-clear {x} (inside r e) = (rows-clear r).behind x

  elsewhere : (y x : ℕ) → in_window shifted y x ≡ false → {c : ℕ} → ShowsIn shifted y x c → NoWindow c
  elsewhere y x h (nowhere e) = nothing-clear
  elsewhere y x h (stands e) = absurd (apart (sym e ∙ h))
  elsewhere y x h (glides e) = cursor-clear _ (gliding-clear (gliding shifted x y)) _

pub no-window-elsewhere : NoWindowElsewhere
no-window-elsewhere shift soft latch σ m w y x l h = elsewhere shift soft latch σ m w y x h (shows_in (picture shift soft latch σ m) y x l)
