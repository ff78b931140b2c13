-- Where the cells of a window are: on a row with a window, what holds of every cell of fill and of the background holds of the cells before
-- the window's first column and of those after its last.
use mathlib.Core.Path.{◌≡◌, refl, ap, sym, ◌∙◌}
use mathlib.Core.Bool.{true}
use mathlib.Core.List.{List, [], ◌++◌, append_assoc, append-nil}
use Prim.Native.Nat.{ℕ, ◌<◌}
use native.Mathlib.Omega.{arith}
use lib.ListN.{length, replicate}
use Rattle.memory.specs.Reading.{Reading}
use Rattle.memory.proofs.Agree.{All, none}
use Rattle.memory.proofs.ReadBounds.{both}
use Rattle.memory.proofs.Gives.{Gives, dones, refuses, asks, bind, reads-give}
use Rattle.blocks.specs.declared.FillMode.{FillMode}
use Rattle.blocks.specs.declared.Segment.{Segment}
use Rattle.blocks.proofs.BlockBounds.{Few}
use Rattle.layout.specs.declared.Side.TheVariants.{Before, After}
use Rattle.layout.specs.Layout as Layout
use Rattle.layout.specs.Layout.{boundary, edges_fit, segments_on}
use Rattle.layout.proofs.LayoutLaws.{clear, before-total, side-short}
use Rattle.layout.proofs.OverlayBounds.{Inside}
use Rattle.codes.specs.declared.CodeSettings.{CodeSettings}
use Rattle.codes.specs.declared.Source.{Source}
use Rattle.codes.specs.Attribute.{Fill, Background, Window, cell}
use Rattle.codes.specs.Codes.{Drawing, blank, no_list, with_list, put}
use Rattle.codes.proofs.CodeCells.{Kept, AnyPen, all_replicate, all_append, Makes, Cells, cells-kept, any-pen}
use Rattle.cells.specs.Cells.{segments_to, row_cells}
use Rattle.cells.proofs.CellBounds.{segments-to-read}
use Rattle.cells.proofs.CellSources.{run-keeps}

-- two things that a reading gives, and what follows from one
pub both-give : {A : Type 0} {P Q : A → Type 0} {p : Reading A} → Gives P p → Gives Q p → Gives (λ a. P a × Q a) p
both-give (dones h) (dones k) = dones (h, k)
both-give refuses refuses = refuses
both-give (asks g) (asks h) = asks λ w l. both-give (g w l) (h w l)

pub implies : {A : Type 0} {P Q : A → Type 0} {p : Reading A} → ((a : A) → P a → Q a) → Gives P p → Gives Q p
implies f (dones {a} h) = dones (f a h)
implies f refuses = refuses
implies f (asks g) = asks λ w l. implies f (g w l)

-- the cells that have come since some others
module _ (P : ℕ → Type 0) (front : List ℕ) where
  pub record Since (d : Drawing) : Type 0 where
    pub more : List ℕ
    pub cells : d.cells ≡ front ++ more
    pub all : All P more

  since-kept : (source : Source) → Makes P source → Kept Since source
  unfolding put
  since-kept source makes n attribute code d l h =
      let new = replicate n (cell source attribute code) in record {
        more = h.more ++ new;
        cells = ap (λ (cs : List ℕ). cs ++ new) h.cells ∙ append_assoc front h.more new;
        all = all_append h.all (all_replicate n _ (makes attribute code l));
      }

  since-pen : AnyPen Since
  since-pen p d h = record { more = h.more; cells = h.cells; all = h.all }

-- the cells before a window, in it and after it
pub record Around (P : ℕ → Type 0) (first end : ℕ) (cs : List ℕ) : Type 0 where
  pub before : List ℕ
  pub inside : List ℕ
  pub after : List ℕ
  pub cells : cs ≡ (before ++ inside) ++ after
  pub begins : length before ≡ first
  pub ends : length (before ++ inside) ≡ end
  pub outside : All P before × All P after

module _ (P : ℕ → Type 0) (σ : CodeSettings) (fill : FillMode) (byte : fill.code < 256) (fills : Makes P Fill) (back : Makes P Background) where
  since : (Q : ℕ → Type 0) → Makes Q Fill → (source : Source) → Makes Q source → (gs : List Segment) (end : ℕ) (front : List ℕ) (d : Drawing)
      → d.cells ≡ front → Gives (Since Q front) (segments_to σ fill source gs end d)
  since Q filling source makes gs end front d e =
      run-keeps (Since Q front) (since-pen Q front) σ fill byte (since-kept Q front Fill filling) source (since-kept Q front source makes) gs end d
      (record { more = []; cells = e ∙ sym (append-nil front); all = none })

  pub window-around : (number first end : ℕ) (ws gs : List Segment) (latch : ℕ) → Few 15 gs → Inside σ.hidden (Layout.over number first end ws)
      → edges_fit σ.hidden (Layout.over number first end ws) gs ≡ true
      → Gives (λ d. Around P first end d.cells) (row_cells σ fill (Layout.over number first end ws) gs (blank latch))
  unfolding row_cells edges_fit
  window-around number first end ws gs latch few inside e =
      let hidden = σ.hidden in
      let edge = both (boundary hidden 0 gs first) (boundary hidden 0 gs end) e in
      let before = segments_on (Before first) hidden 0 gs in
      let x = before-total hidden first 0 gs (clear hidden first gs edge.0) in
      let short = side-short hidden (Before first) 0 gs few.0 in
      bind
      (both-give (run-keeps (Cells P) (any-pen P) σ fill byte (cells-kept P Fill fills) Background (cells-kept P Background back) before first (blank latch) none)
      (reads-give (segments-to-read σ fill Background before first (blank latch) short refl (omega arith)))) λ d₁ h₁.
      bind
      (both-give (since (λ _. Unit) (λ _ _ _. tt) (Window number) (λ _ _ _. tt) ws end d₁.cells (with_list no_list d₁) refl)
      (reads-give (segments-to-read σ fill (Window number) ws end (with_list no_list d₁) inside.0.0 h₁.1.0 (omega arith)))) λ d₂ h₂.
      implies
      (λ d₃ h₃. record {
        before = d₁.cells;
        inside = h₂.0.more;
        after = h₃.more;
        cells = h₃.cells ∙ ap (λ (cs : List ℕ). cs ++ h₃.more) h₂.0.cells;
        begins = omega (arith, h₁.1);
        ends = ap length (sym h₂.0.cells) ∙ omega (arith, h₂.1);
        outside = (h₁.0, h₃.all);
      })
      (since P fills Background back (segments_on (After first end) hidden 0 gs) 132 d₂.cells (with_list d₁.pen.list d₂) refl)
