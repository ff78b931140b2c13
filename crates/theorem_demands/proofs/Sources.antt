-- Each cell of a row has one source among fill, background and the window in hand; the cursor's mark is another bit.
use mathlib.Core.Path.{◌≡◌, ap, ◌∙◌}
use mathlib.Core.Bool.{◌&&◌}
use mathlib.Core.List.{List}
use Prim.Native.Nat.{ℕ, zero, suc, ◌/◌, ◌%◌, ◌^◌, ◌<◌, ◌≤◌}
use native.Mathlib.Omega.{arith}
use lib.ListN.{length, get_or, set}
use lib.Dec.{eqb}
use lib.Bits.{bit_or, or_shr, or_mod, or_zero_r}
use Rattle.memory.specs.Word.{at}
use Rattle.memory.specs.Reading.{given, run}
use Rattle.memory.proofs.Agree.{All, none, also}
use Rattle.memory.proofs.ReadBounds.{Words, if-cases}
use Rattle.memory.proofs.Gives.{Gives, dones, bind, reads-give, run-gives}
use Rattle.settings.specs.declared.Settings.{Settings}
use Rattle.state.specs.declared.Fields.{Fields}
use Rattle.state.specs.declared.State.{State}
use Rattle.layout.specs.Layout as Layout
use Rattle.plan.proofs.PlanBounds.{plan-reads}
use Rattle.codes.specs.Attribute.{Fill, Background, Window, source_number, source_of}
use Rattle.codes.specs.Codes.{blank}
use Rattle.codes.proofs.CellParts.{source-back}
use Rattle.codes.proofs.CodeCells.{Makes}
use Rattle.cells.proofs.CellSources.{WindowMakes, row-cells}
use Rattle.row.specs.Row.{Row, code_settings, row, with_cursor}
use Rattle.row.proofs.RowWindow.{cursor-named, row_named}
use Rattle.theorem_demands.specs.Demands.{OneSource}

abbrev Among : ℕ → Type 0
Among c = source_of c ≤ 2

fill-among : Makes Among Fill
unfolding source_number
fill-among a code h = omega (arith, source-back Fill a code h)

back-among : Makes Among Background
unfolding source_number
back-among a code h = omega (arith, source-back Background a code h)

window-among : (number : ℕ) → Makes Among (Window number)
unfolding source_number
window-among number a code h = omega (arith, source-back (Window number) a code h)

window-makes : (o : Layout.Overlay) → WindowMakes Among o
window-makes Layout.none = tt
window-makes (Layout.over number first end ws) = window-among number

marked : (c : ℕ) → Among c → Among (bit_or c (2 ^ 22))
marked c h =
    let source : source_of (bit_or c (2 ^ 22)) ≡ source_of c = ap (λ (n : ℕ). n % 4) (or_shr c (2 ^ 22) 20) ∙ or_mod (c / 2 ^ 20) 4 2 ∙ or_zero_r _ in
    rw source h

set_all : {P : ℕ → Type 0} (f : ℕ → ℕ) → ((c : ℕ) → P c → P (f c)) → {cs : List ℕ} (i : ℕ) → All P cs → All P (set cs i (f (get_or cs i 0)))
set_all f k i none = none
set_all f k zero (also {x} h hs) = also (k x h) hs
set_all f k (suc i) (also h hs) = also h (set_all f k i hs)

cursor-among : (σ : Settings) (f : Fields) (cs : List ℕ) → All Among cs → All Among (with_cursor σ f cs)
unfolding with_cursor
cursor-among σ f cs h =
    if-cases (All Among) (σ.cursor && eqb f.cursor.y f.row) (λ _. set_all (λ c. bit_or c (2 ^ 22)) marked f.cursor.x h) (λ _. h)

row-among : (σ : Settings) (s : State) → s.fields.fill.code < 256 → Gives (λ r. All Among r.drawing.cells) (row σ s)
unfolding row
row-among σ s l =
    bind (reads-give (plan-reads σ s.fields)) λ p hp.
    bind (row-cells Among (code_settings σ) s.fields.fill l fill-among back-among p.overlay (window-makes p.overlay) p.segments (blank s.latch) none)
    λ d h. dones h

all-at : {P : ℕ → Type 0} {cs : List ℕ} → All P cs → (i : ℕ) → i < length cs → P (at cs i)
all-at none i l = absurd (omega (arith, l))
all-at (also h hs) zero l = h
all-at (also h hs) (suc i) l = all-at hs i (omega (arith, l))

-- of the cells of an accepted row
pub one-source : (σ : Settings) (m : List ℕ) → Words m → (s : State) → s.fields.fill.code < 256 → {n : ℕ} {r : Row} → run m (row σ s) ≡ given n r
    → (i : ℕ) → i < length (with_cursor σ s.fields r.drawing.cells)
    → OneSource s.fields.row r.next.window (at (with_cursor σ s.fields r.drawing.cells) i)
one-source σ m w s l {r} e i k =
    let f = s.fields in
    let cs = r.drawing.cells in
    let named = all-at (cursor-named σ f f.row r.next.window cs (run-gives 0 m w (row_named σ s l) e)) i k in
    let among = all-at (cursor-among σ f cs (run-gives 0 m w (row-among σ s l) e)) i k in
    record {
      among = among;
      window = λ q. let o = named.0 q in (o.window, o.there, o.named, o.begun, o.going);
      elsewhere = named.1;
    }
