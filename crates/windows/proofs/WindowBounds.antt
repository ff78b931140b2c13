-- A window is read with 6 words, is in order, and has a number at most its first row: rows rise along the chain. The next one has a
-- larger number.
use Rattle.std.proofs.Common.{Option, Some, None}
use mathlib.Core.Path.{◌≡◌, refl, ap, ◌∙◌}
use mathlib.Core.Bool.{Bool, true, ◌&&◌}
use Prim.Native.Nat.{ℕ, ◌+◌, ◌≤◌, ◌<◌}
use native.Mathlib.Omega.{arith}
use lib.Dec.{ltb, leb}
use borrow.Author.Tests.{leb-true}
use mathlib.Core.List.{List}
use Rattle.memory.specs.declared.Pointer.{Pointer}
use Rattle.memory.specs.Address.{null}
use Rattle.memory.proofs.ReadBounds.{Reads, dones, implies, bind, check-of-reads, if-reads, both, words-read}
use Rattle.memory.proofs.Roles.{as-reads}
use Rattle.windows.specs.declared.WindowBlock.{WindowBlock}
use Rattle.windows.specs.declared.Window.{Window}
use Rattle.windows.specs.Window.{window_of, two_pointers, in_order, window_at, due_window}

abbrev pub Ordered : WindowBlock → Type 0
Ordered b = (b.top ≤ b.bottom) × (b.left ≤ b.right) × (b.right ≤ 131)

abbrev pub Placed : Option Window → Type 0
Placed None = Unit
Placed (Some w) = Ordered w.block × (w.block.number ≤ w.block.top)

-- a window in hand after another: none, the same block, or one with a larger number
pub data After : Option Window → Option Window → Type 0 where
  ended : {w : Option Window} → After w None
  same : {v w : Window} → v.block ≡ w.block → After (Some v) (Some w)
  later : {v w : Window} → v.block.number < w.block.number → After (Some v) (Some w)

pub after-refl : (w : Option Window) → After w w
after-refl None = ended
after-refl (Some w) = same refl

pub after-trans : {u v w : Option Window} → After u v → After v w → After u w
after-trans h ended = ended
after-trans (same e) (same f) = same (e ∙ f)
after-trans (same {v = u} e) (later {w} l) = later {v = u} {w = w} (omega (arith, ap (λ (b : WindowBlock). b.number) e))
after-trans (later {v = u} l) (same {w} e) = later {v = u} {w = w} (omega (arith, ap (λ (b : WindowBlock). b.number) e))
after-trans (later {v = u} l) (later {w} k) = later {v = u} {w = w} (omega arith)

pub in_order_lem : (b : WindowBlock) → in_order b ≡ true → Ordered b
in_order_lem b h =
    let k = both (leb b.top b.bottom && leb b.left b.right) (leb b.right 131) h in
    let i = both (leb b.top b.bottom) (leb b.left b.right) k.0 in
    omega (arith, leb-true b.top b.bottom i.0, leb-true b.left b.right i.1, leb-true b.right 131 k.1)

-- the number of a window that is read
abbrev Numbering : ℕ → Option Window → Type 0
Numbering n None = Unit
Numbering n (Some w) = w.block.number ≡ n

called : (linear : Bool) (number a : ℕ) (b : List ℕ) → (window_of linear number a b).block.number ≡ number
unfolding window_of
called linear number a b = refl

pub window-reads : (linear : Bool) (number least : ℕ) (p : Pointer) → number ≤ least
    → Reads (λ w. Placed w × Numbering number w) 6 (window_at linear number least p)
unfolding window_at
window-reads linear number least p l =
    if-reads (null p) (λ _. dones (tt, tt)) λ _.
    bind {n = 6} {k = 0} (omega arith) (as-reads two_pointers (words-read linear 6 p)) λ b _.
    let w = (window_of linear number p.address b).block in
    bind {n = 0} {k = 0} (omega arith) (check-of-reads 8 p (in_order w && leb least w.top)) λ _ h.
    let k = both (in_order w) (leb least w.top) h in
    dones ((in_order_lem w k.0, omega (arith, leb-true least w.top k.1, called linear number p.address b)), called linear number p.address b)

next : (v : Window) (w : Option Window) → Placed w × Numbering (v.block.number + 1) w → Placed w × After (Some v) w
next v None h = (tt, ended)
next v (Some w) h = (h.0, later {v = v} {w = w} (omega arith))

pub due-reads : (linear : Bool) (row : ℕ) (w : Option Window) → Placed w → Reads (λ v. Placed v × After w v) 6 (due_window linear row w)
unfolding due_window
due-reads linear row None h = dones (tt, ended)
due-reads linear row (Some w) h =
    if-reads (ltb w.block.bottom row)
    (λ _. implies (next w) (window-reads linear (w.block.number + 1) (w.block.bottom + 1) w.block.link (omega arith)))
    (λ _. dones (h, same refl))
