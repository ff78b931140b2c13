-- Each turn puts two characters that have room: the characters left from here are all of them.
use mathlib.Core.Path.{◌≡◌, ap, ap₂, ◌∙◌}
use mathlib.Core.List.{List}
use Prim.Native.Nat.{ℕ, ◌+◌, ◌-◌, ◌*◌, ◌<◌}
use native.Mathlib.Omega.{arith}
use lib.ListN.{get_or, drop}
use Rattle.memory.specs.Word.{high, low}
use Rattle.codes.specs.Codes.{moved_to}
use Rattle.codes.specs.Answers.{so_far}
use Rattle.runs.specs.Runs.{codes_in, characters}
use Rattle.codes.proofs.CodeLaws.{cell_room}
use Rattle.runs.proofs.RunLaws.{codes-pair, pair_put}
use borrow.Author.Rules.{rules}
use Rattle.runs.proofs.without_list.draw_pairs.Goals as goal

pub loop-i-init : goal.loop-i-init
loop-i-init c =
    let a = c.args in
    let from : a.at ≡ a.at + 0 = omega arith in
    let first : a.pen.column ≡ a.pen.column + 0 = omega arith in
    λ hidden source end count _ _ _ _ _.
    let left : count ≡ count - 0 = omega arith in
    ap₂ (characters hidden source end a.pen.latch) (ap₂ (λ (p k : ℕ). codes_in (drop p a.mem.now) k) from left)
    (ap (λ (k : ℕ). so_far (moved_to k a.pen) a.cells.now) first)

pub overflow_add-cells : goal.overflow_add-cells
overflow_add-cells c =
    let k : c.cell-bits.result + c.high_byte.result < 4294967296 = omega (arith, c.cell-bits.ensures, cell_room c.args.source c.args.pen.latch) in
    search (rules, k)

pub overflow_add-cells-in-loop-i-2 : goal.overflow_add-cells-in-loop-i-2
overflow_add-cells-in-loop-i-2 c =
    let k : c.cell-bits.result + c.low_byte.result < 4294967296 = omega (arith, c.cell-bits.ensures, cell_room c.args.source c.args.pen.latch) in
    search (rules, k)

pub loop-i-preserved : goal.loop-i-preserved
unfolding characters
loop-i-preserved c =
    let a = c.args in
    let l = c.loop-i in
    let m = a.mem.now in
    let latch = a.pen.latch in
    let w = get_or m (a.at + l.i) 0 in
    let p = moved_to (a.pen.column + 2 * l.i) a.pen in
    let next : a.pen.column + 2 * l.i + 2 ≡ a.pen.column + 2 * (l.i + 1) = omega arith in
    λ hidden source end count b s le room lc. l.invariant hidden source end count b s le room lc
    ∙ ap (λ (cs : List ℕ). characters hidden source end latch cs (so_far p l.cells)) (codes-pair m a.at l.i count (omega arith) (omega arith))
    ∙ ap (characters hidden source end latch (codes_in (drop (a.at + (l.i + 1)) m) (count - 2 * (l.i + 1))))
    (rw (b, c.high_byte.ensures, c.low_byte.ensures, ← next) (pair_put hidden source end latch (high w) (low w) p l.cells s (omega arith) (omega arith)))

pub returns : goal.returns
returns c =
    let a = c.args in
    let l = c.loop-i in
    let all : l.i ≡ a.pairs = omega arith in record { value = c.moved_to.ensures; cells_value = λ hidden end count s le room lc. l.invariant hidden a.source end count c.cell-bits.ensures s le room lc ∙ rw (all, c.moved_to.ensures) }
