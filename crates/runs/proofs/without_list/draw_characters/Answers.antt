-- An ignored latch draws nothing; else pairs as far as there is room for both, then one character more or none.
use mathlib.Core.Path.{◌≡◌, sym, ◌∙◌}
use mathlib.Core.Bool.{true, ◌||◌, not}
use Prim.Native.Nat.{◌+◌, ◌-◌, ◌*◌, ◌/◌}
use native.Mathlib.Omega.{arith}
use Rattle.codes.specs.Attribute.{ignores}
use Rattle.codes.specs.Answers.{so_far}
use Rattle.runs.specs.Runs.{codes_in, characters}
use Rattle.runs.proofs.RunLaws.{characters-ignored, first-left}
use Rattle.runs.proofs.without_list.draw_characters.Goals as goal

pub returns-then-not-is_shown-clause-cells_after : goal.returns-then-not-is_shown-clause-cells_after
returns-then-not-is_shown-clause-cells_after c =
    let a = c.args in
    sym (characters-ignored a.hidden a.room.source a.room.end a.pen.latch _ (so_far a.pen a.cells.now) (sym c.is_shown.ensures ∙ c.if-not-is_shown.true))

pub returns-then-pairs-count : goal.returns-then-pairs-count
returns-then-pairs-count c =
    let a = c.args in
    let pre = c.requires in
    let least = c.min-pairs.ensures in
    let pairs = c.min-pairs.result / 2 in
    let drawn = c.draw_pairs-after.ensures in
    let put = c.put_character.ensures in
    let shown : a.hidden || not (ignores a.pen.latch) ≡ true = sym c.is_shown.ensures ∙ c.if-not-is_shown.false in record {
      column_le_end = put.column_le_end;
      cells_after = sym (drawn.cells_value a.hidden a.room.end a.count shown pre.0 (omega arith) (omega arith)
          ∙ first-left a.hidden a.room.source a.room.end a.pen.latch a.mem.now (a.at + pairs) (a.count - 2 * pairs) _ _ (omega arith) (omega arith) shown
          (rw c.high_byte-code.ensures at put.cells_after) (λ g. rw drawn.value (omega arith)));
    }

pub returns-else-pairs-count : goal.returns-else-pairs-count
unfolding characters codes_in
returns-else-pairs-count c =
    let a = c.args in
    let pre = c.requires in
    let least = c.min-pairs.ensures in
    let drawn = c.draw_pairs-after.ensures in
    let shown : a.hidden || not (ignores a.pen.latch) ≡ true = sym c.is_shown.ensures ∙ c.if-not-is_shown.false in
    let none : a.count - 2 * (c.min-pairs.result / 2) ≡ 0 = omega arith in record {
      column_le_end = rw drawn.value (omega arith);
      cells_after = sym (drawn.cells_value a.hidden a.room.end a.count shown pre.0 (omega arith) (omega arith) ∙ rw none);
    }
