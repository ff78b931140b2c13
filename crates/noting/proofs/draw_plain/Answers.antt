-- Each word's address goes to the next place of the list, and the characters are what the codes come to where none takes a word of a list.
use mathlib.Core.Path.{refl, ap, ap₂, sym, ◌∙◌}
use mathlib.Core.Bool.{Bool}
use mathlib.Core.List.{List}
use Prim.Native.Nat.{ℕ, ◌+◌, ◌/◌}
use native.Mathlib.Omega.{arith}
use lib.ListN.{length, drop}
use lib.Seq.{sets}
use Rattle.memory.specs.Reading.{given}
use Rattle.memory.proofs.RunLaws.{run_ends}
use Rattle.codes.specs.Codes.{Drawing}
use Rattle.codes.specs.Answers.{so_far}
use Rattle.runs.specs.Runs.{codes_in}
use Rattle.noting.specs.Noting.{pointing, noted, in_turn}
use Rattle.noting.proofs.PlaceLaws.{run-low}
use Rattle.noting.proofs.PlainLaws.{characters-list, plain-run}
use Rattle.noting.proofs.draw_plain.Goals as goal

pub note_run-requires : goal.note_run-requires
note_run-requires c =
    let a = c.args in
    let pre = c.requires in
    (run-low a.settings.linear (length a.mem.now) a.first ((a.count + 1) / 2) pre.linear_value.0 pre.linear_value.1, omega arith)

pub draw_characters-requires : goal.draw_characters-requires
draw_characters-requires c =
    let a = c.args in
    let pre = c.requires in
    (pre.end_in_bounds.0, pre.end_in_bounds.1, pre.end_in_bounds.2, run_ends (length a.mem.now) a.first ((a.count + 1) / 2) a.settings.linear pre.linear_value.1)

pub returns : goal.returns
returns c =
    let a = c.args in
    let pre = c.requires in
    let put = c.note_run.ensures in
    let drawn = c.draw_characters.ensures in
    let n = (a.count + 1) / 2 in
    let d = so_far a.pen a.cells.now in
    let cs = codes_in (drop (a.first / 2) a.mem.now) a.count in
    let kept = characters-list a.settings.hidden a.room.source a.room.end a.pen.latch cs d in
    let run = plain-run a.mem.now a.settings a.room.source a.room.end a.words a.list.now a.count in
    let told = ap (λ (b : Bool). sets a.list.now a.words (in_turn b n a.first)) pre.linear_value.0 ∙ sym put in record {
      column_le_end = (c.draw_characters.ensures.column_le_end, refl, ap (λ (x : Drawing). x.pen.list) c.draw_characters.ensures.cells_after ∙ kept);
      by_index = λ from.
          run (pointing a.first from) d pre.linear_value.1 pre.linear_value.2
          ∙ ap₂ (λ (x : Drawing) (l : List ℕ). noted (given (a.words + n) x) l) (sym c.draw_characters.ensures.cells_after) told;
    }
