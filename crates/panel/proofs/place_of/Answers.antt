-- The loop's invariant: the place of z is that of the lines left in the rows from row i on, i rows further.
use mathlib.Core.Path.{sym, ◌∙◌}
use Rattle.std.proofs.lemmas.List.{take_min}
use Rattle.panel.proofs.PlaceLaws.{later-none, place_in, place-past, place_end}
use Rattle.panel.proofs.place_of.Goals as goal

pub loop-index-init : goal.loop-index-init
loop-index-init c = rw (c.min.ensures, take_min c.args.rows c.args.heights.now) (sym (later-none _))

pub returns-then-rest-height : goal.returns-then-rest-height
returns-then-rest-height c =
    let l = c.loop-index in
    sym (l.invariant ∙ place_in _ l.index l.rest c.loop-index-test.true c.if-rest-height.true)

pub loop-index-preserved : goal.loop-index-preserved
loop-index-preserved c =
    let l = c.loop-index in
    l.invariant ∙ place-past _ l.index l.rest c.loop-index-test.true c.if-rest-height.false

pub returns : goal.returns
returns c =
    let l = c.loop-index in
    sym (l.invariant ∙ place_end _ l.index l.rest c.loop-index-test.false)
