-- What stands before the place found are zeros, which `fewest` drops; what it keeps begins there.
use Rattle.std.proofs.Common.{◌≡◌, ◌∙◌, length, take, arith, rules}
use Rattle.std.proofs.lemmas.Iterator.{YieldsList-from_slice, IsFirst-from_position}
use lib.Seq.{length-take-le}
use borrow.Author.Tests.{tests}
use Rattle.lines.proofs.TextLaws.{Zero, Other, zeros, first-shown, zeros-found, zeros-most}
use Rattle.lines.proofs.first_digit.Goals as goal

pub returns : goal.returns
returns c =
    let l = c.args.text.now in
    let last = c.saturating_sub-last.result in
    let front = take last l in
    let found = IsFirst-from_position _ _ _ Other Zero c.position.ensures.ran (YieldsList-from_slice front cc) (λ x q k. search (rules, tests)) (λ x q k. search (rules, tests)) in
    let n : length front ≡ last = length-take-le last l (omega arith) in
    let at : c.unwrap_or.result ≡ zeros front = c.unwrap_or.ensures ∙ (rw n at (zeros-found front c.position.result found)) in
    let most = zeros-most front in
    (omega arith, rw at (first-shown l last (omega arith)))
