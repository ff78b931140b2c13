-- What good settings come to, as facts on numbers.
use mathlib.Core.Path.{◌≡◌}
use mathlib.Core.Bool.{Bool, true, false, ◌&&◌}
use borrow.Author.Tests.{leb-true}
use Rattle.settings.specs.declared.Settings.{Settings}
use Rattle.settings.specs.Good.{good, Ordered}

pub left-true : (a b : Bool) → a && b ≡ true → a ≡ true
left-true true b e = cc
left-true false b e = e

pub right-true : (a b : Bool) → a && b ≡ true → b ≡ true
right-true true b e = e
right-true false b e = cc

pub ordered : (σ : Settings) → good σ ≡ true → Ordered σ
unfolding good
ordered σ e = search (left-true, right-true, leb-true) depth 12
