-- The user's third demand: "these effects can be joined in any grouping with the same outcome, and an empty one changes nothing".
use Rattle.std.specs.Prelude.{◌≡◌, List, [], ◌∷◌, ◌++◌}
use Rattle.joining.specs.declared.Effect.{Effect}
use Rattle.joining.specs.Join.{empty, join}

-- effects in brackets: the empty one, one effect, or a grouping and then another
pub data Grouping : Type 0 where
  nothing : Grouping
  one : Effect → Grouping
  both : Grouping → Grouping → Grouping

abbrev pub joined : Grouping → Effect
joined nothing = empty
joined (one e) = e
joined (both g h) = join (joined g) (joined h)

-- its effects first to last, without brackets and empty ones
abbrev pub effects : Grouping → List Effect
effects nothing = []
effects (one e) = e ∷ []
effects (both g h) = effects g ++ effects h

abbrev pub AnyGrouping : Type 0
AnyGrouping = (g h : Grouping) → effects g ≡ effects h → joined g ≡ joined h
