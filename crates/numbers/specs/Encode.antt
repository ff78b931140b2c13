-- A state as numbers at their places.
use Rattle.std.specs.Prelude.{ℕ, Bool, List, [], ◌∷◌, Option, Some, None, is_some}
use Rattle.memory.specs.Word.{when◌then◌else◌}
use Rattle.memory.specs.Address.{nothing}
use Rattle.windows.specs.declared.Window.{Window}
use Rattle.state.specs.declared.State.{State}

-- no is 0, yes is 1
abbrev pub number : Bool → ℕ
number b = when b then 1 else 0

-- the numbers for the places of a window in hand: 0 where there is none
abbrev pub held : Option Window → Window
held None = record { block = record { number = 0; top = 0; bottom = 0; left = 0; right = 0; link = nothing }; rows = nothing }
held (Some w) = w

unfoldable pub state_numbers : State → List ℕ
state_numbers s =
    s.latch ∷ s.fields.row ∷ s.fields.left
    ∷ s.fields.cursor.x ∷ s.fields.cursor.y ∷ s.fields.fill.code ∷ number s.fields.fill.flag
    ∷ s.fields.format.lines ∷ s.fields.format.attributes ∷ s.fields.format.curs ∷ s.fields.format.cure
    ∷ s.fields.next.address ∷ number (is_some s.fields.window)
    ∷ (held s.fields.window).block.top ∷ (held s.fields.window).block.bottom
    ∷ (held s.fields.window).block.left ∷ (held s.fields.window).block.right
    ∷ (held s.fields.window).rows.address ∷ (held s.fields.window).block.link.address
    ∷ (held s.fields.window).block.number
    ∷ s.fields.next.from ∷ (held s.fields.window).rows.from ∷ (held s.fields.window).block.link.from ∷ []
