-- Is a planned row sure: can no reading of its cells be refused? All words are there that its codes can read; and with the fill flag each
-- list is that of a segment without codes, its fill word there with bit 15, and the segments leave no cell after them. What the functions
-- of this crate give, no rules of their own: a row that is not sure may still be accepted.
use Rattle.std.specs.Prelude.{ℕ, ◌+◌, ◌/◌, Bool, true, false, ◌&&◌, ◌||◌, not, List, [], ◌∷◌, length, eqb, Option, Some, None}
use Rattle.memory.specs.Word.{when◌then◌else◌}
use Rattle.memory.specs.Address.{null}
use Rattle.memory.specs.Reading.{fetch}
use Rattle.memory.specs.Answers.{is_run}
use Rattle.codes.specs.Attribute.{latches}
use Rattle.blocks.specs.declared.Segment.{Segment}
use Rattle.layout.specs.Layout.{total, Overlay, none, over}
use Rattle.cells.specs.Cells.{code_count}

-- the word at an address is there, with bit 15
abbrev pub standing : Option ℕ → Bool
standing (Some w) = latches w
standing None = false

abbrev pub stands : List ℕ → ℕ → Bool
stands m a = standing (fetch m a)

module _ (flag : Bool) (m : List ℕ) where
  -- a segment's codes are there; so are as many words of its list, or without codes its fill word
  unfoldable pub sure_list : Segment → Bool
  sure_list g =
      when flag then eqb (code_count g) 0 && stands m g.attributes.address else is_run true (length m) g.attributes.address (code_count g)

  unfoldable pub sure_segment : Segment → Bool
  sure_segment g = is_run true (length m) g.codes.address ((code_count g + 1) / 2) && (null g.attributes || sure_list g)

  unfoldable pub sure_all : List Segment → Bool
  sure_all [] = true
  sure_all (g ∷ gs) = sure_segment g && sure_all gs

unfoldable pub sure_row : (hidden flag : Bool) → List ℕ → Overlay → List Segment → Bool
sure_row hidden flag m none gs = sure_all flag m gs && (not flag || eqb (total hidden gs) 132)
sure_row hidden flag m (over number first end ws) gs = not flag && sure_all flag m gs && sure_all flag m ws
