-- What the lines of a list's changes are: with the text of the list that they leave they are the mended list's.
use Rattle.std.specs.Prelude.{ℕ, ◌≡◌, List, ◌++◌}
use Rattle.std.specs.declared.option.Option.{Option}
use Rattle.std.specs.Io.KnownBytes.{Appends}
use Rattle.settings.specs.declared.Settings.{Settings}
use Rattle.frame.specs.Frame.{frame}
use Rattle.text.specs.Text.{frame_text}
use Rattle.mend_text.specs.NextChange.{to_mend}

-- from a writer that held these bytes to one that holds those
pub record Mends (held holds : Option (List ℕ)) (σ : Settings) (m : List ℕ) (after : Settings) (left : List ℕ) : Type 0 where
  pub changes : List ℕ
  pub appended : Appends held holds changes
  pub lines : changes ++ frame_text after (frame 0 after left) ≡ to_mend σ m
