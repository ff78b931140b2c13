-- Document 02, "Mending damaged lists": the text of a mended list, and of a script's bytes.
use Rattle.std.specs.Prelude.{ℕ, List, [], ◌∷◌, ◌++◌}
use Rattle.frame.specs.Frame.{frame}
use Rattle.lines.specs.Lines.{text, hex, decimal, script_line}
use Rattle.text.specs.Text.{frame_text}
use Rattle.script.specs.Script.{Outcome, drawn, refused_at, script}
use Rattle.mending.specs.declared.Change.{Change}
use Rattle.mending.specs.Mending.{place_address, Mended, mended}

-- "Each change is printed as a line `AAAAAA WWWW WWWW N`: address (0 for a register), old pointer's words, refusal number"
unfoldable pub change_line : Change → List ℕ
change_line c =
    hex 6 (place_address c.place) ++ text " " ++ hex 4 c.first ++ text " " ++ hex 4 c.second ++ text " " ++ decimal c.number
    ++ text "\n"

unfoldable pub changes_text : List Change → List ℕ
changes_text [] = []
changes_text (c ∷ cs) = change_line c ++ changes_text cs

-- "the draw program's output for the mended list follows": of its first frame, from latch 0
unfoldable pub mended_text : Mended → List ℕ
mended_text d = changes_text d.changes ++ frame_text d.settings (frame 0 d.settings d.memory)

-- "The tool takes the draw program's script": one that draws is mended, one that is refused prints its line
abbrev pub outcome_text : Outcome → List ℕ
outcome_text (drawn σ m) = mended_text (mended 0 σ m)
outcome_text (refused_at n) = script_line n

-- the text of a script's bytes
unfoldable pub output : List ℕ → List ℕ
output bytes = outcome_text (script bytes)
