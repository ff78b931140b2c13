-- Document 02, §12, "Copying a screen into mail": the text of a frame, and of a script's bytes.
use Rattle.std.specs.Prelude.{List, [], ℕ}
use Rattle.settings.specs.declared.Settings.{Settings}
use Rattle.frame.specs.Frame.{FrameRow, Frame}
use Rattle.mail.specs.Mail.{mail_text}
use Rattle.script.specs.Script.{Outcome, script}
use Rattle.text.specs.Form.{Form}
use Rattle.text.specs.Form as Form

-- "Write each accepted row's shown columns as terminal text". A text has no form for an end line; a refusal is its line as the draw
-- program prints it, after the rows drawn
abbrev pub mailing : Form
mailing = record { row = λ σ r. mail_text σ r.cells; end = λ rows words. [] }

abbrev pub rows_text : Settings → List FrameRow → List ℕ
rows_text = Form.rows_text mailing

abbrev pub frame_text : Settings → Frame → List ℕ
frame_text = Form.frame_text mailing

abbrev pub outcome_text : Outcome → List ℕ
outcome_text = Form.outcome_text mailing

-- the text of a script's bytes
unfoldable pub output : List ℕ → List ℕ
output bytes = outcome_text (script bytes)
