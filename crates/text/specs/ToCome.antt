-- What of the draw program's text is still to come. No rules of their own.
use Rattle.std.specs.Prelude.{ℕ, List}
use Rattle.text.specs.declared.Text.{Text}
use Rattle.text.specs.Form as Form
use Rattle.text.specs.Text.{drawing}

abbrev pub to_come : List ℕ → Text → List ℕ
to_come = Form.to_come drawing

abbrev pub calls : Text → ℕ
calls = Form.calls
