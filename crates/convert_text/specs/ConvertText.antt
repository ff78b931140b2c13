-- Document 02, "Segmented memory goes away": the text of a converted list, what its conversion leaves, and the text of a script's bytes.
use Rattle.std.specs.Prelude.{ℕ, List, length, Result, Ok, Err}
use Rattle.memory.specs.declared.Refusal.{Refusal}
use Rattle.lines.specs.Lines.{refusal_line, script_line}
use Rattle.script.specs.Script.{Outcome, drawn, refused_at, script}
use Rattle.image.specs.Registers.{registers_of}
use Rattle.image.specs.Image.{image_of}
use Rattle.image.specs.Written.{written}
use Rattle.converter.specs.Converter.{Called, convert_call}
use Rattle.converter.specs.declared.Conversion.{Conversion}
use Rattle.convert_text.specs.Registers.{turned_registers}

-- the script of what a conversion gives, with the registers of the script before, turned; or the line of its refusal
abbrev pub answer_text : (registers : List ℕ) → Result Conversion Refusal → List ℕ → List ℕ
answer_text rs (Ok c) m = written (image_of c.settings (turned_registers rs) m)
answer_text rs (Err r) m = refusal_line r

unfoldable pub called_text : (registers : List ℕ) → Called → List ℕ
called_text rs c = answer_text rs c.answer c.memory

-- a script that draws is converted for its first frame, from latch 0, with a mark for each word; one that is refused prints its line
abbrev pub outcome_text : (registers : List ℕ) → Outcome → List ℕ
outcome_text rs (drawn σ m) = called_text rs (convert_call 0 σ m (length m))
outcome_text rs (refused_at n) = script_line n

-- the registers and the memory that a conversion leaves
pub record Left : Type 0 where
  pub registers : List ℕ
  pub memory : List ℕ

abbrev pub left : (registers memory : List ℕ) → Left
left rs m = record { registers = rs; memory = m }

-- an accepted one turns the registers, and "A refusal changes nothing but marks."
abbrev pub registers_after : (registers : List ℕ) → Result Conversion Refusal → List ℕ
registers_after rs (Ok c) = turned_registers rs
registers_after rs (Err r) = rs

unfoldable pub called_left : (registers : List ℕ) → Called → Left
called_left rs c = left (registers_after rs c.answer) c.memory

-- a script that is refused has nothing converted: both are as they were
abbrev pub outcome_left : (registers memory : List ℕ) → Outcome → Left
outcome_left rs m (drawn σ n) = called_left rs (convert_call 0 σ n (length n))
outcome_left rs m (refused_at n) = left rs m

-- the text of a script's bytes
unfoldable pub output : List ℕ → List ℕ
output bytes = outcome_text (registers_of bytes) (script bytes)
