-- What of a text is still to come, from where it stands and the bytes that are still to be read; and what a call for its next lines
-- gives. No rules of their own.
use Rattle.std.specs.Prelude.{◌≡◌, ℕ, List, [], ◌∷◌, ◌++◌}
use Rattle.lines.specs.Lines.{refusal_line, script_line}
use Rattle.glide_lines.specs.GlideLines.{end_frames}
use Rattle.glide_text.specs.declared.Glide.{Glide}
use Rattle.glide_text.specs.declared.Follow.{Follow}
use Rattle.glide_text.specs.declared.Follow.TheVariants.{Input, Frames}
use Rattle.glide_text.specs.declared.Text.{Text}
use Rattle.glide_text.specs.FrameText.{stretches, picture_of}
use Rattle.glide_text.specs.GlideText.{frame_end, draw_text, ending, on_bytes, input_end}

-- the text that follows a frame
abbrev pub following : Follow → (bytes memory : List ℕ) → Glide → List ℕ
following Input bs m = λ (g : Glide). on_bytes bs g m
following (Frames n) bs m = λ (g : Glide). ending n g m

unfoldable pub to_come : (bytes memory : List ℕ) → Text → List ℕ
to_come bs m (Text.Reading g) = on_bytes bs g m
to_come bs m (Text.Drawing g f) = draw_text (following f bs m) g m
to_come bs m (Text.Stretches g f n y) = stretches n g.script.settings (picture_of g m) y ++ frame_end (following f bs m) g m
to_come bs m (Text.EndFrames k) = end_frames k
to_come bs m (Text.NoScript n) = script_line n
to_come bs m (Text.Refused r) = refusal_line r
to_come bs m Text.Ended = []

-- a text that follows a frame, whatever bytes are still to be read
abbrev pub Resumes : Glide → Follow → Text → Type 0
Resumes g f t = (bs m : List ℕ) → to_come bs m t ≡ following f bs m g

-- a text after one byte more
abbrev pub Reads : Glide → ℕ → (before after : List ℕ) → Text → Type 0
Reads g b before after t = (bs : List ℕ) → to_come bs after t ≡ on_bytes (b ∷ bs) g before

-- a text at the input's end
abbrev pub Stops : Glide → Text → Type 0
Stops g t = (m : List ℕ) → to_come [] m t ≡ input_end g m

-- a text after a frame's stretches
abbrev pub Finishes : Glide → Follow → List ℕ → Text → Type 0
Finishes g f m t = (bs : List ℕ) → to_come bs m t ≡ frame_end (following f bs m) g m
