-- The glide program: "Records as in ./draw; registers 04h, 05h are the soft top. Each draw is one frame, printed as it is met". What a
-- byte of a record does is the script's; after a draw the script goes on.
use Rattle.std.specs.Prelude.{ℕ, zero, suc, Bool, ◌&&◌, List, [], ◌∷◌, ◌++◌, replicate, pos, ◌==◌, nat_lt, unsigned_abs, Result, Ok, Err}
use Rattle.std.proofs.Math.Option.{Option, none, some}
use Rattle.memory.specs.Word.{when◌then◌else◌}
use Rattle.memory.specs.declared.Refusal.{Refusal}
use Rattle.settings.specs.declared.PointerWords.{PointerWords}
use Rattle.scroll.specs.declared.Scroll.{Scroll}
use Rattle.scroll.specs.declared.FrameShift.{FrameShift}
use Rattle.scroll.specs.Scroll.{shift_call}
use Rattle.beside.specs.Beside.{with_top}
use Rattle.frame.specs.Frame.{Frame, frame, handed_on}
use Rattle.script.specs.declared.Script.{Script}
use Rattle.script.specs.declared.Step.{Step}
use Rattle.script.specs.Records.{address, value}
use Rattle.script.specs.Feeding.{Stepped, step_of, with_settings, counted, at_end, beginning}
use Rattle.lines.specs.Lines.{refusal_line, script_line}
use Rattle.glide_lines.specs.GlideLines.{end_frames}
use Rattle.glide_text.specs.declared.Glide.{Glide}
use Rattle.glide_text.specs.FrameText.{frame_text}

-- before the first record: "scroll and latch 0 at first", no frame drawn
abbrev pub no_words : PointerWords
no_words = record { first = 0; second = 0 }

abbrev pub no_scroll : Scroll
no_scroll = record { shift = pos 0; phase = 0; direction = 0 }

unfoldable pub first_glide : Glide
first_glide = record { script = beginning; soft = no_words; scroll = no_scroll; latch = 0; frames = 0 }

-- ---- a frame ----
-- after an accepted shift call: "its hard top put into registers 09h and 0Ah"
unfoldable pub shifted : Glide → FrameShift → Glide
shifted g s = record {
  script = with_settings (with_top g.script.settings s.top) g.script;
  soft = g.soft;
  scroll = s.scroll;
  latch = g.latch;
  frames = g.frames;
}

-- after the frame: the latch that it hands on, and one frame more
unfoldable pub after_frame : Glide → ℕ → Glide
after_frame g latch = record { script = g.script; soft = g.soft; scroll = g.scroll; latch = latch; frames = counted g.frames }

-- what follows a frame; `next` gives the text after it. "The first refusal ends the output with ./draw's line for it: .. a frame's after
-- its stretches"
abbrev pub by_refusal : (Glide → List ℕ) → Glide → (latch : ℕ) → Option Refusal → List ℕ
by_refusal next g latch none = next (after_frame g latch)
by_refusal next g latch (some r) = refusal_line r

unfoldable pub frame_end : (Glide → List ℕ) → Glide → List ℕ → List ℕ
frame_end next g m =
    let f : Frame = frame g.latch g.script.settings m in
    by_refusal next g (handed_on g.latch f) f.refusal

-- "a shift call's in place of the frame"
abbrev pub by_shift : (Glide → List ℕ) → Glide → List ℕ → Result FrameShift Refusal → List ℕ
by_shift next g m (Ok s) = frame_text (shifted g s) m ++ frame_end next (shifted g s) m
by_shift next g m (Err r) = refusal_line r

-- a draw, and what follows
unfoldable pub draw_text : (Glide → List ℕ) → Glide → List ℕ → List ℕ
draw_text next g m = by_shift next g m (shift_call g.script.settings m g.soft g.scroll)

-- ---- after the last draw ----
-- "frames go on until one has shift 0 and phase 0 (256 after the last draw at most); then `end frames F`"
abbrev pub at_rest : Scroll → Bool
at_rest s = unsigned_abs s.shift == 0 && s.phase == 0

unfoldable pub ending : ℕ → Glide → List ℕ → List ℕ
ending zero g m = end_frames g.frames
ending (suc n) g m = when at_rest g.scroll then end_frames g.frames else draw_text (λ h. ending n h m) g m

-- ---- records ----
-- the soft top, where a record of register 04h or 05h has just ended
abbrev pub register_ended : Script → ℕ → Bool
register_ended s register = s.kind == 1 && s.left == 0 && address s.body == register

unfoldable pub soft_after : Script → PointerWords → PointerWords
soft_after s p = record {
  first = when register_ended s 0x04 then value s.body else p.first;
  second = when register_ended s 0x05 then value s.body else p.second;
}

unfoldable pub with_script : Glide → Script → Glide
with_script g s = record { script = s; soft = soft_after s g.soft; scroll = g.scroll; latch = g.latch; frames = g.frames }

-- the script goes on after a draw, with no record in hand
unfoldable pub past_draw : Glide → Glide
past_draw g = record {
  script = record { settings = g.script.settings; read = counted g.script.read; start = g.script.read; kind = 0; left = 0; body = 0 };
  soft = g.soft;
  scroll = g.scroll;
  latch = g.latch;
  frames = g.frames;
}

-- was the last record a draw?
abbrev pub just_drawn : Glide → Bool
just_drawn g = g.script.kind == 0 && nat_lt 0 g.frames

-- "A bad record, or the input's end elsewhere, ends it with `refused script at N`."
abbrev pub by_outcome : (Glide → List ℕ → List ℕ) → Glide → List ℕ → Step → List ℕ
by_outcome next g m (Step.More s) = next (with_script g s) m
by_outcome next g m (Step.Draw σ) = draw_text (λ h. next h m) (past_draw g) m
by_outcome next g m (Step.Refused n) = script_line n

abbrev pub by_step : (Glide → List ℕ → List ℕ) → Glide → Stepped → List ℕ
by_step next g t = by_outcome next g t.memory t.outcome

abbrev pub input_end : Glide → List ℕ → List ℕ
input_end g m = when just_drawn g then ending 256 g m else script_line (at_end g.script)

-- the text of the bytes that follow
unfoldable pub on_bytes : List ℕ → Glide → List ℕ → List ℕ
on_bytes [] g m = input_end g m
on_bytes (b ∷ bs) g m = by_step (on_bytes bs) g (step_of g.script b m)

-- the text of the input's bytes
unfoldable pub output : List ℕ → List ℕ
output bytes = on_bytes bytes first_glide (replicate 16384 0)
