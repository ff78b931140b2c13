-- Document 02, "Segmented memory goes away": the converter.
use Rattle.std.specs.Prelude.{ℕ, zero, suc, ◌+◌, ◌/◌, ◌%◌, true, false, List, [], ◌∷◌, length, replicate, eqb, Result, Ok, Err}
use Rattle.memory.specs.Word.{when◌then◌else◌}
use Rattle.memory.specs.declared.Refusal.{Refusal}
use Rattle.memory.specs.Reading.{First, fault, refusal}
use Rattle.settings.specs.declared.PointerWords.{PointerWords}
use Rattle.settings.specs.declared.Settings.{Settings}
use Rattle.settings.specs.Good.{good}
use Rattle.blocks.specs.declared.MainBlock.{MainBlock}
use Rattle.state.specs.declared.State.{State}
use Rattle.start.specs.Top.{registered, top_block}
use Rattle.start.specs.Start.{window_start}
use Rattle.converter.specs.Walk.{mark, Walked, went, halted, walk}
use Rattle.converter.specs.Below.{row_below, state_after}
use Rattle.converter.specs.declared.Conversion.{Conversion}

-- ---- the walk over a frame ----
-- what following the frame comes to: the marks at its end, or the refusal that it meets
pub data Followed : Type 0 where
  ended : (marks : List ℕ) → Followed
  stopped : Refusal → Followed

-- go on after a part of the frame; "A refusal met in no row .. has row 0", in a row the row's number
abbrev pub onwards : {A : Type 0} → ℕ → Walked A → (List ℕ → A → Followed) → Followed
onwards row (went marks a) next = next marks a
onwards row (halted x) next = stopped (refusal row x)

-- rows until no line is left, n at most, each from the state that the one before leaves. No register holds a pointer that a row uses.
unfoldable pub follow_rows : ℕ → Settings → (m marks : List ℕ) → State → Followed
follow_rows zero σ m marks s = ended marks
follow_rows (suc n) σ m marks s =
    when eqb s.fields.left 0 then ended marks
    else onwards s.fields.row (walk 0 m marks (row_below σ s)) λ marks₁ r. follow_rows n σ m marks₁ (state_after r)

-- the first window, by TOW, and the rows from there
abbrev pub follow_window : ℕ → Settings → (m marks : List ℕ) → MainBlock → Followed
follow_window latch σ m marks b =
    onwards 0 (walk (registered false σ.tow).address m marks (window_start latch σ b)) λ marks₁ s.
    follow_rows s.fields.left σ m marks₁ s

-- "follows one unshifted frame from its start latch": the main block, by TOP, and on. No word is marked before it.
unfoldable pub follow : ℕ → Settings → List ℕ → Followed
follow latch σ m =
    onwards 0 (walk (registered false σ.top).address m (replicate (length m) 0) (top_block false σ.top)) λ marks b.
    follow_window latch σ m marks b

-- ---- the turn ----
-- "turns each pointer .. into linear form (page in the low byte, the first word's other bits 0, second word kept)"
abbrev pub turned_first : ℕ → ℕ
turned_first w = w / 256 % 128

-- a word with its mark: "turns each pointer read there .. once"
abbrev pub turned : (mark word : ℕ) → ℕ
turned k w = when eqb k (mark First) then turned_first w else w

unfoldable pub turned_memory : (marks m : List ℕ) → List ℕ
turned_memory marks [] = []
turned_memory [] (w ∷ m) = w ∷ m
turned_memory (k ∷ marks) (w ∷ m) = turned k w ∷ turned_memory marks m

-- "and TOP and TOW"
abbrev pub turned_register : PointerWords → PointerWords
turned_register p = record { first = turned_first p.first; second = p.second }

unfoldable pub turned_settings : Settings → Settings
turned_settings σ = record {
  linear = true;
  hidden = σ.hidden;
  interlace = σ.interlace;
  cursor = σ.cursor;
  flag = σ.flag;
  top = turned_register σ.top;
  tow = turned_register σ.tow;
  vsw = σ.vsw;
  vsd = σ.vsd;
  val = σ.val;
  vtot = σ.vtot;
  hsync = σ.hsync;
  hsd = σ.hsd;
  htc = σ.htc;
  htd = σ.htd;
  edition = σ.edition;
}

-- "counting those whose words change": 1 for a word that another one takes the place of. Second words are kept, so a pointer counts by its first.
abbrev pub change : (old new : ℕ) → ℕ
change old new = when eqb new old then 0 else 1

unfoldable pub changes : (old new : List ℕ) → ℕ
changes [] new = 0
changes (v ∷ old) [] = 0
changes (v ∷ old) (w ∷ new) = change v w + changes old new

abbrev pub register_changes : Settings → ℕ
register_changes σ = change σ.top.first (turned_first σ.top.first) + change σ.tow.first (turned_first σ.tow.first)

-- ---- the call ----
-- its answer, and what the memory then holds
pub record Called : Type 0 where
  pub answer : Result Conversion Refusal
  pub memory : List ℕ

-- "A refusal changes nothing but marks."
abbrev pub kept : List ℕ → Refusal → Called
kept m r = record { answer = Err r; memory = m }

unfoldable pub convert_by : Settings → List ℕ → Followed → Called
convert_by σ m (stopped r) = kept m r
convert_by σ m (ended marks) =
    let after : List ℕ = turned_memory marks m in
    record { answer = Ok (record { settings = turned_settings σ; pointers = changes m after + register_changes σ }); memory = after }

-- "22, another number of marks, first; 26, linear settings, after 2"; then as the walk meets them. `marks` is the number of marks lent.
unfoldable pub convert_call : ℕ → Settings → List ℕ → (marks : ℕ) → Called
convert_call latch σ m marks =
    when eqb marks (length m)
    then (when good σ
    then (when σ.linear then kept m (refusal 0 (fault 26)) else convert_by σ m (follow latch σ m))
    else kept m (refusal 0 (fault 2)))
    else kept m (refusal 0 (fault 22))
