-- Document 02, "Segmented memory goes away": what holds of every accepted conversion.
use Rattle.std.specs.Prelude.{ℕ, ◌+◌, ◌/◌, ◌<◌, ◌≡◌, Bool, true, false, ◌||◌, List, [], ◌∷◌, length, get_or, eqb, Ok, Err}
use Rattle.std.proofs.Math.Option.{none}
use Rattle.memory.specs.declared.Pointer.{Pointer}
use Rattle.memory.specs.Word.{when◌then◌else◌}
use Rattle.memory.specs.Reading.{asking, fault, refusal}
use Rattle.memory.specs.Address.{pointer, place, ahead, further}
use Rattle.settings.specs.declared.Settings.{Settings}
use Rattle.frame.specs.Frame.{frame}
use Rattle.converter.specs.declared.Conversion.{Conversion}
use Rattle.converter.specs.Walk.{points_at, read_on, over_page_end}
use Rattle.converter.specs.Below.{frame_below, frame_read, frame_pointers}
use Rattle.converter.specs.Converter.{turned_first, turned_settings, changes, register_changes, convert_call}

-- whether word i is among the words at these addresses
unfoldable pub is_read : ℕ → List ℕ → Bool
is_read i [] = false
is_read i (a ∷ addresses) = eqb (a / 2) i || is_read i addresses

-- the memory `after` and the settings of a conversion, of what was before
pub record Turns (latch : ℕ) (σ : Settings) (m after : List ℕ) (c : Conversion) : Type 0 where
  -- the settings are linear, TOP and TOW turned, the rest as it was
  pub settings : c.settings ≡ turned_settings σ
  -- "The linear drawing after, from that latch, equals the segmented one before, cells and counts.": rows with their answers, the words of
  -- the start and the rows together, the state at the end
  pub same_frame : frame latch c.settings after ≡ frame_below latch σ m
  -- .. and no refusal
  pub drawn : (frame latch c.settings after).refusal ≡ none
  -- the same words are read, in the same order
  pub same_addresses : frame_read latch c.settings after ≡ frame_read latch σ m
  -- "turns each pointer read there .. once": the first word of each pointer that is read is turned, any other word stays
  pub turned : (i : ℕ) → get_or after i 0 ≡ (when is_read i (frame_pointers latch σ m) then turned_first (get_or m i 0) else get_or m i 0)
  -- so what the frame does not read stays
  pub unread : (i : ℕ) → is_read i (frame_read latch σ m) ≡ false → get_or after i 0 ≡ get_or m i 0
  pub size : length after ≡ length m
  -- "counting those whose words change"
  pub counted : c.pointers ≡ changes m after + register_changes σ
  -- what is linear is not turned again
  pub once : (latch₂ : ℕ) (m₂ : List ℕ) → (convert_call latch₂ c.settings m₂ (length m₂)).answer ≡ Err (refusal 0 (fault 26))

-- Refusal 18, "a block or list read on over its page end (address of the page's last word)": of 12,000 words from where a pointer
-- points on the first has none, and each next has it exactly where the word before is its page's last, whose address is told
pub record ReadsOn (held : ℕ) (m : List ℕ) (p : Pointer) : Type 0 where
  pub first : read_on held m p.address p.from ≡ false
  pub next : (k : ℕ) → k < 12000
      → read_on held m (ahead false (k + 1) p.address) p.from ≡ eqb (place (ahead false k p.address)) 65534
  pub told : (k : ℕ) → eqb (place (ahead false k p.address)) 65534 ≡ true
      → (over_page_end (asking (further false (k + 1) p))).address ≡ ahead false k p.address

-- .. of a segmented pointer in use: the two words where it begins, or the register, are its own
abbrev pub PageEnds : Type 0
PageEnds = (held : ℕ) (m : List ℕ) (from first second : ℕ) → second < 65536
    → let p = pointer false from first second in points_at held m p.from ≡ p.address → ReadsOn held m p

-- of a memory and registers of 16-bit words
abbrev pub Sixteen : Settings → List ℕ → Type 0
Sixteen σ m = ((i : ℕ) → get_or m i 0 < 65536) × (σ.top.second < 65536) × (σ.tow.second < 65536)

abbrev pub AllTurn : Type 0
AllTurn = (latch : ℕ) (σ : Settings) (m : List ℕ) (marks : ℕ) (c : Conversion) → Sixteen σ m
    → (convert_call latch σ m marks).answer ≡ Ok c → Turns latch σ m (convert_call latch σ m marks).memory c
