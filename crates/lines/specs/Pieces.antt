-- Texts that come in pieces, each written at the start of a buffer: what a call for the next one gives, whatever text it is.
use Rattle.std.specs.Prelude.{ℕ, ◌<◌, ◌≤◌, ◌≡◌, List, [], ◌++◌, length, take, Option, Some, None}
use Rattle.lines.specs.declared.Piece.{Piece}

-- n bytes that were written at the start of a buffer, then the text `after`, are the text `whole`, and of the calls that it takes fewer are
-- left. What the buffer's bytes past these are is left free.
pub record Writes (n : ℕ) (buffer whole after : List ℕ) (calls left : ℕ) : Type 0 where
  pub within : n ≤ length buffer
  pub sized : n ≡ length (take n buffer)
  pub bytes : take n buffer ++ after ≡ whole
  pub fewer : left < calls

-- of texts T: what is still to come, and a bound on the calls that it takes to a text's end
module _ {T : Type 0} (to_come : T → List ℕ) (calls : T → ℕ) where
  -- a call gives the next piece of a whole text, or says that it is at its end; fewer calls are left than a bound
  abbrev pub Gives : (whole : List ℕ) (bound : ℕ) → Option (Piece T) → (buffer : List ℕ) → Type 0
  Gives whole bound (Some p) buffer = Writes p.count buffer whole (to_come p.after) bound (calls p.after)
  Gives whole bound None buffer = whole ≡ []

  abbrev pub Next : T → Option (Piece T) → (buffer : List ℕ) → Type 0
  Next t p buffer = Gives (to_come t) (calls t) p buffer
