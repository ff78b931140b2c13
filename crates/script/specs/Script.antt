-- Document 01, "The draw program": "It reads a script on standard input: one byte of kind, then a body of fixed length, high
-- byte first." A script comes to a draw, or is refused.
use Rattle.std.specs.Prelude.{ℕ, zero, suc, ◌+◌, ◌*◌, false, List, [], ◌∷◌, length, take, drop, replicate, ◌==◌, nat_lt}
use Rattle.memory.specs.Word.{when◌then◌else◌}
use Rattle.settings.specs.declared.Edition.TheVariants.{Am8052}
use Rattle.settings.specs.declared.Interlace.TheVariants.{Progressive}
use Rattle.settings.specs.declared.Settings.{Settings}
use Rattle.script.specs.Records.{body_length, accepted, settings_after, memory_after}

-- what a script comes to: the settings and the memory that it draws from, or the N of `refused script at N`
pub data Outcome : Type 0 where
  drawn : Settings → List ℕ → Outcome
  refused_at : ℕ → Outcome

-- "Unset is 0." 02: "the draw program are the first edition"
unfoldable pub unset : Settings
unset = record {
  linear = false;
  hidden = false;
  interlace = Progressive;
  cursor = false;
  flag = 0;
  top = record { first = 0; second = 0 };
  tow = record { first = 0; second = 0 };
  vsw = 0;
  vsd = 0;
  val = 0;
  vtot = 0;
  hsync = 0;
  hsd = 0;
  htc = 0;
  htd = 0;
  edition = Am8052;
}

-- "high byte first"
unfoldable pub number_from : ℕ → List ℕ → ℕ
number_from n [] = n
number_from n (b ∷ bs) = number_from (n * 256 + b) bs

abbrev pub number : List ℕ → ℕ
number bytes = number_from 0 bytes

-- The record at offset `at` of a script of `size` bytes, and those after it. "0: draw and stop (no body)."; "An unknown kind, .. prints
-- `refused script at N`, N the byte offset of that record. Input that ends before a draw, or inside a record of known kind, good
-- so far or not, prints the same with N its length." There are no more records than bytes: n counts them down.
unfoldable pub records : ℕ → ℕ → ℕ → Settings → List ℕ → List ℕ → Outcome
records size zero at σ m bytes = refused_at size
records size (suc n) at σ m [] = refused_at size
records size (suc n) at σ m (kind ∷ bytes) =
    let body : ℕ = number (take (body_length kind) bytes) in
    when kind == 0 then drawn σ m
    else when nat_lt 3 kind then refused_at at
    else when nat_lt (length bytes) (body_length kind) then refused_at size
    else when accepted kind body
    then records size n (at + 1 + body_length kind) (settings_after kind body σ) (memory_after kind body m) (drop (body_length kind) bytes)
    else refused_at at

-- a whole script, on memory of "16,384 words" that are 0
unfoldable pub script : List ℕ → Outcome
script bytes = records (length bytes) (length bytes) 0 unset (replicate 16384 0) bytes
