-- A program that reads a script and writes what is made of it, line after line, has printed the text of the bytes that it read.
use Rattle.std.proofs.Common.{◌≡◌, ◌∙◌, subst, List, ◌++◌, append_assoc, ℕ, Result, Ok, Err, OnOk, replicate}
use Rattle.std.proofs.KnownBytes.{Appends-trans}
use Rattle.std.specs.declared.option.Option.{Option}
use Rattle.std.specs.Io.KnownBytes.{Appends}
use Rattle.script.specs.declared.Step.{Step}
use Rattle.script.specs.Script.{Outcome, refused_at, script}
use Rattle.script.specs.Feeding.{beginning, stepped, outcome}
use Rattle.image.specs.Registers.{registers_of}
use Rattle.script_input.specs.Reader.{Taken, Prints}
use Rattle.script_input.proofs.InputLaws.{made_of}

-- what a loop that writes a text has written so far, which with what is to come is the whole
abbrev pub SoFar : (held holds : Option (List ℕ)) (rest whole : List ℕ) → Type 0
SoFar held holds rest whole = (written : List ℕ) × Appends held holds written × (written ++ rest ≡ whole)

-- what a call writes follows what the calls before it wrote
pub written-on : (held between holds : Option (List ℕ)) (line : List ℕ) {after rest whole : List ℕ} → SoFar held between rest whole
    → Appends between holds line → line ++ after ≡ rest → SoFar held holds after whole
written-on held between holds line s w e =
    (s.0 ++ line, Appends-trans held between holds s.0 line s.1 w, rw (append_assoc, e) s.2)

-- the text f of a script's registers and outcome
module _ (f : List ℕ → Outcome → List ℕ) (refused : (rs qs : List ℕ) (n : ℕ) → f rs (refused_at n) ≡ f qs (refused_at n))
    (output : List ℕ → List ℕ) (same : (bytes : List ℕ) → f (registers_of bytes) (script bytes) ≡ output bytes) where
  prints : (held holds : Option (List ℕ)) {before after : Option (List ℕ)} {r : Step} {registers memory : List ℕ}
      → Taken before after beginning (replicate 25 0) (replicate 16384 0) r registers memory
      → Appends held holds (f registers (outcome (stepped r memory))) → Prints output before after held holds
  prints held holds x w = record {
    bytes = x.bytes;
    given = x.given;
    printed = λ h. subst (Appends held holds) (made_of f refused x.leads h x.small ∙ same x.bytes) w;
  }

  -- unless a write has failed, where the text that was written is that of the script read
  pub printed : {T E : Type 0} (result : Result T E) (held holds : Option (List ℕ)) {text : List ℕ} {before after : Option (List ℕ)} {r : Step}
      {registers memory : List ℕ} → Taken before after beginning (replicate 25 0) (replicate 16384 0) r registers memory
      → text ≡ f registers (outcome (stepped r memory)) → OnOk result (Appends held holds text) → OnOk result (Prints output before after held holds)
  printed (Ok x) held holds t e w = prints held holds t (subst (Appends held holds) e w)
  printed (Err e) held holds t _ w = tt
