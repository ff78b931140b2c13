-- Bytes that are read after others are read with them.
use Rattle.std.proofs.Common.{◌≡◌, ◌<◌, ◌^◌, sym, ap, ◌∙◌, List, [], ◌∷◌, ◌++◌, ℕ, zero, suc, length, take, replicate, Result, Ok, Err}
use Rattle.std.proofs.KnownBytes.{Consumes-trans, Consumes-nil, Consumes-kept}
use Rattle.std.specs.declared.option.Option.{Option}
use Rattle.std.specs.Io.KnownBytes.{Consumes, ReadConsumes}
use Rattle.std.specs.Result.{result_unwrap_or}
use Rattle.script.specs.declared.Script.{Script}
use Rattle.script.specs.declared.Step.{Step}
use Rattle.script.specs.declared.Step.TheVariants.{More}
use Rattle.script.specs.Script.{Outcome, refused_at, script}
use Rattle.script.specs.Feeding.{beginning, stepped, outcome}
use Rattle.script.proofs.ByRecords.{Bytes}
use Rattle.image.specs.Registers.{registers_of}
use Rattle.image.specs.Feeding.{Fed, fed, onward, feeding}
use Rattle.image.proofs.FeedLaws.{feed-append}
use Rattle.image.proofs.Reading.{fed-image}
use Rattle.script_input.specs.Input.{Input, led, ended}
use Rattle.script_input.specs.Reader.{Leads, on, out, Taken}

bytes_append : (k l : List ℕ) → Bytes k → Bytes l → Bytes (k ++ l)
bytes_append [] l v w i = w i
bytes_append (x ∷ k) l v w zero = v 0
bytes_append (x ∷ k) l v w (suc i) = bytes_append k l (λ j. v (suc j)) w i

-- what a read consumed, where one that fails counts as the end
pub consumed : {E : Type 0} (before after : Option (List ℕ)) (r : Result ℕ E) (buffer : List ℕ) → ReadConsumes before after r buffer
    → Consumes before after (take (result_unwrap_or r 0) buffer)
consumed before after (Ok n) buffer c = c.0
consumed before after (Err e) buffer c = Consumes-kept _ _ _ _ (Consumes-nil _) c

-- bytes led to a script that wants more
pub record Going (before after : Option (List ℕ)) (s : Script) (rs m : List ℕ) (t : Script) (registers memory : List ℕ) : Type 0 where
  pub bytes : List ℕ
  pub given : Consumes before after bytes
  pub small : Bytes bytes
  pub leads : fed (More t) registers memory ≡ feeding bytes s rs m

module _ {before between : Option (List ℕ)} {s t : Script} {rs m rs₁ m₁ : List ℕ} (g : Going before between s rs m t rs₁ m₁) where
  joined : (more : List ℕ) → feeding more t rs₁ m₁ ≡ feeding (g.bytes ++ more) s rs m
  joined more = ap (λ (x : Fed). onward x (feeding more)) g.leads ∙ sym (feed-append g.bytes more s rs m)

  led_on : {r : Step} {registers memory : List ℕ} (more : List ℕ) → Leads more t rs₁ m₁ r registers memory → Leads (g.bytes ++ more) s rs m r registers memory
  led_on more (on e) = on (e ∙ joined more)
  led_on more (out e) = out (e ∙ joined more)

  pub then : {after : Option (List ℕ)} {r : Step} {registers memory : List ℕ} → Taken between after t rs₁ m₁ r registers memory
      → Taken before after s rs m r registers memory
  then {after} x = record {
    bytes = g.bytes ++ x.bytes;
    given = Consumes-trans before between after g.bytes x.bytes g.given x.given;
    small = bytes_append g.bytes x.bytes g.small x.small;
    leads = led_on x.bytes x.leads;
  }

going_by : {s t : Script} {rs m registers memory bytes : List ℕ} → Leads bytes s rs m (More t) registers memory → fed (More t) registers memory ≡ feeding bytes s rs m
going_by (on e) = e

pub going : {before after : Option (List ℕ)} {s t : Script} {rs m registers memory : List ℕ} → Taken before after s rs m (More t) registers memory
    → Going before after s rs m t registers memory
going x = record { bytes = x.bytes; given = x.given; small = x.small; leads = going_by x.leads }

input_by : {s : Script} {r : Step} {rs m registers memory bytes : List ℕ} → Leads bytes s rs m r registers memory → Input s rs m r registers memory
input_by {bytes = bytes} (on e) = led bytes e
input_by {bytes = bytes} (out e) = ended bytes e

-- what a reader gave is some input
pub input_of : {before after : Option (List ℕ)} {s : Script} {r : Step} {rs m registers memory : List ℕ} → Taken before after s rs m r registers memory
    → Input s rs m r registers memory
input_of x = input_by x.leads

-- a script read from its beginning, on registers and memory that are 0: whatever is made of it is made of the script by its records, where a
-- refused one's registers do not matter; a slice's length fits 64 bits
module _ {A : Type 0} (f : List ℕ → Outcome → A) (refused : (rs qs : List ℕ) (n : ℕ) → f rs (refused_at n) ≡ f qs (refused_at n)) where
  pub made_of : {bytes registers memory : List ℕ} {r : Step} → Leads bytes beginning (replicate 25 0) (replicate 16384 0) r registers memory
      → length bytes < 2 ^ 64 → Bytes bytes → f registers (outcome (stepped r memory)) ≡ f (registers_of bytes) (script bytes)
  made_of {bytes} (on e) h w = fed-image f refused bytes h w _ e
  made_of {bytes} (out e) h w = fed-image f refused bytes h w _ e
