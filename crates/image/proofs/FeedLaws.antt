-- A script that is fed with its registers: byte by byte, in parts, and as `script::feed` has it.
use mathlib.Core.Path.{◌≡◌, refl, sym, ◌∙◌}
use mathlib.Core.List.{List, [], ◌∷◌, ◌++◌}
use Prim.Native.Nat.{ℕ, ◌+◌, ◌<◌}
use native.Mathlib.Numerals.{add-one}
use lib.ListN.{length, get_or, drop}
use lib.Seq.{drop-cons}
use Rattle.script.specs.declared.Script.{Script}
use Rattle.script.specs.declared.Step.{Step}
use Rattle.script.specs.declared.Step.TheVariants.{More, Draw, Refused}
use Rattle.script.specs.Feeding.{Stepped, stepped, step_of, joined}
use Rattle.script.specs.Feeding as Script
use Rattle.image.specs.Feeding.{noted, Fed, fed, byte_of, onward, feeding, in_parts}

-- one byte more
pub feed-next : (bytes : List ℕ) (i : ℕ) (s : Script) (rs m : List ℕ) → i < length bytes
    → feeding (drop i bytes) s rs m ≡ onward (byte_of s (get_or bytes i 0) rs m) (feeding (drop (i + 1) bytes))
unfolding feeding
feed-next bytes i s rs m h = rw (add-one, drop-cons bytes i 0)

-- a script that has come to its draw or refusal stays there, and has no register to note
pub onward-ended : (o : Step) (rs m : List ℕ) (next : Script → (registers memory : List ℕ) → Fed) → ((s : Script) → o ≡ More s → ⊥)
    → onward (fed o rs m) next ≡ fed o rs m
onward-ended (More s) rs m next h = absurd (h s refl)
onward-ended (Draw σ) rs m next h = refl
onward-ended (Refused n) rs m next h = refl

pub none-noted : (o : Step) (rs : List ℕ) → ((s : Script) → o ≡ More s → ⊥) → noted o rs ≡ rs
none-noted (More s) rs h = absurd (h s refl)
none-noted (Draw σ) rs h = refl
none-noted (Refused n) rs h = refl

-- the parts in which a script comes do not matter
module _ (next f g : Script → (registers memory : List ℕ) → Fed) (e : (s : Script) (rs m : List ℕ) → f s rs m ≡ onward (g s rs m) next) where
  onward-part : (o : Step) (rs m : List ℕ) → onward (fed o rs m) f ≡ onward (onward (fed o rs m) g) next
  onward-part (More s) rs m = e s rs m
  onward-part (Draw σ) rs m = refl
  onward-part (Refused n) rs m = refl

pub feed-append : (a b : List ℕ) (s : Script) (rs m : List ℕ) → feeding (a ++ b) s rs m ≡ onward (feeding a s rs m) (feeding b)
unfolding feeding
feed-append [] b s rs m = refl
feed-append (x ∷ a) b s rs m =
    let t = byte_of s x rs m in
    onward-part (feeding b) (feeding (a ++ b)) (feeding a) (feed-append a b) t.stepped.outcome t.registers t.stepped.memory

onward-same : (f g : Script → (registers memory : List ℕ) → Fed) → ((s : Script) (rs m : List ℕ) → f s rs m ≡ g s rs m) → (o : Step) (rs m : List ℕ)
    → onward (fed o rs m) f ≡ onward (fed o rs m) g
onward-same f g e (More s) rs m = e s rs m
onward-same f g e (Draw σ) rs m = refl
onward-same f g e (Refused n) rs m = refl

pub in-parts : (parts : List (List ℕ)) (s : Script) (rs m : List ℕ) → in_parts parts s rs m ≡ feeding (joined parts) s rs m
unfolding in_parts feeding joined
in-parts [] s rs m = refl
in-parts (part ∷ parts) s rs m =
    let t = feeding part s rs m in
    onward-same (in_parts parts) (feeding (joined parts)) (in-parts parts) t.stepped.outcome t.registers t.stepped.memory
    ∙ sym (feed-append part (joined parts) s rs m)

-- without the registers
module _ (f : Script → (registers memory : List ℕ) → Fed) (g : Script → List ℕ → Stepped)
    (same : (s : Script) (rs m : List ℕ) → (f s rs m).stepped ≡ g s m) where
  onward-script : (o : Step) (rs m : List ℕ) → (onward (fed o rs m) f).stepped ≡ Script.onward (stepped o m) g
  onward-script (More s) rs m = same s rs m
  onward-script (Draw σ) rs m = refl
  onward-script (Refused n) rs m = refl

pub same-script : (bytes : List ℕ) (s : Script) (rs m : List ℕ) → (feeding bytes s rs m).stepped ≡ Script.feeding bytes s m
unfolding feeding byte_of Script.feeding
same-script [] s rs m = refl
same-script (b ∷ bs) s rs m =
    let t = step_of s b m in
    onward-script (feeding bs) (Script.feeding bs) (same-script bs) t.outcome (noted t.outcome rs) t.memory
