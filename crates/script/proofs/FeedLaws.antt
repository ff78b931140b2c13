-- A script that is fed in parts.
use Rattle.std.proofs.Common.{◌≡◌, ℕ, ◌+◌, ◌<◌, List, [], ◌∷◌, ◌++◌, length, get_or, drop, refl, add-one, drop-cons}
use Rattle.script.specs.declared.Script.{Script}
use Rattle.script.specs.declared.Step.{Step}
use Rattle.script.specs.declared.Step.TheVariants.{More, Draw, Refused}
use Rattle.script.specs.Feeding.{Stepped, stepped, step_of, onward, feeding}

-- one byte more
pub feed-next : (bytes : List ℕ) (i : ℕ) (s : Script) (m : List ℕ) → i < length bytes
    → feeding (drop i bytes) s m ≡ onward (step_of s (get_or bytes i 0) m) (feeding (drop (i + 1) bytes))
unfolding feeding
feed-next bytes i s m h = rw (add-one, drop-cons bytes i 0)

-- a draw or a refusal is what the script comes to
pub stops : (o : Step) (m : List ℕ) (next : Script → List ℕ → Stepped) → ((s : Script) → o ≡ More s → ⊥) → onward (stepped o m) next ≡ stepped o m
stops (More s) m next h = absurd (h s refl)
stops (Draw σ) m next h = refl
stops (Refused n) m next h = refl

-- the parts in which a script comes do not matter
module _ (b : List ℕ) (f g : Script → List ℕ → Stepped) (e : (s : Script) (m : List ℕ) → f s m ≡ onward (g s m) (feeding b)) where
  onward-part : (o : Step) (m : List ℕ) → onward (stepped o m) f ≡ onward (onward (stepped o m) g) (feeding b)
  onward-part (More s) m = e s m
  onward-part (Draw σ) m = refl
  onward-part (Refused n) m = refl

pub feed-append : (a b : List ℕ) (s : Script) (m : List ℕ) → feeding (a ++ b) s m ≡ onward (feeding a s m) (feeding b)
unfolding feeding
feed-append [] b s m = refl
feed-append (x ∷ a) b s m =
    let t = step_of s x m in
    onward-part b (feeding (a ++ b)) (feeding a) (feed-append a b) t.outcome t.memory
