-- A script that is read byte by byte, in any parts, comes to what its records come to.
use Rattle.std.proofs.Common.{◌≡◌, ℕ, zero, suc, ◌+◌, ◌-◌, ◌*◌, ◌%◌, ◌^◌, ◌<◌, ◌≤◌, Bool, true, false, eqb, ltb, List, [], ◌∷◌, length, get_or, take, drop, replicate, sym, refl, ap, ◌∙◌, le_refl, zero-add, arith, lit<, length-drop, length-take-le, get_or-drop, ltb-false, ltb-true, le-ltb, lt-ltb, ne_eqb, le-leb}
use borrow.Author.Tests.{lt-leb}
use Rattle.memory.proofs.ReadBounds.{if-cases}
use Rattle.settings.specs.declared.Settings.{Settings}
use Rattle.script.specs.declared.Script.{Script}
use Rattle.script.specs.declared.Step.{Step}
use Rattle.script.specs.declared.Step.TheVariants.{More, Draw, Refused}
use Rattle.script.specs.Records.{body_length, accepted, settings_after, memory_after}
use Rattle.script.specs.Script.{refused_at, unset, number_from, number, records, script}
use Rattle.script.specs.Feeding.{beginning, counted, begun, taken, ended, Stepped, stepped, step_of, onward, feeding, outcome, joined, in_parts, read_parts}
use Rattle.script.proofs.FeedLaws.{feed-append}

abbrev pub Bytes : List ℕ → Type 0
Bytes bytes = (i : ℕ) → get_or bytes i 0 < 256

bytes_take : (k : ℕ) (l : List ℕ) → Bytes l → Bytes (take k l)
bytes_take zero l w i = lit< tt
bytes_take (suc k) [] w i = lit< tt
bytes_take (suc k) (x ∷ l) w zero = w 0
bytes_take (suc k) (x ∷ l) w (suc i) = bytes_take k l (λ j. w (suc j)) i

bytes_drop : (k : ℕ) (l : List ℕ) → Bytes l → Bytes (drop k l)
bytes_drop k l w i = rw get_or-drop (w (k + i))

either : {P : Type 0} (b : Bool) → (b ≡ true → P) → (b ≡ false → P) → P
either true t f = t refl
either false t f = f refl

-- ---- a body, byte by byte ----
taking : List ℕ → Script → Script
taking [] s = s
taking (b ∷ bs) s = taking bs (taken s b)

from-least : (n : ℕ) (bs : List ℕ) → n ≤ number_from n bs
unfolding number_from
from-least n [] = omega arith
from-least n (b ∷ bs) = omega (arith, from-least (n * 256 + b) bs)

number_small : (bs : List ℕ) → length bs ≤ 5 → Bytes bs → number bs < 2 ^ 40
unfolding number_from
number_small [] l h = omega arith
number_small (a ∷ []) l h = omega (arith, h 0)
number_small (a ∷ b ∷ []) l h = omega (arith, h 0, h 1)
number_small (a ∷ b ∷ c ∷ []) l h = omega (arith, h 0, h 1, h 2)
number_small (a ∷ b ∷ c ∷ d ∷ []) l h = omega (arith, h 0, h 1, h 2, h 3)
number_small (a ∷ b ∷ c ∷ d ∷ e ∷ []) l h = omega (arith, h 0, h 1, h 2, h 3, h 4)
number_small (a ∷ b ∷ c ∷ d ∷ e ∷ f ∷ bs) l h = absurd (omega arith)

-- a record in hand with n bytes of its body still to come
abbrev in_hand : Settings → ℕ → ℕ → ℕ → ℕ → ℕ → Script
in_hand σ read start kind left body = record { settings = σ; read = read; start = start; kind = kind; left = left; body = body }

taken-all : (bs : List ℕ) (σ : Settings) (read start kind left body : ℕ) → read + length bs < 2 ^ 64 → number_from body bs < 2 ^ 40
    → taking bs (in_hand σ read start kind (length bs + left) body) ≡ in_hand σ (read + length bs) start kind left (number_from body bs)
unfolding taking taken number_from
taken-all [] σ read start kind left body h g =
    let n : read + length {A = ℕ} [] ≡ read = omega arith in
    let k : length {A = ℕ} [] + left ≡ left = omega arith in
    rw (n, k)
taken-all (b ∷ bs) σ read start kind left body h g =
    let n : counted read ≡ read + 1 = omega arith in
    let m : (body * 256 + b) % 2 ^ 40 ≡ body * 256 + b = omega (arith, from-least (body * 256 + b) bs) in
    let k : suc (length bs) + left - 1 ≡ length bs + left = omega arith in
    let l : read + 1 + length bs ≡ read + suc (length bs) = omega arith in
    rw (n, m, k, ← l) (taken-all bs σ (read + 1) start kind left (body * 256 + b) (omega arith) g)

module _ (m : List ℕ) where
  -- a body that is there, and one that is cut short
  body-there : (k : ℕ) (s : Script) (bytes : List ℕ) → s.left ≡ suc k → suc k ≤ length bytes
      → feeding bytes s m ≡ onward (ended (taking (take (suc k) bytes) s) m) (feeding (drop (suc k) bytes))
  unfolding feeding step_of taking taken
  body-there k s [] l h = absurd (omega arith)
  body-there zero s (b ∷ bs) l h = rw l
  body-there (suc k) s (b ∷ bs) l h =
      rw (ne_eqb s.left 0 (λ e. omega arith), ne_eqb s.left 1 (λ e. omega arith)) (body-there k (taken s b) bs (omega arith) (omega arith))

  feed-body : (k : ℕ) (s : Script) (bytes : List ℕ) → s.left ≡ k → 0 < k → k ≤ length bytes
      → feeding bytes s m ≡ onward (ended (taking (take k bytes) s) m) (feeding (drop k bytes))
  feed-body zero s bytes l p h = absurd (omega arith)
  feed-body (suc k) s bytes l p h = body-there k s bytes l h

  feed-cut : (k : ℕ) (s : Script) (bytes : List ℕ) → s.left ≡ suc k → length bytes < suc k
      → feeding bytes s m ≡ stepped (More (taking bytes s)) m
  unfolding feeding step_of taking taken
  feed-cut k s [] l h = refl
  feed-cut zero s (b ∷ bs) l h = absurd (omega arith)
  feed-cut (suc k) s (b ∷ bs) l h =
      rw (ne_eqb s.left 0 (λ e. omega arith), ne_eqb s.left 1 (λ e. omega arith)) (feed-cut k (taken s b) bs (omega arith) (omega arith))

-- ---- a record ----
length-least : (kind : ℕ) → (body_length kind ≡ suc (body_length kind - 1)) × (body_length kind ≤ 5)
length-least kind =
    if-cases (λ (n : ℕ). (n ≡ suc (n - 1)) × (n ≤ 5)) (eqb kind 1) (λ _. (refl, omega arith))
    (λ _. if-cases (λ (n : ℕ). (n ≡ suc (n - 1)) × (n ≤ 5)) (eqb kind 2) (λ _. (refl, omega arith)) (λ _. (refl, omega arith)))

-- between two records: what is read so far, and what is set
abbrev between : Settings → ℕ → ℕ → ℕ → ℕ → Script
between σ read start kind body = in_hand σ read start kind 0 body

module _ (size : ℕ) (fits : size < 2 ^ 64) where
  -- the bytes from a record on
  abbrev Same : ℕ → Type 0
  Same n = (bytes m : List ℕ) (σ : Settings) (at start last body : ℕ) → length bytes ≤ n → at + length bytes ≡ size → Bytes bytes
      → outcome (feeding bytes (between σ at start last body) m) ≡ records size n at σ m bytes

  module _ (n : ℕ) (same : Same n) (kind : ℕ) (bytes m : List ℕ) (σ : Settings) (at : ℕ) (h : length bytes ≤ n) (e : at + suc (length bytes) ≡ size)
      (w : Bytes bytes) (known : eqb kind 0 ≡ false) (low : ltb 3 kind ≡ false) where
    record-in-hand : Script
    record-in-hand = in_hand σ (at + 1) at kind (body_length kind) 0

    handed : (start last body : ℕ) → begun (between σ at start last body) kind ≡ More record-in-hand
    unfolding begun record-in-hand
    handed start last body =
        let n : counted at ≡ at + 1 = omega arith in
        rw (known, le-leb kind 3 (ltb-false 3 kind low), n)

    taken-by : (bs : List ℕ) (k : ℕ) → body_length kind ≡ length bs + k → at + 1 + length bs < 2 ^ 64 → Bytes bs
        → taking bs record-in-hand ≡ in_hand σ (at + 1 + length bs) at kind k (number bs)
    unfolding record-in-hand
    taken-by bs k left h w =
        ap (λ (k : ℕ). taking bs (in_hand σ (at + 1) at kind k 0)) left
        ∙ taken-all bs σ (at + 1) at kind k 0 h (number_small bs (omega (arith, (length-least kind).1)) w)

    -- cut short
    cut : length bytes < body_length kind → outcome (feeding bytes record-in-hand m) ≡ records size (suc n) at σ m (kind ∷ bytes)
    unfolding record-in-hand records
    cut l =
        let k = body_length kind - length bytes in
        rw (feed-cut m (body_length kind - 1) record-in-hand bytes (length-least kind).0 (omega arith), known, low, lt-ltb (length bytes) (body_length kind) l)
        (ap (λ (s : Script). refused_at s.read) (taken-by bytes k (omega arith) (omega arith) w) ∙ ap refused_at (omega arith))

    -- there whole: its body's number decides
    whole : body_length kind ≤ length bytes → outcome (feeding bytes record-in-hand m) ≡ records size (suc n) at σ m (kind ∷ bytes)
    unfolding record-in-hand records ended
    whole l =
        let k = body_length kind in
        let bs = take k bytes in
        let sized : length bs ≡ k = length-take-le k bytes l in
        let t : taking bs record-in-hand ≡ in_hand σ (at + 1 + k) at kind 0 (number bs) =
        taken-by bs 0 (omega arith) (omega arith) (bytes_take k bytes w) ∙ ap (λ (n : ℕ). in_hand σ (at + 1 + n) at kind 0 (number bs)) sized in
        rw (feed-body m k record-in-hand bytes refl (omega (arith, (length-least kind).0)) l, t, known, low, le-ltb (length bytes) k l)
        (either (accepted kind (number bs))
        (λ good. rw good (same (drop k bytes) (memory_after kind (number bs) m) (settings_after kind (number bs) σ) (at + 1 + k) at kind (number bs)
        (rw length-drop (omega arith)) (rw length-drop (omega arith)) (bytes_drop k bytes w)))
        (λ bad. rw bad))

  -- the record's byte of kind
  begins : (kind : ℕ) (s : Script) (m : List ℕ) → s.left ≡ 0 → step_of s kind m ≡ stepped (begun s kind) m
  unfolding step_of
  begins kind s m e = rw e

  by_kind : (n : ℕ) → Same n → (kind : ℕ) (bytes m : List ℕ) (σ : Settings) (at start last body : ℕ) → length bytes ≤ n
      → at + suc (length bytes) ≡ size → Bytes (kind ∷ bytes)
      → outcome (onward (stepped (begun (between σ at start last body) kind) m) (feeding bytes)) ≡ records size (suc n) at σ m (kind ∷ bytes)
  unfolding begun records
  by_kind n same kind bytes m σ at start last body h e w =
      either (eqb kind 0) (λ draw. rw draw)
      (λ body-follows. either (ltb 3 kind)
      (λ high. rw (body-follows, high, lt-leb kind 3 (ltb-true 3 kind high)))
      (λ low. in-hand body-follows low))
    where
      in-hand : eqb kind 0 ≡ false → ltb 3 kind ≡ false
          → outcome (onward (stepped (begun (between σ at start last body) kind) m) (feeding bytes)) ≡ records size (suc n) at σ m (kind ∷ bytes)
      in-hand known low =
          let tail : Bytes bytes = λ i. w (suc i) in
          rw (handed n same kind bytes m σ at h e tail known low start last body)
          (either (ltb (length bytes) (body_length kind))
          (λ l. cut n same kind bytes m σ at h e tail known low (ltb-true _ _ l))
          (λ l. whole n same kind bytes m σ at h e tail known low (ltb-false _ _ l)))

  records-same : (n : ℕ) → Same n
  unfolding feeding records
  records-same zero [] m σ at start last body h e w = ap refused_at (omega arith)
  records-same (suc n) [] m σ at start last body h e w = ap refused_at (omega arith)
  records-same zero (kind ∷ bytes) m σ at start last body h e w = absurd (omega arith)
  records-same (suc n) (kind ∷ bytes) m σ at start last body h e w =
      rw (begins kind (between σ at start last body) m refl) (by_kind n (records-same n) kind bytes m σ at start last body (omega arith) e w)

-- a script fed whole; its length fits 64 bits, as every slice's does
pub fed-script : (bytes : List ℕ) → length bytes < 2 ^ 64 → Bytes bytes
    → outcome (feeding bytes beginning (replicate 16384 0)) ≡ script bytes
unfolding beginning script
fed-script bytes h w = records-same (length bytes) h (length bytes) bytes (replicate 16384 0) unset 0 0 0 0 (le_refl _) (zero-add _) w

-- in any parts
onward-same : (f g : Script → List ℕ → Stepped) → ((s : Script) (m : List ℕ) → f s m ≡ g s m) → (o : Step) (m : List ℕ)
    → onward (stepped o m) f ≡ onward (stepped o m) g
onward-same f g e (More s) m = e s m
onward-same f g e (Draw σ) m = refl
onward-same f g e (Refused n) m = refl

in-parts : (parts : List (List ℕ)) (s : Script) (m : List ℕ) → in_parts parts s m ≡ feeding (joined parts) s m
unfolding in_parts feeding joined
in-parts [] s m = refl
in-parts (part ∷ parts) s m =
    let t = feeding part s m in
    onward-same (in_parts parts) (feeding (joined parts)) (in-parts parts) t.outcome t.memory ∙ sym (feed-append part (joined parts) s m)

pub read-script : (parts : List (List ℕ)) → length (joined parts) < 2 ^ 64 → Bytes (joined parts)
    → outcome (read_parts parts) ≡ script (joined parts)
read-script parts h w = ap outcome (in-parts parts beginning (replicate 16384 0)) ∙ fed-script (joined parts) h w
