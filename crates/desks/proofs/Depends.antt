-- A frame depends on the words that it read: of two memories of one length that agree on them, frame and lists are the same; and so the
-- row beside its cut.
use Rattle.std.proofs.Common.{Err}
use mathlib.Core.Path.{◌≡◌, refl, sym, ap, ◌∙◌}
use mathlib.Core.Bool.{Bool, true, false}
use mathlib.Core.List.{List, [], ◌∷◌, ◌++◌}
use Prim.Native.Nat.{ℕ, suc, ◌+◌, ◌/◌}
use native.Mathlib.Omega.{arith}
use lib.IntN.{ℤ, pos}
use lib.Signed.{lt_z}
use lib.ListN.{length, get_or}
use lib.Dec.{eqb, ltb}
use Rattle.memory.specs.Word.{when◌then◌else◌}
use Rattle.memory.specs.Reading.{Reading, done, refuse, ask, ◌>>=◌, Outcome, given, refused, fault, refusal, run_from, run, asked}
use Rattle.memory.proofs.Agree.{All, none, also, SameWord, same_outcome}
use Rattle.settings.specs.declared.Settings.{Settings}
use Rattle.settings.specs.declared.PointerWords.{PointerWords}
use Rattle.state.specs.declared.State.{State}
use Rattle.start.specs.Start.{start_from, started, start_call}
use Rattle.row.specs.Row.{row}
use Rattle.frame.specs.Frame.{blank, frame}
use Rattle.beside.specs.Beside.{BesideCalled, beside_called, told_call, row_below, after_start, row_above, with_top, beside_call}
use Rattle.desks.specs.Finds.{words_read, Finds, later, Buffers, frame_lent, frame_over, lists, joined, reads_of, beside_read}
use Rattle.desks.proofs.ReadLaws.{all_in, read_all, read-words}
use Rattle.desks.proofs.Same.{Agree, over, call, Lengths, Equal, row_same, frame_same, frame-stays}

-- what holds of two lists one after the other
pub all_left : {P : ℕ → Type 0} (xs ys : List ℕ) → All P (xs ++ ys) → All P xs
all_left [] ys h = none
all_left (x ∷ xs) ys (also a h) = also a (all_left xs ys h)

pub all_right : {P : ℕ → Type 0} (xs ys : List ℕ) → All P (xs ++ ys) → All P ys
all_right [] ys h = h
all_right (x ∷ xs) ys (also a h) = all_right xs ys h

-- memories that agree, at each call, on all lists together
agree-each : (ms₁ ms₂ : Finds) (ls : List (List ℕ)) → ((n : ℕ) → All (SameWord (ms₁ n) (ms₂ n)) (joined ls)) → Agree ms₁ ms₂ ls
unfolding joined
agree-each ms₁ ms₂ [] h = over
agree-each ms₁ ms₂ (l ∷ ls) h =
    call (all_left l (joined ls) (h 0)) (agree-each (later ms₁) (later ms₂) ls λ n. all_right l (joined ls) (h (suc n)))

pub frame-each : (latch : ℕ) (σ : Settings) (ms₁ ms₂ : Finds) → Lengths ms₁ ms₂ → (bs₁ bs₂ : Buffers) → Lengths bs₁ bs₂
    → ((n : ℕ) → All (SameWord (ms₁ n) (ms₂ n)) (joined (lists latch σ ms₁)))
    → Equal (frame_lent latch σ ms₁ bs₁) (frame_lent latch σ ms₂ bs₂) (lists latch σ ms₁) (lists latch σ ms₂)
frame-each latch σ ms₁ ms₂ len bs₁ bs₂ size h = frame_same σ latch ms₁ ms₂ len bs₁ bs₂ size (agree-each ms₁ ms₂ (lists latch σ ms₁) h)

-- with right buffers
pub frame-over : (latch : ℕ) (σ : Settings) (ms₁ ms₂ : Finds) → Lengths ms₁ ms₂ → ((n : ℕ) → All (SameWord (ms₁ n) (ms₂ n)) (joined (lists latch σ ms₁)))
    → Equal (frame_over latch σ ms₁) (frame_over latch σ ms₂) (lists latch σ ms₁) (lists latch σ ms₂)
frame-over latch σ ms₁ ms₂ len h = frame-each latch σ ms₁ ms₂ len (λ _. blank) (λ _. blank) (λ _. refl) h

module _ (m₁ m₂ : List ℕ) (len : length m₁ ≡ length m₂) where
  pub frame-depends : (latch : ℕ) (σ : Settings) → All (SameWord m₁ m₂) (reads_of latch σ m₁)
      → Equal (frame latch σ m₁) (frame latch σ m₂) (lists latch σ λ _. m₁) (lists latch σ λ _. m₂)
  frame-depends latch σ h =
      let k = frame-over latch σ (λ _. m₁) (λ _. m₂) (λ _. len) (λ _. h) in
      record { frames = sym (frame-stays σ latch m₁) ∙ k.frames ∙ frame-stays σ latch m₂; addresses = k.addresses }

-- ---- the row beside the cut ----

-- what a reading asks for that goes on with another: the first one's, then what the other asks for
module _ {A B : Type 0} {P : ℕ → Type 0} (m : List ℕ) (k : A → Reading B) where
  if-all : (t : Bool) (a : ℕ) (l₁ l₂ : List ℕ) → (All P l₁ → All P l₂) → All P (a ∷ (when t then l₁ else [])) → All P (a ∷ (when t then l₂ else []))
  if-all true a l₁ l₂ f (also x h) = also x (f h)
  if-all false a l₁ l₂ f h = h

  pub asked-first : (p : Reading A) → All P (asked m (p >>= k)) → All P (asked m p)
  unfolding asked ◌>>=◌
  asked-first (done a) h = none
  asked-first (refuse x) h = none
  asked-first (ask q f) h = if-all (ltb (q.address / 2) (length m)) q.address _ _ (asked-first (f (get_or m (q.address / 2) 0))) h

  if-next : (t : Bool) (a : ℕ) (l₁ l₂ : List ℕ) {o₁ o₂ o : Outcome A} → (o₁ ≡ o → All P l₁ → All P l₂) → (o₂ ≡ o → ⊥)
      → (when t then o₁ else o₂) ≡ o → All P (a ∷ (when t then l₁ else [])) → All P l₂
  if-next true a l₁ l₂ f never e (also x h) = f e h
  if-next false a l₁ l₂ f never e h = absurd (never e)

  pub asked-next : (n : ℕ) (p : Reading A) {i : ℕ} {a : A} → run_from n m p ≡ given i a → All P (asked m (p >>= k)) → All P (asked m (k a))
  unfolding asked ◌>>=◌ run_from
  asked-next n (done b) {a = a} e h = let q : b ≡ a = cc in rw (← q) h
  asked-next n (refuse x) e h = let q : ◌≡◌ {A = ℕ} 0 1 = cc in absurd (omega arith)
  asked-next n (ask q f) e h =
      if-next (ltb (q.address / 2) (length m)) q.address _ _ (asked-next (n + 1) (f (get_or m (q.address / 2) 0)))
      (λ z. let q : ◌≡◌ {A = ℕ} 0 1 = cc in omega arith) e h

module _ (m₁ m₂ : List ℕ) (len : length m₁ ≡ length m₂) where
  pub above_same : (σ : Settings) (latch : ℕ) (b : List ℕ) → All (SameWord m₁ m₂) (words_read m₁ (start_from latch σ >>= row σ))
      → row_above σ m₁ latch b ≡ row_above σ m₂ latch b
  unfolding row_above start_call
  above_same σ latch b k =
      let h = read_all m₁ m₂ len (asked m₁ (start_from latch σ >>= row σ)) k in
      ap (λ (c : BesideCalled). when eqb (length b) 132 then c else beside_called (Err (refusal 0 (fault 1))) b)
      (by-start h (run m₁ (start_from latch σ)) refl
      ∙ ap (λ o. after_start σ m₂ b (started o)) (same_outcome m₁ m₂ len (start_from latch σ) 0 (asked-first m₁ (row σ) (start_from latch σ) h)))
    where
      by-start : All (SameWord m₁ m₂) (asked m₁ (start_from latch σ >>= row σ)) → (o : Outcome State) → run m₁ (start_from latch σ) ≡ o
          → after_start σ m₁ b (started o) ≡ after_start σ m₂ b (started o)
      by-start h (given n s) e =
          ap (told_call n) (row_same m₁ m₂ len σ s b (all_in m₁ (asked-next m₁ (row σ) 0 (start_from latch σ) e h)))
      by-start h (refused x) e = refl

  -- the row beside the cut depends on shift, soft top, start latch, the frame's last state and the words that it read
  pub beside-depends : (σ : Settings) (shift : ℤ) (soft : PointerWords) (latch : ℕ) (last : State) (b : List ℕ)
      → All (SameWord m₁ m₂) (beside_read σ m₁ shift soft latch last)
      → Equal (beside_call σ m₁ shift soft latch last b) (beside_call σ m₂ shift soft latch last b)
      (beside_read σ m₁ shift soft latch last) (beside_read σ m₂ shift soft latch last)
  unfolding beside_call beside_read row_below
  beside-depends σ shift soft latch last b =
      by-shift (lt_z (pos 0) shift) (lt_z shift (pos 0)) _ _ _ _ _ _ _ _ _
      (λ h. record {
        frames = ap (told_call 0) (row_same m₁ m₂ len σ _ b h);
        addresses = read-words m₁ m₂ len (row σ _) h;
      })
      (λ h. record {
        frames = above_same (with_top σ soft) latch b h;
        addresses = read-words m₁ m₂ len (start_from latch (with_top σ soft) >>= row (with_top σ soft)) h;
      })
    where
      by-shift : {A : Type 0} (t u : Bool) (x₁ x₂ y₁ y₂ z : A) (k₁ k₂ l₁ l₂ : List ℕ)
          → (All (SameWord m₁ m₂) k₁ → Equal x₁ x₂ k₁ k₂) → (All (SameWord m₁ m₂) l₁ → Equal y₁ y₂ l₁ l₂)
          → All (SameWord m₁ m₂) (when t then k₁ else when u then l₁ else [])
          → Equal (when t then x₁ else when u then y₁ else z) (when t then x₂ else when u then y₂ else z)
          (when t then k₁ else when u then l₁ else []) (when t then k₂ else when u then l₂ else [])
      by-shift true u x₁ x₂ y₁ y₂ z k₁ k₂ l₁ l₂ f g h = f h
      by-shift false true x₁ x₂ y₁ y₂ z k₁ k₂ l₁ l₂ f g h = g h
      by-shift false false x₁ x₂ y₁ y₂ z k₁ k₂ l₁ l₂ f g h = record { frames = refl; addresses = refl }
