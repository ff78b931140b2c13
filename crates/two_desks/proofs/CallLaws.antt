-- One call on two memories of one length that agree on the words that it reads: the same answer, and the same addresses.
use Rattle.std.proofs.Common.{Ok}
use mathlib.Core.Path.{◌≡◌, refl, ap, ap₂}
use mathlib.Core.Bool.{Bool, true, false, ◌&&◌}
use mathlib.Core.List.{List, []}
use Prim.Native.Nat.{ℕ, ◌/◌}
use lib.IntN.{ℤ, pos}
use lib.Signed.{lt_z}
use lib.ListN.{length, set}
use lib.Dec.{eqb}
use Rattle.memory.specs.Word.{when◌then◌else◌}
use Rattle.memory.specs.Reading.{Reading, ◌>>=◌}
use Rattle.memory.proofs.Agree.{All, SameWord}
use Rattle.settings.specs.declared.PointerWords.{PointerWords}
use Rattle.settings.specs.declared.Settings.{Settings}
use Rattle.state.specs.declared.State.{State}
use Rattle.start.specs.Start.{start_from, started, start_call}
use Rattle.row.specs.Row as Rows
use Rattle.scroll.specs.Scroll as Scrolls
use Rattle.state.specs.State.{state_of}
use Rattle.beside.specs.Beside.{BesideCalled, with_one_line, with_top, row_above}
use Rattle.listed.specs.Listed.{unless_refused, list_after, start_with, start_listed, called_with, row_listed}
use Rattle.listed_beside.specs.ListedBeside.{BesideListed, told_listed, above_with, below_listed, above_listed, beside_listed}
use Rattle.desks.specs.Finds.{words_read, beside_read}
use Rattle.desks.proofs.ReadLaws.{read-outcome, read_asked, read-words}
use Rattle.desks.proofs.Same.{row_same}
use Rattle.desks.proofs.Depends.{above_same, beside-depends}
use Rattle.writer.specs.declared.Span.{Span}
use Rattle.writer.specs.Writer.{share, may_write, wrote, refused_with, write_word}
use Rattle.two_desks.specs.DeskCalls as Calls
use Rattle.two_desks.specs.DeskCalls.{Call, sized, read_by, answer}

-- what is read where a test holds
module _ {A : Type 0} {P : ℕ → Type 0} (x y z : A) (l : List ℕ) (same : All P l → x ≡ y) where
  pub if-read : (t : Bool) → All P (when t then l else []) → (when t then x else z) ≡ (when t then y else z)
  if-read true h = same h
  if-read false h = refl

  -- .. two tests, one after the other
  pub if-both : (t u : Bool) (o₁ o₂ : A) → (t ≡ false → o₁ ≡ o₂) → All P (when t && u then l else [])
      → (when t then (when u then x else z) else o₁) ≡ (when t then (when u then y else z) else o₂)
  if-both true true o₁ o₂ k h = same h
  if-both true false o₁ o₂ k h = refl
  if-both false u o₁ o₂ k h = k refl

-- a call refused 1 reads nothing
row-unfit : (σ : Settings) (m₁ m₂ : List ℕ) (s : State) (b : List ℕ) → eqb (length b) 132 ≡ false → Rows.row_call σ m₁ s b ≡ Rows.row_call σ m₂ s b
unfolding Rows.row_call
row-unfit σ m₁ m₂ s b e = rw e

above-unfit : (σ : Settings) (m₁ m₂ : List ℕ) (latch : ℕ) (b : List ℕ) → eqb (length b) 132 ≡ false → row_above σ m₁ latch b ≡ row_above σ m₂ latch b
unfolding row_above
above-unfit σ m₁ m₂ latch b e = rw e

module _ (m₁ m₂ : List ℕ) (len : length m₁ ≡ length m₂) where
  list_same : {A : Type 0} (p : Reading A) (list : List ℕ) → All (SameWord m₁ m₂) (words_read m₁ p) → list_after m₁ p list ≡ list_after m₂ p list
  list_same p list h =
      ap₂ (λ o l. unless_refused o l list) (read-outcome m₁ m₂ len p h 0) (read_asked m₁ m₂ len p h)

  start-same : (latch : ℕ) (σ : Settings) (list : List ℕ) → All (SameWord m₁ m₂) (when eqb (length list) 12000 then words_read m₁ (start_from latch σ) else [])
      → start_listed latch σ m₁ list ≡ start_listed latch σ m₂ list
  unfolding start_listed start_call
  start-same latch σ list =
      if-read _ _ _ (words_read m₁ (start_from latch σ))
      (λ h. ap₂ (λ o l. start_with (started o) l) (read-outcome m₁ m₂ len (start_from latch σ) h 0) (list_same (start_from latch σ) list h))
      (eqb (length list) 12000)

  pub listed_same : (σ : Settings) (s : State) (buffer list : List ℕ) → All (SameWord m₁ m₂) (sized buffer list (words_read m₁ (Rows.row σ s)))
      → row_listed σ m₁ s buffer list ≡ row_listed σ m₂ s buffer list
  unfolding row_listed
  listed_same σ s buffer list =
      if-both _ _ _ (words_read m₁ (Rows.row σ s)) (λ h. ap₂ called_with (row_same m₁ m₂ len σ s buffer h) (list_same (Rows.row σ s) list h))
      (eqb (length buffer) 132) (eqb (length list) 12000) _ _
      (λ e. ap (λ (c : Rows.Called). called_with c list) (row-unfit σ m₁ m₂ s buffer e))

  above_listed_lem : (σ : Settings) (latch : ℕ) (buffer list : List ℕ)
      → All (SameWord m₁ m₂) (sized buffer list (words_read m₁ (start_from latch σ >>= Rows.row σ)))
      → above_listed σ m₁ latch buffer list ≡ above_listed σ m₂ latch buffer list
  unfolding above_listed
  above_listed_lem σ latch buffer list =
      if-both _ _ _ (words_read m₁ (start_from latch σ >>= Rows.row σ))
      (λ h. ap₂ above_with (above_same m₁ m₂ len σ latch buffer h) (list_same (start_from latch σ >>= Rows.row σ) list h))
      (eqb (length buffer) 132) (eqb (length list) 12000) _ _
      (λ e. ap (λ (c : BesideCalled). above_with c list) (above-unfit σ m₁ m₂ latch buffer e))

  beside_same : (σ : Settings) (z : ℤ) (soft : PointerWords) (latch : ℕ) (s : State) (buffer list : List ℕ)
      → All (SameWord m₁ m₂) (sized buffer list (beside_read σ m₁ z soft latch s))
      → beside_listed σ m₁ z soft latch s buffer list ≡ beside_listed σ m₂ z soft latch s buffer list
  unfolding beside_listed beside_read below_listed
  beside_same σ z soft latch s buffer list =
      by-shift (lt_z (pos 0) z) (lt_z z (pos 0)) _ _ _ _ _ _ _
      (λ h. ap told_listed (listed_same σ (state_of s.latch (with_one_line s.fields)) buffer list h))
      (above_listed_lem (with_top σ soft) latch buffer list)
    where
      by-shift : (t u : Bool) (k l : List ℕ) (x₁ x₂ y₁ y₂ z : BesideListed)
          → (All (SameWord m₁ m₂) (sized buffer list k) → x₁ ≡ x₂) → (All (SameWord m₁ m₂) (sized buffer list l) → y₁ ≡ y₂)
          → All (SameWord m₁ m₂) (sized buffer list (when t then k else when u then l else []))
          → (when t then x₁ else when u then y₁ else z) ≡ (when t then x₂ else when u then y₂ else z)
      by-shift true u k l x₁ x₂ y₁ y₂ z f g h = f h
      by-shift false true k l x₁ x₂ y₁ y₂ z f g h = g h
      by-shift false false k l x₁ x₂ y₁ y₂ z f g h = refl

  -- a writer call's answer looks at memory's length alone
  write_same : (own other : Span) (a w : ℕ) → (write_word m₁ own other a w).answer ≡ (write_word m₂ own other a w).answer
  unfolding write_word
  write_same own other a w = rw len (by-test (share own other) (may_write own a (length m₂)))
    where
      by-test : (t u : Bool)
          → (when t then wrote (refused_with 16) m₁ else when u then wrote (Ok tt) (set m₁ (a / 2) w) else wrote (refused_with 15) m₁).answer
          ≡ (when t then wrote (refused_with 16) m₂ else when u then wrote (Ok tt) (set m₂ (a / 2) w) else wrote (refused_with 15) m₂).answer
      by-test true u = refl
      by-test false true = refl
      by-test false false = refl

  pub answer-same : (own other : Span) (s : State) (c : Call) → All (SameWord m₁ m₂) (read_by m₁ s c)
      → answer own other m₁ s c ≡ answer own other m₂ s c
  unfolding answer read_by Scrolls.shift_call
  answer-same own other s (Calls.start σ latch list) h = ap Calls.started (start-same latch σ list h)
  answer-same own other s (Calls.row σ buffer list) h = ap Calls.drawn (listed_same σ s buffer list h)
  answer-same own other s (Calls.shift σ soft last) h =
      ap (λ o. Calls.shifted (Scrolls.shift_answered o)) (read-outcome m₁ m₂ len (Scrolls.shift σ soft last) h 0)
  answer-same own other s (Calls.beside σ z soft latch buffer list) h = ap Calls.besides (beside_same σ z soft latch s buffer list h)
  answer-same own other s (Calls.write a w) h = ap Calls.wrote (write_same own other a w)

  -- what is read where a test holds
  read-if : (t : Bool) (l₁ l₂ : List ℕ) → (All (SameWord m₁ m₂) l₁ → l₁ ≡ l₂) → All (SameWord m₁ m₂) (when t then l₁ else [])
      → (when t then l₁ else []) ≡ (when t then l₂ else [])
  read-if true l₁ l₂ f h = f h
  read-if false l₁ l₂ f h = refl

  pub read_same : (s : State) (c : Call) → All (SameWord m₁ m₂) (read_by m₁ s c) → read_by m₁ s c ≡ read_by m₂ s c
  unfolding read_by
  read_same s (Calls.start σ latch list) = read-if (eqb (length list) 12000) _ _ (read-words m₁ m₂ len (start_from latch σ))
  read_same s (Calls.row σ buffer list) =
      read-if (eqb (length buffer) 132 && eqb (length list) 12000) _ _ (read-words m₁ m₂ len (Rows.row σ s))
  read_same s (Calls.shift σ soft last) = read-words m₁ m₂ len (Scrolls.shift σ soft last)
  read_same s (Calls.beside σ z soft latch buffer list) =
      read-if (eqb (length buffer) 132 && eqb (length list) 12000) _ _
      (λ h. (beside-depends m₁ m₂ len σ z soft latch s buffer h).addresses)
  read_same s (Calls.write a w) = λ h. refl
