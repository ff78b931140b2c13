-- The memory among the other desk's calls and the memory of the desk alone have one length and the same words outside the other's span: each
-- call keeps that, and so each call of the desk that reads no word of that span gets the same in both.
use Rattle.std.proofs.Common.{Ok}
use mathlib.Core.Path.{◌≡◌, refl, sym, ap, ap₂, subst, ◌∙◌}
use mathlib.Core.Bool.{Bool, true, false}
use mathlib.Core.List.{List, [], ◌∷◌, ◌++◌}
use Prim.Native.Nat.{ℕ, ◌*◌, ◌/◌, ◌<◌}
use native.Mathlib.Omega.{arith}
use lib.ListN.{length, get_or, set, length-set}
use lib.Seq.{get_or-set_same, get_or-set_other}
use lib.Dec.{eqb}
use borrow.Author.Tests.{eqb-true, eqb-false}
use Rattle.memory.specs.Word.{when◌then◌else◌}
use Rattle.memory.proofs.Agree.{All, SameWord}
use Rattle.state.specs.declared.State.{State}
use Rattle.writer.specs.declared.Span.{Span}
use Rattle.writer.specs.Writer.{inside, share, may_write, wrote, refused_with, write_word}
use Rattle.writer.proofs.WriterLaws.{Inside, may-inside, Changed, same, word, changed, in_both}
use Rattle.frame.specs.Frame.{frame}
use Rattle.desks.specs.Finds.{reads_of, beside_list}
use Rattle.desks.specs.Depends.{Between, Spare}
use Rattle.desks.proofs.Depends.{all_left, all_right}
use Rattle.desks.proofs.Writes.{every, every-also, depends}
use Rattle.two_desks.specs.DeskCalls as Calls
use Rattle.two_desks.specs.DeskCalls.{Call, Answer, read_by, answer, state_after, memory_after}
use Rattle.two_desks.specs.Desks.{Desk, forecaster, supervisor, other, is, Spans, States, Action, Outcome, outcome, in_turn, alone, gets, reads, ClearOf, Accepted, TwoDesks}
use Rattle.two_desks.proofs.CallLaws.{answer-same, read_same}

-- ---- two memories with the same words outside a span ----

module _ (span : Span) where
  pub record Apart (m₁ m₂ : List ℕ) : Type 0 where
    pub size : length m₁ ≡ length m₂
    pub words : (i : ℕ) → inside span (2 * i) ≡ false → get_or m₁ i 0 ≡ get_or m₂ i 0

  pub apart-back : {m₁ m₂ : List ℕ} → Apart m₁ m₂ → Apart m₂ m₁
  apart-back h = record { size = sym h.size; words = λ i e. sym (h.words i e) }

  -- none of the addresses is of the span
  abbrev pub Clear : List ℕ → Type 0
  Clear l = All (λ a. inside span (2 * (a / 2)) ≡ false) l

  pub apart-same : {m₁ m₂ : List ℕ} → Apart m₁ m₂ → {l : List ℕ} → Clear l → All (SameWord m₁ m₂) l
  apart-same h = every-also λ a e. h.words (a / 2) e

  -- the desk whose span it is writes in one of them
  pub theirs-write : {m₁ m₂ : List ℕ} (own : Span) (a w : ℕ) → Apart m₁ m₂ → Apart (write_word m₁ span own a w).memory m₂
  theirs-write {m₁} {m₂} own a w h = by-change (changed m₁ span own a w)
    where
      never : {i : ℕ} → Inside span a (length m₁) → inside span (2 * i) ≡ false → i ≡ a / 2 → ⊥
      never {i} k e q =
          let s : 2 * i ≡ a = omega (arith, k.even) in
          let t : ◌≡◌ {A = Bool} true false = sym k.inside ∙ ap (inside span) (sym s) ∙ e in
          let z : ◌≡◌ {A = ℕ} 0 1 = cc in
          omega arith

      by-change : {m : List ℕ} → Changed m₁ span own a w m → Apart m m₂
      by-change same = h
      by-change (word k) = record {
        size = length-set m₁ (a / 2) w ∙ h.size;
        words = λ i e. get_or-set_other m₁ (a / 2) i w 0 (never k e) ∙ h.words i e;
      }

  -- both get the same word at one place
  set_both : {m₁ m₂ : List ℕ} (i w : ℕ) → i < length m₁ → Apart m₁ m₂ → Apart (set m₁ i w) (set m₂ i w)
  set_both {m₁} {m₂} i w l h = record {
    size = length-set m₁ i w ∙ h.size ∙ sym (length-set m₂ i w);
    words = λ j e. by_place j e (eqb j i) refl;
  }
    where
      by_place : (j : ℕ) → inside span (2 * j) ≡ false → (t : Bool) → eqb j i ≡ t → get_or (set m₁ i w) j 0 ≡ get_or (set m₂ i w) j 0
      by_place j e true q =
          rw (eqb-true j i q) (get_or-set_same m₁ i w 0 l ∙ sym (get_or-set_same m₂ i w 0 (subst (λ (n : ℕ). i < n) h.size l)))
      by_place j e false q =
          get_or-set_other m₁ i j w 0 (eqb-false j i q) ∙ h.words j e ∙ sym (get_or-set_other m₂ i j w 0 (eqb-false j i q))

  -- the desk itself writes in both
  pub own-write : {m₁ m₂ : List ℕ} (own : Span) (a w : ℕ) → Apart m₁ m₂ → Apart (write_word m₁ own span a w).memory (write_word m₂ own span a w).memory
  unfolding write_word
  own-write {m₁} {m₂} own a w h = rw (← h.size) (by-test (share own span) (may_write own a (length m₁)) refl)
    where
      by-test : (t u : Bool) → may_write own a (length m₁) ≡ u
          → Apart
          (when t then wrote (refused_with 16) m₁ else when u then wrote (Ok tt) (set m₁ (a / 2) w) else wrote (refused_with 15) m₁).memory
          (when t then wrote (refused_with 16) m₂ else when u then wrote (Ok tt) (set m₂ (a / 2) w) else wrote (refused_with 15) m₂).memory
      by-test true u e = h
      by-test false true e = set_both (a / 2) w (may-inside own a (length m₁) e).within h
      by-test false false e = h

  pub own-call : {m₁ m₂ : List ℕ} (own : Span) (c : Call) → Apart m₁ m₂ → Apart (memory_after own span m₁ c) (memory_after own span m₂ c)
  unfolding memory_after
  own-call own (Calls.start σ latch list) h = h
  own-call own (Calls.row σ buffer list) h = h
  own-call own (Calls.shift σ soft last) h = h
  own-call own (Calls.beside σ z soft latch buffer list) h = h
  own-call own (Calls.write a w) h = own-write own a w h

  pub their-call : {m₁ m₂ : List ℕ} (own : Span) (c : Call) → Apart m₁ m₂ → Apart (memory_after span own m₁ c) m₂
  unfolding memory_after
  their-call own (Calls.start σ latch list) h = h
  their-call own (Calls.row σ buffer list) h = h
  their-call own (Calls.shift σ soft last) h = h
  their-call own (Calls.beside σ z soft latch buffer list) h = h
  their-call own (Calls.write a w) h = theirs-write own a w h

-- ---- the desks ----

-- whose action it is
data Whose (d : Desk) : Desk → Type 0 where
  own : Whose d d
  theirs : Whose d (other d)

whose : (d e : Desk) → Whose d e
whose forecaster forecaster = own
whose forecaster supervisor = theirs
whose supervisor forecaster = theirs
whose supervisor supervisor = own

is-own : (d : Desk) → is d d ≡ true
is-own forecaster = refl
is-own supervisor = refl

is-theirs : (d : Desk) → is d (other d) ≡ false
is-theirs forecaster = refl
is-theirs supervisor = refl

is-not : (d : Desk) → is (other d) d ≡ false
is-not forecaster = refl
is-not supervisor = refl

other-other : (d : Desk) → other (other d) ≡ d
other-other forecaster = refl
other-other supervisor = refl

module _ (spans : Spans) (d : Desk) where
  -- one call of the desk, which reads no word of the other's span
  call-first : {m₁ m₂ : List ℕ} → Apart (spans (other d)) m₁ m₂ → (s : State) (c : Call) → Clear (spans (other d)) (read_by m₁ s c)
      → outcome spans d m₁ s c ≡ outcome spans d m₂ s c
  call-first {m₁} {m₂} h s c k =
      let e = apart-same (spans (other d)) h k in
      ap₂ (λ (a : Answer) (l : List ℕ). record { desk = d; answer = a; reads = l })
      (answer-same m₁ m₂ h.size (spans d) (spans (other d)) s c e) (read_same m₁ m₂ h.size s c e)

  -- .. on the first memory if `t`, on the second if not
  call_same : (t : Bool) {m₁ m₂ : List ℕ} → Apart (spans (other d)) m₁ m₂ → (s : State) (c : Call)
      → Clear (spans (other d)) (when t then read_by m₁ s c else read_by m₂ s c) → outcome spans d m₁ s c ≡ outcome spans d m₂ s c
  call_same true h s c k = call-first h s c k
  call_same false h s c k = sym (call-first (apart-back (spans (other d)) h) s c k)

  -- a list of outcomes begins with one: its addresses, then those of the others
  clear_first : (t : Bool) (o₁ o₂ : Outcome) (l₁ l₂ : List Outcome) → Clear (spans (other d)) (reads (when t then o₁ ∷ l₁ else o₂ ∷ l₂))
      → Clear (spans (other d)) (when t then o₁.reads else o₂.reads) × Clear (spans (other d)) (reads (when t then l₁ else l₂))
  unfolding reads
  clear_first true o₁ o₂ l₁ l₂ h = (all_left o₁.reads (reads l₁) h, all_right o₁.reads (reads l₁) h)
  clear_first false o₁ o₂ l₁ l₂ h = (all_left o₂.reads (reads l₂) h, all_right o₂.reads (reads l₂) h)

  -- what the desk gets from here on, in turn on m₁ and alone on m₂; its addresses are clear: in turn if `t`, alone if not
  abbrev Same : Bool → List Action → Type 0
  Same t l = (m₁ m₂ : List ℕ) (s₁ s₂ : States) → Apart (spans (other d)) m₁ m₂ → s₁ d ≡ s₂ d
      → Clear (spans (other d)) (reads (when t then gets d (in_turn spans m₁ s₁ l) else in_turn spans m₂ s₂ (alone d l)))
      → gets d (in_turn spans m₁ s₁ l) ≡ in_turn spans m₂ s₂ (alone d l)

  own_turn : (t : Bool) (c : Call) (l : List Action) → Same t l → Same t (record { desk = d; call = c } ∷ l)
  unfolding gets in_turn alone
  own_turn t c l go m₁ m₂ s₁ s₂ h q = rw (is-own d, q) λ k.
      let i = clear_first t (outcome spans d m₁ (s₂ d) c) (outcome spans d m₂ (s₂ d) c) _ _ k in
      let o = call_same t h (s₂ d) c i.0 in
      ap₂ ◌∷◌ o
      (go _ _ _ _ (own-call (spans (other d)) (spans d) c h) (rw (is-own d) (ap (λ (o : Outcome). state_after (s₂ d) o.answer) o)) i.1)

  their-turn : (t : Bool) (c : Call) (l : List Action) → Same t l → Same t (record { desk = other d; call = c } ∷ l)
  unfolding gets in_turn alone
  their-turn t c l go m₁ m₂ s₁ s₂ h q =
      rw (is-theirs d) (go _ _ _ _ (their-call (spans (other d)) (spans (other (other d))) c h) (rw (is-not d) q))

  turn : (t : Bool) (e : Desk) → Whose d e → (c : Call) (l : List Action) → Same t l → Same t (record { desk = e; call = c } ∷ l)
  turn t _ own c l go = own_turn t c l go
  turn t _ theirs c l go = their-turn t c l go

  in-turn : (t : Bool) (l : List Action) → Same t l
  unfolding gets in_turn alone
  in-turn t [] = λ m₁ m₂ s₁ s₂ h q k. refl
  in-turn t (a ∷ l) = turn t a.desk (whose d a.desk) a.call l (in-turn t l)

  -- both begin with one memory and one pair of states
  pub begins : (t : Bool) (m : List ℕ) (states : States) (l : List Action)
      → ClearOf (spans (other d)) (reads (when t then gets d (in_turn spans m states l) else in_turn spans m states (alone d l)))
      → gets d (in_turn spans m states l) ≡ in_turn spans m states (alone d l)
  begins t m states l h = in-turn t l m m states states (record { size = refl; words = λ i e. refl }) refl (every _ h)

-- an address of one span is not of another that shares none with it
not-both : (s t : Span) (a : ℕ) → share s t ≡ false → inside s a ≡ true → inside t a ≡ false
not-both s t a e h = by-test (inside t a) refl
  where
    by-test : (u : Bool) → inside t a ≡ u → u ≡ false
    by-test true k =
        let q : ◌≡◌ {A = Bool} true false = sym (in_both s t a h k) ∙ e in
        q
    by-test false k = refl

-- writes that are accepted, and addresses clear of the span
accepted-spare : (span : Span) (m reads : List ℕ) (ws : Between) → Accepted span m ws → ClearOf span reads → Spare ws reads
accepted-spare span m reads ws f h i w j a k q =
    let v = may-inside span w.address (length m) (f i w j) in
    let s : 2 * (a / 2) ≡ w.address = omega (arith, v.even) in
    let t : ◌≡◌ {A = Bool} true false = sym v.inside ∙ ap (inside span) (sym s) ∙ h a k in
    let z : ◌≡◌ {A = ℕ} 0 1 = cc in
    omega arith

pub two-desks : TwoDesks
two-desks = record {
  from_alone = λ spans m states l d. begins spans d false m states l;
  from_turns = λ spans m states l d. begins spans d true m states l;
  in_own = λ spans m states l d e h.
      begins spans d true m states l λ a i. not-both (spans d) (spans (other d)) (2 * (a / 2)) e (h a i);
  frames = λ spans d latch σ m ws f h. depends.writes latch σ m ws (accepted-spare (spans (other d)) m (reads_of latch σ m) ws f h);
  besides = λ spans d latch σ c m ws n f h.
      depends.writes_beside latch σ c m ws n
      (accepted-spare (spans (other d)) m (reads_of latch σ m ++ beside_list latch σ m c (frame latch σ m)) ws f h);
}
