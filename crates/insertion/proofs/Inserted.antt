-- Request §13, the proof: the two frames as chains of rows from their starts. They are alike down to the place, there the new block's row comes in,
-- and below each row is the former one higher; the latches are those of the joined effects.
use Rattle.std.proofs.Common.{None, Ok}
use mathlib.Core.Path.{◌≡◌, refl, ap, sym, subst, ◌∙◌}
use mathlib.Core.Bool.{Bool, true, false}
use mathlib.Core.List.{List}
use mathlib.Core.Option.{some}
use Prim.Native.Nat.{ℕ, suc, ◌≤◌}
use native.Mathlib.Numerals.{add-one}
use lib.ListN.{length, take, drop, get_elem?}
use lib.Dec.{eqb}
use borrow.Author.Tests.{eqb-true}
use Rattle.memory.specs.Word.{when◌then◌else◌}
use Rattle.memory.specs.declared.Pointer.{Pointer}
use Rattle.memory.specs.Reading.{given, run, asked}
use Rattle.memory.proofs.Agree.{same_outcome}
use Rattle.settings.specs.declared.Settings.{Settings}
use Rattle.state.specs.declared.State.{State}
use Rattle.state.specs.State.{state_of}
use Rattle.start.specs.Start.{start_from}
use Rattle.frame.specs.Frame.{FrameRow, frame}
use Rattle.joining.specs.Join.{apply}
use Rattle.insertion.specs.Followed.{called_on, states, main_of, pointer_in, block_words, first_followed, all_apart, rows_else, read_else}
use Rattle.insertion.specs.Insertion.{changed, Insertion, joined_effects, drawn_from, Inserted, with_next, InsertsALine}
use Rattle.insertion.proofs.Near.{run-opens}
use Rattle.insertion.proofs.Starts.{StartAlike, starts, StartPasses, start-opens, start-passes}
use Rattle.insertion.proofs.Chains.{Chain, Begins, begins, frame-begins}
use Rattle.insertion.proofs.Told.{both-given, all_same}
use Rattle.insertion.proofs.Latches.{chain-latch}
use Rattle.insertion.proofs.Level.{same_lines}
use Rattle.insertion.proofs.Lower.{apart-both, agree}
use Rattle.insertion.proofs.Higher.{inserted, Moved, Upper, at_place, higher, first-here}
use Rattle.insertion.proofs.Places.{Stated, stated, has-state, above-cells, placed-cells, below-cells, kept-cells}

-- a start's state: no window, the start latch, the first row block
start-state : {latch : ℕ} {p q : Pointer} {s t : State} → StartAlike latch p q s t
    → (s.fields.window ≡ None) × (t.fields.window ≡ None) × (t.fields.left ≡ s.fields.left) × (t.fields.format ≡ s.fields.format)
start-state (starts left c fill t) = (refl, refl, refl, refl)

start-next : {latch : ℕ} {p q : Pointer} {s t : State} → StartAlike latch p q s t
    → (t.latch ≡ latch) × (s.fields.next ≡ p) × (state_of s.latch (with_next q s.fields) ≡ t)
start-next (starts left c fill t) = (refl, refl, refl)

module _ (latch : ℕ) (σ : Settings) (link : ℕ) (old new : List ℕ) (h : Insertion latch σ link old new) where
  -- the rows of the two frames
  abbrev olds : List FrameRow
  olds = (frame latch σ old).rows

  abbrev news : List FrameRow
  news = (frame latch σ new).rows

  -- from the starts' states on
  module _ {i j : ℕ} {o n : State} (d : run old (start_from latch σ) ≡ given i o) (e : run new (start_from latch σ) ≡ given j n)
      (c : Chain σ old o olds) (k : Chain σ new n news)
      (f : states latch σ old ≡ called_on o olds) (g : states latch σ new ≡ called_on n news) where
    abbrev size : ℕ
    size = length (block_words σ link new)

    abbrev MovedTo : State → Type 0
    MovedTo n = Moved latch σ link old new h (first_followed link (main_of σ) (called_on o olds)) o olds n news

    abbrev UpperTo : State → Type 0
    UpperTo n = Upper latch σ link old new h size (main_of σ) o n olds news

    opening : StartPasses latch σ h.no_window
    opening = start-passes latch σ h.no_window old d

    -- what each start reads, and its rows
    apart-old : (all_apart (changed σ link new) (drop (when eqb (main_of σ) link then 2 else 0) (asked old (start_from latch σ))) ≡ true)
        × (all_apart (changed σ link new) (rows_else σ old link 0 (main_of σ) (called_on o olds)) ≡ true)
    unfolding read_else
    apart-old = rw (← f) (apart-both _ (drop (when eqb (main_of σ) link then 2 else 0) (asked old (start_from latch σ))) _ h.before.apart)

    apart-new : (all_apart (changed σ link new) (drop (when eqb (main_of σ) link then 2 else 0) (asked new (start_from latch σ))) ≡ true)
        × (all_apart (changed σ link new) (rows_else σ new link size (main_of σ) (called_on n news)) ≡ true)
    unfolding read_else
    apart-new = rw (← g) (apart-both _ (drop (when eqb (main_of σ) link then 2 else 0) (asked new (start_from latch σ))) _ h.after.apart)

    alone : StartAlike latch (pointer_in σ (main_of σ) old) (pointer_in σ (main_of σ) old) o o
    alone = both-given (run-opens old old refl (start-opens latch σ h.no_window opening) (all_same old _)) d d

    alone-new : StartAlike latch (pointer_in σ (main_of σ) new) (pointer_in σ (main_of σ) new) n n
    alone-new = both-given (run-opens new new refl (start-opens latch σ h.no_window opening) (all_same new _)) e e

    upper : UpperTo n
    upper = record {
      bare = (start-state alone).0;
      plain_old = rw f at h.before.plain;
      plain_new = rw g at h.after.plain;
      once_old = rw f at h.before.once;
      once_new = rw g at h.after.once;
      apart_old = apart-old.1;
      apart_new = apart-new.1;
    }

    -- one start, or two that the link's words tell apart
    pub record Together : Type 0 where
      pub left : n.fields.left ≡ o.fields.left
      pub format : n.fields.format ≡ o.fields.format
      pub rows : MovedTo n

    one-start : eqb (main_of σ) link ≡ false → Together
    one-start m =
        let same = same_outcome old new h.size (start_from latch σ) 0 (agree latch σ link old new h _ (rw m at apart-old.0)) in
        let one : o ≡ n = cc in
        record {
          left = ap (λ (s : State). s.fields.left) (sym one);
          format = ap (λ (s : State). s.fields.format) (sym one);
          rows =
              subst MovedTo one (higher latch σ link old new h m (subst UpperTo (sym one) upper) c (subst (λ (n : State). Chain σ new n news) (sym one) k));
        }

    two-starts : eqb (main_of σ) link ≡ true → Together
    two-starts m =
        let at : main_of σ ≡ link = eqb-true (main_of σ) link m in
        let words = agree latch σ link old new h _ (rw m at apart-new.0) in
        let alike = both-given (run-opens old new h.size (start-opens latch σ h.no_window opening) words) d e in
        let led : inserted latch σ link old new h o ≡ n =
        ap (λ (b : ℕ). state_of o.latch (with_next (pointer_in σ b new) o.fields)) (sym at) ∙ (start-next alike).2 in
        let placed = at_place latch σ link old new h m ((start-next alike).1 ∙ ap (λ (b : ℕ). pointer_in σ b old) at) (subst UpperTo (sym led) upper) c
        (subst (λ (n : State). Chain σ new n news) (sym led) k) in
        record {
          left = (start-state alike).2;
          format = (start-state alike).3;
          rows =
              rw (first-here latch σ link old new h (main_of σ) (called_on o olds) m)
              (subst (λ (n : State). Moved latch σ link old new h 0 o olds n news) led placed);
        }

    together : Together
    together = by-main (eqb (main_of σ) link) refl
      where
        by-main : (b : Bool) → eqb (main_of σ) link ≡ b → Together
        by-main true m = two-starts m
        by-main false m = one-start m

    -- the latch of a row of the new frame, from the effects of those above it
    latch-at : (j : ℕ) {u : State} → get_elem? (called_on n news) j ≡ some u
        → apply (joined_effects σ new (take j (called_on n news))) latch ≡ Ok u.latch
    latch-at j {u} q =
        ap (apply (joined_effects σ new (take j (called_on n news)))) (sym (start-next alone-new).0) ∙ chain-latch σ new k j u q

    below-from : (j : ℕ) {s : State} {r : FrameRow} → first_followed link (main_of σ) (called_on o olds) ≤ j
        → get_elem? (called_on o olds) j ≡ some s → get_elem? news (suc j) ≡ some r
        → some r.cells ≡ drawn_from σ old s.fields (apply (joined_effects σ new (take (suc j) (called_on n news))) latch)
    below-from j {s} {r} l p q = by (has-state n news (suc j) q)
      where
        by : Stated n news (suc j)
            → some r.cells ≡ drawn_from σ old s.fields (apply (joined_effects σ new (take (suc j) (called_on n news))) latch)
        by (stated {t = u} v) =
            below-cells latch σ link old new h together.rows j l p v q
            ∙ ap (drawn_from σ old s.fields) (sym (latch-at (suc j) v))

    result : Inserted latch σ link old new
    result = record {
      lines = same_lines σ old new
          (record {
            bare_old = (start-state alone).0;
            bare_new = (start-state alone-new).0;
            left = together.left;
            format = together.format;
            plain_old = upper.plain_old;
            plain_new = upper.plain_new;
          }) c k;
      above = rw f (above-cells latch σ link old new h together.rows);
      placed = λ s r p q. placed-cells latch σ link old new h together.rows (rw f at p) (rw f at q);
      below = λ j s r l p q. rw (← g, ← add-one j) at (below-from j (rw f at l) (rw f at p) (rw (add-one j) at q));
      kept = λ p j q r l v w.
          kept-cells latch σ link old new h together.rows (λ s x. p s (rw (f, g) x)) j (rw f at l) v (rw (add-one j) at w);
    }

pub inserts-a-line : InsertsALine
inserts-a-line latch σ link old new h =
    by (frame-begins σ old h.before.words latch h.before.accepted) (frame-begins σ new h.after.words latch h.after.accepted)
  where
    by : Begins σ old h.before.words latch → Begins σ new h.after.words latch → Inserted latch σ link old new
    by (begins d c f) (begins e k g) = result latch σ link old new h d e c k f g
