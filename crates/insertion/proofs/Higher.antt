-- The rows above the place, drawn alike in both frames, and the place: there the new block's row comes in between.
use Rattle.std.proofs.Common.{None, Ok}
use mathlib.Core.Path.{◌≡◌, refl, ap, ap₂, sym, subst, ◌∙◌}
use mathlib.Core.Bool.{Bool, true, false}
use mathlib.Core.List.{List, [], ◌∷◌}
use mathlib.Core.Option.{some}
use Prim.Native.Nat.{ℕ, suc, ◌+◌, ◌≤◌}
use native.Mathlib.Omega.{arith}
use lib.ListN.{drop}
use lib.Dec.{eqb}
use borrow.Author.Tests.{eqb-true}
use Rattle.memory.specs.Word.{when◌then◌else◌}
use Rattle.memory.specs.declared.Pointer.{Pointer}
use Rattle.memory.specs.Reading.{given, run, asked}
use Rattle.memory.proofs.Agree.{same_outcome}
use Rattle.settings.specs.declared.Settings.{Settings}
use Rattle.state.specs.declared.Fields.{Fields}
use Rattle.state.specs.declared.State.{State}
use Rattle.state.specs.State.{state_of}
use Rattle.plan.specs.Plan.{next_fields}
use Rattle.codes.specs.Codes.{Drawing}
use Rattle.row.specs.Row.{Row, row, row_call}
use Rattle.frame.specs.Frame.{FrameRow, blank}
use Rattle.joining.specs.declared.Effect.{Effect}
use Rattle.joining.specs.Join.{empty, apply}
use Rattle.joining.proofs.Joining.{apply-empty}
use Rattle.effect.specs.Effect.{effect_call}
use Rattle.insertion.specs.Followed.{called_on, block_of, pointer_in, times_followed, first_followed, all_apart, own_words, rows_else, no_redefinition}
use Rattle.insertion.specs.Insertion.{Insertion, changed, with_next, cells_called}
use Rattle.insertion.proofs.Chains.{next_of, drawn_row, Chain, ended, drawn}
use Rattle.insertion.proofs.Told.{Close, Told, plain_rows, link_read, told-row, Relinked, row-relinked}
use Rattle.insertion.proofs.Latches.{latch-next}
use Rattle.insertion.proofs.Lower.{apart-both, agree, no-mark, call-cells, Pairs, Lower, lower}

-- at most one: no more after the first
rest-none : (t : Bool) (n : ℕ) → t ≡ true → (when t then 1 else 0) + n ≤ 1 → n ≡ 0
rest-none true n e h = omega arith
rest-none false n e h = let z : ◌≡◌ {A = ℕ} 0 1 = cc in absurd (omega arith)

rest-once : (t : Bool) (n : ℕ) → (when t then 1 else 0) + n ≤ 1 → n ≤ 1
rest-once true n h = omega arith
rest-once false n h = omega arith

module _ (latch : ℕ) (σ : Settings) (link : ℕ) (old new : List ℕ) (h : Insertion latch σ link old new) where
  -- a state of the old frame, led to the new block
  abbrev pub inserted : State → State
  inserted o = state_of o.latch (with_next (pointer_in σ link new) o.fields)

  -- two frames from a row on: so many rows alike, then the new row, then pairs
  pub data Moved : ℕ → State → List FrameRow → State → List FrameRow → Type 0 where
    over : {o n : State} → Moved 0 o [] n []
    here : {o : State} {q r : FrameRow} {os ns : List FrameRow} → some r.cells ≡ cells_called (row_call σ new (inserted o) blank)
        → ((effect_call σ new (inserted o).fields).effect ≡ empty → r.answer.next.latch ≡ o.latch)
        → Pairs latch σ link old new h o (q ∷ os) r.answer.next ns → Moved 0 o (q ∷ os) (inserted o) (r ∷ ns)
    above : {p : ℕ} {o n : State} {q r : FrameRow} {os ns : List FrameRow} → r.cells ≡ q.cells
        → Moved p q.answer.next os r.answer.next ns → Moved (suc p) o (q ∷ os) n (r ∷ ns)

  pub record Upper (size holder : ℕ) (o n : State) (os ns : List FrameRow) : Type 0 where
    pub bare : o.fields.window ≡ None
    pub plain_old : no_redefinition σ old (called_on o os) ≡ true
    pub plain_new : no_redefinition σ new (called_on n ns) ≡ true
    pub once_old : times_followed link holder (called_on o os) ≤ 1
    pub once_new : times_followed link holder (called_on n ns) ≤ 1
    pub apart_old : all_apart (changed σ link new) (rows_else σ old link 0 holder (called_on o os)) ≡ true
    pub apart_new : all_apart (changed σ link new) (rows_else σ new link size holder (called_on n ns)) ≡ true

  -- ---- the place ----

  module _ {size holder : ℕ} {o : State} {q : FrameRow} {os ns : List FrameRow} {j : ℕ} {r : Row} (held : eqb holder link ≡ true)
      (linked : o.fields.next ≡ pointer_in σ link old)
      (w : Upper size holder o (inserted o) (q ∷ os) (drawn_row σ (inserted o) j r ∷ ns))
      (e : run new (row σ (inserted o)) ≡ given j r) where
    told-new : Told σ new (inserted o).fields r × (no_redefinition σ new (called_on (next_of r) ns) ≡ true)
    told-new = told-row σ new (inserted o) ns w.bare w.plain_new e

    -- "The new block takes over the old link"
    same_block : (link_read σ new (inserted o).fields).address ≡ o.fields.next.address
    same_block = rw h.points (h.taken ∙ ap (λ (p : Pointer). p.address) (sym linked))

    close : Close o.fields r.next
    unfolding next_fields
    close = rw told-new.0.next (record { bare = w.bare; bare' = refl; cursor = refl; fill = refl; format = refl; address = same_block })

    below : Lower latch σ link old new h size (block_of (inserted o)) o (next_of r) (q ∷ os) ns
    unfolding called_on times_followed rows_else next_fields
    below = record {
      close = close;
      left = ap (λ (f : Fields). f.left) told-new.0.next;
      plain_old = w.plain_old;
      plain_new = told-new.1;
      not_followed = rest-none (eqb holder link) _ held w.once_new;
      no_more = rest-none (eqb holder link) _ held w.once_old;
      apart = (apart-both _ (drop (own_words link size holder (block_of (inserted o))) (asked new (row σ (inserted o)))) _ w.apart_new).1;
    }

    keeps : (effect_call σ new (inserted o).fields).effect ≡ empty → (next_of r).latch ≡ o.latch
    keeps k =
        let a : ◌≡◌ {A = _} (Ok (next_of r).latch) (Ok o.latch) =
        sym (latch-next σ new (inserted o) e) ∙ ap (λ (x : Effect). apply x o.latch) k ∙ apply-empty o.latch in
        cc

    cells-new : some (drawn_row σ (inserted o) j r).cells ≡ cells_called (row_call σ new (inserted o) blank)
    cells-new = ap some (no-mark latch σ link old new h (inserted o).fields r.drawing.cells) ∙ sym (call-cells latch σ link old new h new (inserted o) e)

  pub at_place : {size holder : ℕ} {o : State} {os ns : List FrameRow} → eqb holder link ≡ true → o.fields.next ≡ pointer_in σ link old
      → Upper size holder o (inserted o) os ns → Chain σ old o os → Chain σ new (inserted o) ns → Moved 0 o os (inserted o) ns
  at_place k l w (ended z) (ended y) = over
  at_place k l w (ended z) (drawn y e c) = absurd (y z)
  at_place k l w (drawn z d c) (ended y) = absurd (z y)
  at_place k l w (drawn z d c) (drawn y e b) =
      here (cells-new k l w e) (keeps k l w e) (lower latch σ link old new h (below k l w e) (drawn z d c) b)

  -- ---- above it ----

  pub first-here : (b : ℕ) (ss : List State) → eqb b link ≡ true → first_followed link b ss ≡ 0
  unfolding first_followed
  first-here b [] e = refl
  first-here b (s ∷ ss) e = rw e

  module _ {size holder : ℕ} {s : State} {os ns : List FrameRow} {i j : ℕ} {q r : Row} (free : eqb holder link ≡ false)
      (w : Upper size holder s s (drawn_row σ s i q ∷ os) (drawn_row σ s j r ∷ ns)) (d : run old (row σ s) ≡ given i q) (e : run new (row σ s) ≡ given j r)
      (c : Chain σ old (next_of q) os) (k : Chain σ new (next_of r) ns) where
    next : Upper size (block_of s) (next_of q) (next_of r) os ns
    unfolding called_on times_followed rows_else next_fields
    next = record {
      bare = ap (λ (f : Fields). f.window) told-old.0.next;
      plain_old = told-old.1;
      plain_new = (plain_rows σ new s (drawn_row σ s j r) ns w.plain_new).1;
      once_old = rest-once (eqb holder link) _ w.once_old;
      once_new = rest-once (eqb holder link) _ w.once_new;
      apart_old = (apart-both _ (drop (own_words link 0 holder (block_of s)) (asked old (row σ s))) _ w.apart_old).1;
      apart_new = (apart-both _ (drop (own_words link size holder (block_of s)) (asked new (row σ s))) _ w.apart_new).1;
    }
      where
        told-old : Told σ old s.fields q × (no_redefinition σ old (called_on (next_of q) os) ≡ true)
        told-old = told-row σ old s os w.bare w.plain_old d

    -- a row that does not hold the link is the same in both frames
    module _ (other : eqb (block_of s) link ≡ false) where
      same_row : q ≡ r
      unfolding called_on rows_else
      same_row =
          let own : own_words link 0 holder (block_of s) ≡ 0 = rw (other, free) in
          let words = agree latch σ link old new h _ (rw own at (apart-both _ (drop (own_words link 0 holder (block_of s)) (asked old (row σ s))) _ w.apart_old).0) in
          let one = same_outcome old new h.size (row σ s) 0 words in
          cc

      same-cells : (drawn_row σ s j r).cells ≡ (drawn_row σ s i q).cells
      same-cells = ap (λ (r : Row). (drawn_row σ s j r).cells) (sym same_row)

    -- one that holds it is the same but for the next block
    module _ (holds : eqb (block_of s) link ≡ true) where
      at : block_of s ≡ link
      at = eqb-true (block_of s) link holds

      relinked : Relinked σ old new s.fields q r
      unfolding called_on rows_else
      relinked =
          let own : own_words link size holder (block_of s) ≡ 2 = rw holds in
          let words = agree latch σ link old new h _ (rw own at (apart-both _ (drop (own_words link size holder (block_of s)) (asked new (row σ s))) _ w.apart_new).0) in
          row-relinked σ old new h.size s.latch s.fields w.bare (rw at h.held) words d e

      next-linked : q.next.next ≡ pointer_in σ link old
      unfolding next_fields
      next-linked = ap (λ (f : Fields). f.next) relinked.before ∙ ap (λ (b : ℕ). pointer_in σ b old) at

      led : inserted (next_of q) ≡ next_of r
      unfolding next_fields
      led =
          ap₂ state_of (ap (λ (d : Drawing). d.pen.latch) (sym relinked.drawing))
          (ap (with_next (pointer_in σ link new)) relinked.before
          ∙ ap (λ (b : ℕ). next_fields s.fields q.format (pointer_in σ b new) None) (sym at) ∙ sym relinked.after)

      held-cells : (drawn_row σ s j r).cells ≡ (drawn_row σ s i q).cells
      held-cells = no-mark latch σ link old new h s.fields r.drawing.cells ∙ ap (λ (d : Drawing). d.cells) relinked.drawing
          ∙ sym (no-mark latch σ link old new h s.fields q.drawing.cells)

    row_moved : (eqb (block_of s) link ≡ false → Upper size (block_of s) (next_of q) (next_of q) os ns → Chain σ new (next_of q) ns
        → Moved (first_followed link (block_of s) (called_on (next_of q) os)) (next_of q) os (next_of q) ns)
        → Moved (first_followed link holder (called_on s (drawn_row σ s i q ∷ os))) s (drawn_row σ s i q ∷ os) s (drawn_row σ s j r ∷ ns)
    unfolding called_on first_followed
    row_moved go_on = rw free (by-block (eqb (block_of s) link) refl)
      where
        p : ℕ
        p = first_followed link (block_of s) (called_on (next_of q) os)

        by-block : (b : Bool) → eqb (block_of s) link ≡ b → Moved (suc p) s (drawn_row σ s i q ∷ os) s (drawn_row σ s j r ∷ ns)
        by-block false f =
            let one = sym (same_row f) in
            above (same-cells f)
            (subst (λ (r : Row). Moved p (next_of q) os (next_of r) ns) (same_row f)
            (go_on f (subst (λ (r : Row). Upper size (block_of s) (next_of q) (next_of r) os ns) one next) (subst (λ (r : Row). Chain σ new (next_of r) ns) one k)))
        by-block true f =
            let one = sym (led f) in
            above (held-cells f)
            (subst (λ (x : State). Moved p (next_of q) os x ns) (led f)
            (subst (λ (p : ℕ). Moved p (next_of q) os (inserted (next_of q)) ns) (sym (first-here (block_of s) (called_on (next_of q) os) f))
            (at_place f (next-linked f) (subst (λ (x : State). Upper size (block_of s) (next_of q) x os ns) one next) c (subst (λ (x : State). Chain σ new x ns) one k))))

  pub higher : {size holder : ℕ} {s : State} {os ns : List FrameRow} → eqb holder link ≡ false → Upper size holder s s os ns
      → Chain σ old s os → Chain σ new s ns → Moved (first_followed link holder (called_on s os)) s os s ns
  unfolding called_on first_followed
  higher f w (ended z) (ended y) = over
  higher f w (ended z) (drawn y e c) = absurd (y z)
  higher f w (drawn z d c) (ended y) = absurd (z y)
  higher {holder = holder} f w (drawn {s = s} z d c) (drawn y e k) = row_moved f w d e c k (λ g v b. higher {holder = block_of s} g v c b)
