-- The rows below the place: each has the drawing of the former row one higher, on the old memory, from the latch that it has now.
use mathlib.Core.Path.{◌≡◌, refl, ap, ap₂, sym, ◌∙◌}
use mathlib.Core.Bool.{Bool, true, false}
use mathlib.Core.List.{List, [], ◌∷◌, ◌++◌}
use mathlib.Core.Option.{some}
use Prim.Native.Nat.{ℕ, ◌+◌, ◌-◌}
use native.Mathlib.Omega.{arith}
use lib.ListN.{drop}
use lib.Dec.{eqb}
use Rattle.memory.specs.Word.{when◌then◌else◌}
use Rattle.memory.specs.declared.Pointer.{Pointer}
use Rattle.memory.specs.Reading.{given, run, asked}
use Rattle.memory.proofs.Agree.{All, none, also, SameWord}
use Rattle.memory.proofs.ReadBounds.{both}
use Rattle.settings.specs.declared.Settings.{Settings}
use Rattle.blocks.specs.declared.RowFormat.{RowFormat}
use Rattle.codes.specs.Codes.{Drawing}
use Rattle.state.specs.declared.Fields.{Fields}
use Rattle.state.specs.declared.State.{State}
use Rattle.state.specs.State.{state_of}
use Rattle.plan.specs.Plan.{lines_taken, next_fields}
use Rattle.row.specs.Row.{Row, row, with_cursor, row_call}
use Rattle.frame.specs.Frame.{FrameRow, blank}
use Rattle.insertion.specs.Followed.{called_on, block_of, times_followed, apart, all_apart, own_words, rows_else, no_redefinition}
use Rattle.insertion.specs.Insertion.{Insertion, changed, cells_called}
use Rattle.insertion.proofs.Accepted.{row-passes}
use Rattle.insertion.proofs.Chains.{next_of, drawn_row, Chain, ended, drawn, right-buffer}
use Rattle.insertion.proofs.Told.{Close, Told, plain_rows, row_told, told-row, Shares, Given, found, row-close, told-close}

-- ---- tests and lists ----

module _ (bs : List ℕ) where
  pub apart-both : (xs ys : List ℕ) → all_apart bs (xs ++ ys) ≡ true → (all_apart bs xs ≡ true) × (all_apart bs ys ≡ true)
  unfolding all_apart
  apart-both [] ys e = (refl, e)
  apart-both (x ∷ xs) ys e =
      let k = both (apart bs x) (all_apart bs (xs ++ ys)) e in
      let i = apart-both xs ys k.1 in
      (rw (k.0, i.0), i.1)

-- a count of rows that follow the link: none of all, none of the rest
pub none-followed : (t : Bool) (n : ℕ) → (when t then 1 else 0) + n ≡ 0 → (t ≡ false) × (n ≡ 0)
none-followed true n e = absurd (omega arith)
none-followed false n e = (refl, omega arith)

module _ (latch : ℕ) (σ : Settings) (link : ℕ) (old new : List ℕ) (h : Insertion latch σ link old new) where
  pub agree : (xs : List ℕ) → all_apart (changed σ link new) xs ≡ true → All (SameWord old new) xs
  unfolding all_apart
  agree [] e = none
  agree (x ∷ xs) e =
      let k = both (apart (changed σ link new) x) (all_apart (changed σ link new) xs) e in also (h.same x k.0) (agree xs k.1)

  pub no-mark : (f : Fields) (cs : List ℕ) → with_cursor σ f cs ≡ cs
  unfolding with_cursor
  no-mark f cs = rw h.no_cursor

  pub call-cells : (m : List ℕ) (s : State) {n : ℕ} {r : Row} → run m (row σ s) ≡ given n r → cells_called (row_call σ m s blank) ≡ some r.drawing.cells
  call-cells m s {r = r} e = ap cells_called (right-buffer σ m s) ∙ rw e (ap some (no-mark s.fields r.drawing.cells))

  -- rows of the new frame, each beside the old one that it was
  pub data Pairs : State → List FrameRow → State → List FrameRow → Type 0 where
    fallen : {o n : State} {os : List FrameRow} → Pairs o os n []
    more : {o n : State} {q r : FrameRow} {os ns : List FrameRow}
        → some r.cells ≡ cells_called (row_call σ old (state_of n.latch o.fields) blank)
        → (n.latch ≡ o.latch → (r.cells ≡ q.cells) × (r.answer.next.latch ≡ q.answer.next.latch))
        → Pairs q.answer.next os r.answer.next ns → Pairs o (q ∷ os) n (r ∷ ns)

  -- where they stand, row by row
  pub record Lower (size holder : ℕ) (o n : State) (os ns : List FrameRow) : Type 0 where
    pub close : Close o.fields n.fields
    pub left : n.fields.left ≡ o.fields.left - lines_taken o.fields.format o.fields.left
    pub plain_old : no_redefinition σ old (called_on o os) ≡ true
    pub plain_new : no_redefinition σ new (called_on n ns) ≡ true
    pub not_followed : times_followed link holder (called_on n ns) ≡ 0
    pub no_more : times_followed link (block_of o) (drop 1 (called_on o os)) ≡ 0
    pub apart : all_apart (changed σ link new) (rows_else σ new link size holder (called_on n ns)) ≡ true

  -- a block whose link the next row, which there is, does not follow
  not-link : (b : ℕ) {s : State} {os : List FrameRow} → Chain σ old s os → (s.fields.left ≡ 0 → ⊥) → times_followed link b (called_on s os) ≡ 0
      → eqb b link ≡ false
  unfolding called_on times_followed
  not-link b (ended e) l k = absurd (l e)
  not-link b (drawn _ e c) l k = (none-followed (eqb b link) _ k).0

  rest-unfollowed : (b : ℕ) (s : State) (os : List FrameRow) → times_followed link b (called_on s os) ≡ 0
      → times_followed link (block_of s) (drop 1 (called_on s os)) ≡ 0
  unfolding called_on times_followed
  rest-unfollowed b s [] k = refl
  rest-unfollowed b s (q ∷ os) k = (none-followed (eqb b link) _ k).1

  module _ {size holder : ℕ} {o n : State} {os ns : List FrameRow} {i j : ℕ} {q r : Row}
      (w : Lower size holder o n (drawn_row σ o i q ∷ os) (drawn_row σ n j r ∷ ns))
      (lined : n.fields.left ≡ 0 → ⊥) (d : run old (row σ o) ≡ given i q) (e : run new (row σ n) ≡ given j r)
      (c : Chain σ old (next_of q) os) where
    told-old : Told σ old o.fields q × (no_redefinition σ old (called_on (next_of q) os) ≡ true)
    told-old = told-row σ old o os w.close.bare w.plain_old d

    told-new : Told σ new n.fields r × (no_redefinition σ new (called_on (next_of r) ns) ≡ true)
    told-new = told-row σ new n ns w.close.bare' w.plain_new e

    left-old : q.next.left ≡ n.fields.left
    unfolding next_fields
    left-old = ap (λ (f : Fields). f.left) told-old.0.next ∙ sym w.left

    -- the new row reads nothing as the link or the new block
    own-none : own_words link size holder (block_of n) ≡ 0
    unfolding called_on times_followed
    own-none =
        let block : eqb (block_of o) link ≡ false = not-link (block_of o) c (λ z. lined (sym left-old ∙ z)) w.no_more in
        rw (w.close.address, block, (none-followed (eqb holder link) _ w.not_followed).0)

    words : All (SameWord old new) (asked new (row σ n))
    unfolding called_on rows_else
    words = agree _ (rw own-none at (apart-both _ (drop (own_words link size holder (block_of n)) (asked new (row σ n))) _ w.apart).0)

    former : Given Shares (run old (row σ (state_of n.latch o.fields))) r
    former = row-close σ old new h.size n.latch w.close (row-passes σ old o.latch o.fields d) words e

    module _ {k : ℕ} {x : Row} (f : run old (row σ (state_of n.latch o.fields)) ≡ given k x) (s : Shares x r) where
      cells-now : some (drawn_row σ n j r).cells ≡ cells_called (row_call σ old (state_of n.latch o.fields) blank)
      cells-now =
          ap some (no-mark n.fields r.drawing.cells ∙ ap (λ (d : Drawing). d.cells) s.drawing) ∙ sym (call-cells old _ f)

      same_row : n.latch ≡ o.latch → ((drawn_row σ n j r).cells ≡ (drawn_row σ o i q).cells) × ((next_of r).latch ≡ (next_of q).latch)
      same_row g =
          let again : run old (row σ o) ≡ given k x = rw g at f in
          let one : q ≡ x = cc in
          let drawing : r.drawing ≡ q.drawing = s.drawing ∙ ap (λ (r : Row). r.drawing) (sym one) in (
            no-mark n.fields r.drawing.cells ∙ ap (λ (d : Drawing). d.cells) drawing ∙ sym (no-mark o.fields q.drawing.cells),
            ap (λ (d : Drawing). d.pen.latch) drawing,
          )

      next-left : r.next.left ≡ q.next.left - lines_taken q.next.format q.next.left
      unfolding next_fields
      next-left =
          ap (λ (f : Fields). f.left) told-new.0.next
          ∙ ap₂ (λ (l : ℕ) (t : RowFormat). l - lines_taken t l) (sym left-old) (w.close.format ∙ ap (λ (f : Fields). f.format) (sym told-old.0.next))

      next : Lower size (block_of n) (next_of q) (next_of r) os ns
      unfolding called_on times_followed rows_else
      next = record {
        close = told-close σ old new h.size n.latch w.close told-old.0 told-new.0
            (ap (λ (p : Pointer). p.address) s.link
            ∙ ap (λ (f : Fields). f.next.address)
            ((row_told σ old n.latch o.fields w.close.bare (plain_rows σ old o (drawn_row σ o i q) os w.plain_old).0 f).next ∙ sym told-old.0.next));
        left = next-left;
        plain_old = told-old.1;
        plain_new = told-new.1;
        not_followed = (none-followed (eqb holder link) _ w.not_followed).1;
        no_more = rest-unfollowed (block_of o) (next_of q) os w.no_more;
        apart = (apart-both _ (drop (own_words link size holder (block_of n)) (asked new (row σ n))) _ w.apart).1;
      }

    -- the row beside its former one, and those below
    beside : Given Shares (run old (row σ (state_of n.latch o.fields))) r
        → (Lower size (block_of n) (next_of q) (next_of r) os ns → Pairs (next_of q) os (next_of r) ns)
        → Pairs o (drawn_row σ o i q ∷ os) n (drawn_row σ n j r ∷ ns)
    beside (found f s) go_on = more (cells-now f s) (same_row f s) (go_on (next f s))

    pub lower-row : (Lower size (block_of n) (next_of q) (next_of r) os ns → Pairs (next_of q) os (next_of r) ns)
        → Pairs o (drawn_row σ o i q ∷ os) n (drawn_row σ n j r ∷ ns)
    lower-row = beside former

  pub lower : {size holder : ℕ} {o n : State} {os ns : List FrameRow} → Lower size holder o n os ns → Chain σ old o os → Chain σ new n ns → Pairs o os n ns
  lower w c (ended e) = fallen
  lower {o} {n} w (ended e) (drawn l f k) = absurd (l (omega (arith, w.left)))
  lower {holder = holder} w (drawn l d c) (drawn {s = s} lined e k) = lower-row w lined d e c (λ v. lower {holder = block_of s} v c k)
