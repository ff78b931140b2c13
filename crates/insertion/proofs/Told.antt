-- An accepted row without a window and a redefinition, in equations: what its next fields and lines are, and what two such rows share.
use Rattle.std.proofs.Common.{None}
use mathlib.Core.Path.{◌≡◌, refl, ap, sym, subst, ◌∙◌}
use mathlib.Core.Bool.{Bool, true, false}
use mathlib.Core.List.{List, [], ◌∷◌}
use Prim.Native.Nat.{ℕ}
use lib.ListN.{length, drop}
use lib.Dec.{eqb}
use Rattle.memory.specs.Word.{when◌then◌else◌}
use Rattle.memory.specs.declared.Pointer.{Pointer}
use Rattle.memory.specs.Reading.{Outcome, given, run, asked}
use Rattle.memory.specs.Address.{nothing, null}
use Rattle.memory.proofs.Agree.{All, none, also, SameWord}
use Rattle.memory.proofs.ReadBounds.{both}
use Rattle.settings.specs.declared.Settings.{Settings}
use Rattle.blocks.specs.RowBlock.{row_block_at}
use Rattle.state.specs.declared.Fields.{Fields}
use Rattle.state.specs.declared.State.{State}
use Rattle.state.specs.State.{state_of}
use Rattle.plan.specs.Plan.{lines_taken, next_fields}
use Rattle.row.specs.Row.{Row, row}
use Rattle.frame.specs.Frame.{FrameRow}
use Rattle.insertion.specs.Followed.{called_on, pointer_in, redefinition_of, no_redefinition}
use Rattle.insertion.proofs.Near.{Outcomes, givens, refuseds, run-near, run-opens}
use Rattle.insertion.proofs.Rows.{plain_fields, Like, like, RowAlike, rows, RowsAlike, linked, Passes, row_opens, row-null, row_near}
use Rattle.insertion.proofs.Chains.{next_of, drawn_row}
use Rattle.insertion.proofs.Accepted.{never, row-passes, row-format}

-- ---- two outcomes ----

pub data Given {A B : Type 0} (R : A → B → Type 0) (o : Outcome A) (b : B) : Type 0 where
  found : {n : ℕ} {a : A} → o ≡ given n a → R a b → Given R o b

module _ {A B : Type 0} {R : A → B → Type 0} where
  pub both-given : {o : Outcome A} {u : Outcome B} {i j : ℕ} {a : A} {b : B} → Outcomes R o u → o ≡ given i a → u ≡ given j b → R a b
  both-given {a} {b} (givens {a = x} {b = y} r) e k =
      let p : x ≡ a = cc in
      let q : y ≡ b = cc in
      subst (λ (y : B). R a y) q (subst (λ (x : A). R x y) p r)
  both-given refuseds e k = never e

  pub one-given : {o : Outcome A} {u : Outcome B} {j : ℕ} {b : B} → Outcomes R o u → u ≡ given j b → Given R o b
  one-given {b} (givens {a} {b = y} r) k = let q : y ≡ b = cc in found refl (subst (R a) q r)
  one-given refuseds k = never k

pub all_same : (m : List ℕ) (xs : List ℕ) → All (SameWord m m) xs
all_same m [] = none
all_same m (x ∷ xs) = also refl (all_same m xs)

-- ---- fields ----

-- fields without a window, the same but for number, lines left and where the pointer begins
pub record Close (f g : Fields) : Type 0 where
  pub bare : f.window ≡ None
  pub bare' : g.window ≡ None
  pub cursor : g.cursor ≡ f.cursor
  pub fill : g.fill ≡ f.fill
  pub format : g.format ≡ f.format
  pub address : g.next.address ≡ f.next.address

pub close-self : {f : Fields} → f.window ≡ None → Close f f
close-self e = record { bare = e; bare' = e; cursor = refl; fill = refl; format = refl; address = refl }

module _ {f : Fields} where
  left-path : f.window ≡ None → plain_fields f.row f.left f.cursor f.fill f.format f.next.address f.next.from ≡ f
  left-path e = λ i. record { row = f.row; left = f.left; cursor = f.cursor; fill = f.fill; format = f.format; next = f.next; window = sym e i }

  right-path : {g : Fields} → Close f g → plain_fields g.row g.left f.cursor f.fill f.format f.next.address g.next.from ≡ g
  right-path {g} h = λ i. record {
    row = g.row;
    left = g.left;
    cursor = sym h.cursor i;
    fill = sym h.fill i;
    format = sym h.format i;
    next = record { address = sym h.address i; from = g.next.from };
    window = sym h.bare' i;
  }

pub close-like : {f g : Fields} → Close f g → Like f g
close-like {f} {g} h = subst (λ (x : Fields). Like x g) (left-path h.bare) (subst (Like _) (right-path h) like)

-- ---- one row ----

module _ (σ : Settings) (m : List ℕ) where
  -- the link of the block that fields lead to
  abbrev pub link_read : Fields → Pointer
  link_read f = when eqb f.next.address 0 then nothing else pointer_in σ f.next.address m

  -- the block redefines nothing
  abbrev pub Unredefined : Fields → Type 0
  Unredefined f = null (redefinition_of (run m (row_block_at σ.linear f.next))) ≡ true

  pub plain_rows : (s : State) (r : FrameRow) (rs : List FrameRow) → no_redefinition σ m (called_on s (r ∷ rs)) ≡ true
      → Unredefined s.fields × (no_redefinition σ m (called_on r.answer.next rs) ≡ true)
  unfolding called_on no_redefinition
  plain_rows s r rs e = both (null (redefinition_of (run m (row_block_at σ.linear s.fields.next)))) (no_redefinition σ m (called_on r.answer.next rs)) e

  pub record Told (f : Fields) (r : Row) : Type 0 where
    pub next : r.next ≡ next_fields f f.format (link_read f) None
    pub lines : r.lines ≡ lines_taken f.format f.left

  module _ (l : ℕ) (f : Fields) {n : ℕ} {r : Row} (bare : f.window ≡ None) (plain : Unredefined f) (e : run m (row σ (state_of l f)) ≡ given n r) where
    kept-format : r.format ≡ f.format
    kept-format =
        subst (λ (f : Fields). Unredefined f → run m (row σ (state_of l f)) ≡ given n r → r.format ≡ f.format) (left-path bare)
        (λ plain e. row-format σ m f.row f.left f.cursor f.fill f.format f.next.address f.next.from plain l e) plain e

    told : {s : Row} {p q : Pointer} → RowAlike f f p q r s → p ≡ link_read f → Told f r
    told {p} i k = let t = told-by i in record {
      next = t.0 ∙ ap (λ (u : _). next_fields f u p None) kept-format ∙ ap (λ (p : Pointer). next_fields f f.format p None) k;
      lines = t.1 ∙ ap (λ (u : _). lines_taken u f.left) kept-format;
    }
      where
        told-by : {p q : Pointer} {r s : Row} → RowAlike f f p q r s → (r.next ≡ next_fields f r.format p None) × (r.lines ≡ lines_taken r.format f.left)
        told-by (rows t d) = (refl, refl)

    pub row_told : Told f r
    row_told = by-null (eqb f.next.address 0) refl
      where
        same : Like f f
        same = close-like (close-self bare)

        passes : Passes σ f
        passes = row-passes σ m l f e

        by-null : (b : Bool) → eqb f.next.address 0 ≡ b → Told f r
        by-null false k = told (both-given (run-opens m m refl (row_opens σ l same passes passes k) (all_same m _)) e e) (rw k)
        by-null true k = told (both-given (run-near m m refl 0 (row-null σ l same passes passes k) (all_same m _)) e e) (rw k)

-- a row of a chain, and that the rows after it redefine nothing either
pub told-row : (σ : Settings) (m : List ℕ) (s : State) {n : ℕ} {r : Row} (rs : List FrameRow) → s.fields.window ≡ None
    → no_redefinition σ m (called_on s (drawn_row σ s n r ∷ rs)) ≡ true → run m (row σ s) ≡ given n r
    → Told σ m s.fields r × (no_redefinition σ m (called_on (next_of r) rs) ≡ true)
told-row σ m s {n} {r} rs bare plain e =
    let k = plain_rows σ m s (drawn_row σ s n r) rs plain in (row_told σ m s.latch s.fields bare k.0 e, k.1)

-- ---- two rows ----

-- one drawing and one link
pub record Shares (r s : Row) : Type 0 where
  pub drawing : s.drawing ≡ r.drawing
  pub link : s.next.next ≡ r.next.next

-- the block's link alone differs
pub record Relinked (σ : Settings) (old new : List ℕ) (f : Fields) (r s : Row) : Type 0 where
  pub drawing : s.drawing ≡ r.drawing
  pub before : r.next ≡ next_fields f r.format (pointer_in σ f.next.address old) None
  pub after : s.next ≡ next_fields f r.format (pointer_in σ f.next.address new) None

shares : {f g : Fields} {r s : Row} → RowsAlike f g r s → Shares r s
unfolding next_fields
shares (linked p (rows t d)) = record { drawing = refl; link = refl }

share : {f g : Fields} {o u : Outcome Row} → Outcomes (RowsAlike f g) o u → Outcomes Shares o u
share (givens r) = givens (shares r)
share refuseds = refuseds

module _ (σ : Settings) (old new : List ℕ) (len : length old ≡ length new) (l : ℕ) where
  -- a row of fields that are close, from one latch, where the words that it asks for are the same: the other one is accepted too
  pub row-close : {f g : Fields} → Close f g → Passes σ f → All (SameWord old new) (asked new (row σ (state_of l g)))
      → {n : ℕ} {s : Row} → run new (row σ (state_of l g)) ≡ given n s → Given Shares (run old (row σ (state_of l f))) s
  row-close {f} {g} h i a e =
      one-given (share (run-near old new len 0 (row_near σ l (close-like h) i (row-passes σ new l g e)) a)) e

  -- a row of one state, where all words but those of its block's link are the same
  pub row-relinked : (f : Fields) → f.window ≡ None → eqb f.next.address 0 ≡ false
      → All (SameWord old new) (drop 2 (asked new (row σ (state_of l f)))) → {n k : ℕ} {r s : Row}
      → run old (row σ (state_of l f)) ≡ given n r → run new (row σ (state_of l f)) ≡ given k s → Relinked σ old new f r s
  row-relinked f bare a h d e =
      let passes = row-passes σ old l f d in
      relinked (both-given (run-opens old new len (row_opens σ l (close-like (close-self bare)) passes passes a) h) d e)
    where
      relinked : {r s : Row} → RowAlike f f (pointer_in σ f.next.address old) (pointer_in σ f.next.address new) r s → Relinked σ old new f r s
      relinked (rows t d) = record { drawing = refl; before = refl; after = refl }

  -- the next fields of rows of close fields
  pub told-close : {f g : Fields} {r s : Row} → Close f g → Told σ old f r → Told σ new g s → s.next.next.address ≡ r.next.next.address
      → Close r.next s.next
  unfolding next_fields
  told-close h t u e = rw (t.next, u.next) (record {
    bare = refl;
    bare' = refl;
    cursor = h.cursor;
    fill = h.fill;
    format = h.format;
    address = rw (t.next, u.next) at e;
  })
