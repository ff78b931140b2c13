-- The lines of the rows: without redefinitions they follow from the lines left and the format of the first state.
use Rattle.std.proofs.Common.{None}
use mathlib.Core.Path.{◌≡◌, refl, ap, ap₂, sym, ◌∙◌}
use mathlib.Core.Bool.{true}
use mathlib.Core.List.{List, ◌∷◌}
use Prim.Native.Nat.{ℕ, ◌-◌}
use Rattle.memory.specs.Reading.{given, run}
use Rattle.settings.specs.declared.Settings.{Settings}
use Rattle.blocks.specs.declared.RowFormat.{RowFormat}
use Rattle.state.specs.declared.Fields.{Fields}
use Rattle.state.specs.declared.State.{State}
use Rattle.plan.specs.Plan.{lines_taken, next_fields}
use Rattle.row.specs.Row.{Row, row}
use Rattle.frame.specs.Frame.{FrameRow}
use Rattle.insertion.specs.Followed.{called_on, no_redefinition}
use Rattle.insertion.specs.Insertion.{lines_of}
use Rattle.insertion.proofs.Chains.{next_of, drawn_row, Chain, ended, drawn}
use Rattle.insertion.proofs.Told.{Told, told-row}

module _ (σ : Settings) (old new : List ℕ) where
  pub record Level (o n : State) (os ns : List FrameRow) : Type 0 where
    pub bare_old : o.fields.window ≡ None
    pub bare_new : n.fields.window ≡ None
    pub left : n.fields.left ≡ o.fields.left
    pub format : n.fields.format ≡ o.fields.format
    pub plain_old : no_redefinition σ old (called_on o os) ≡ true
    pub plain_new : no_redefinition σ new (called_on n ns) ≡ true

  module _ {o n : State} {os ns : List FrameRow} {i j : ℕ} {q r : Row} (w : Level o n (drawn_row σ o i q ∷ os) (drawn_row σ n j r ∷ ns))
      (d : run old (row σ o) ≡ given i q) (e : run new (row σ n) ≡ given j r) where
    told-old : Told σ old o.fields q × (no_redefinition σ old (called_on (next_of q) os) ≡ true)
    told-old = told-row σ old o os w.bare_old w.plain_old d

    told-new : Told σ new n.fields r × (no_redefinition σ new (called_on (next_of r) ns) ≡ true)
    told-new = told-row σ new n ns w.bare_new w.plain_new e

    row-lines : r.lines ≡ q.lines
    row-lines = told-new.0.lines ∙ ap₂ lines_taken w.format w.left ∙ sym told-old.0.lines

    next : Level (next_of q) (next_of r) os ns
    unfolding next_fields
    next = record {
      bare_old = ap (λ (f : Fields). f.window) told-old.0.next;
      bare_new = ap (λ (f : Fields). f.window) told-new.0.next;
      left = ap (λ (f : Fields). f.left) told-new.0.next ∙ ap₂ (λ (l : ℕ) (t : RowFormat). l - lines_taken t l) w.left w.format
          ∙ ap (λ (f : Fields). f.left) (sym told-old.0.next);
      format = ap (λ (f : Fields). f.format) told-new.0.next ∙ w.format ∙ ap (λ (f : Fields). f.format) (sym told-old.0.next);
      plain_old = told-old.1;
      plain_new = told-new.1;
    }

  pub same_lines : {o n : State} {os ns : List FrameRow} → Level o n os ns → Chain σ old o os → Chain σ new n ns → lines_of ns ≡ lines_of os
  same_lines w (ended z) (ended y) = refl
  same_lines w (ended z) (drawn y e c) = absurd (y (w.left ∙ z))
  same_lines w (drawn z d c) (ended y) = absurd (z (sym w.left ∙ y))
  same_lines w (drawn z d c) (drawn y e k) = ap₂ ◌∷◌ (row-lines w d e) (same_lines (next w d e) c k)
