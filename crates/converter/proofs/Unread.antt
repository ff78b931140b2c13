-- A word that a frame does not read has no mark at its end.
use mathlib.Core.Path.{◌≡◌, refl, ap, sym, ◌∙◌}
use mathlib.Core.Bool.{Bool, true, false, ◌||◌}
use mathlib.Core.List.{List, [], ◌∷◌, ◌++◌}
use Prim.Native.Nat.{ℕ, zero, suc, ◌+◌, ◌/◌}
use lib.ListN.{length, get_or, replicate}
use lib.Seq.{get_or-set_other}
use lib.Dec.{eqb}
use borrow.Author.Tests.{eqb-false}
use Rattle.memory.specs.Reading.{Reading, given, run_from, run, asked}
use Rattle.memory.proofs.Laws.{bind-given}
use Rattle.memory.proofs.ReadBounds.{Words}
use Rattle.settings.specs.declared.Settings.{Settings}
use Rattle.state.specs.declared.State.{State}
use Rattle.start.specs.Top.{top_block}
use Rattle.start.specs.Start.{window_start, main_start}
use Rattle.told.proofs.Tells.{apart}
use Rattle.converter.specs.Walk.{mark}
use Rattle.converter.specs.Below.{state_after, row_below, rows_read, frame_read}
use Rattle.converter.specs.Conversions.{is_read}
use Rattle.converter.proofs.Rows.{segmented}
use Rattle.converter.proofs.Walks.{Walks, ends, goes}
use Rattle.converter.proofs.Theorem.{Rows, none, over, row}
use Rattle.converter.proofs.Frames.{asked-then, Parts}

pub either : (a b : Bool) → a || b ≡ false → (a ≡ false) × (b ≡ false)
either false b e = (refl, e)
either true b e = apart e

pub read-both : (i : ℕ) (xs ys : List ℕ) → is_read i (xs ++ ys) ≡ false → (is_read i xs ≡ false) × (is_read i ys ≡ false)
unfolding is_read
read-both i [] ys e = (refl, e)
read-both i (x ∷ xs) ys e =
    let h = either (eqb (x / 2) i) (is_read i (xs ++ ys)) e in
    let k = read-both i xs ys h.1 in
    (rw h.0 k.0, k.1)

pub no-mark : (n i : ℕ) → ◌≡◌ {A = ℕ} (get_or (replicate n 0) i 0) 0
no-mark zero i = refl
no-mark (suc n) zero = refl
no-mark (suc n) (suc i) = no-mark n i

module _ {held : ℕ} {m : List ℕ} where
  -- what an accepted walk comes to
  pub walks-given : {A : Type 0} {after : List ℕ} {a : A} {marks : List ℕ} {p : Reading A} (c : ℕ) → Walks held m after a marks p → (k : ℕ) × (run_from c m p ≡ given k a)
  unfolding run_from
  walks-given c (ends _ e) = (c, ap (given c) e)
  walks-given c (goes o t s w) = let r = walks-given (c + 1) w in (r.0, rw t r.1)

  walks-unread : {A : Type 0} {after : List ℕ} {a : A} {marks : List ℕ} {p : Reading A} (i : ℕ) → Walks held m after a marks p → is_read i (asked m p) ≡ false
      → get_or after i 0 ≡ get_or marks i 0
  unfolding asked is_read
  walks-unread i (ends e _) h = ap (λ (ms : List ℕ). get_or ms i 0) (sym e)
  walks-unread {marks} i (goes {q} o t s w) h =
      let k = either (eqb (q.address / 2) i) _ (rw t at h) in
      walks-unread i w k.1 ∙ get_or-set_other marks (q.address / 2) i (mark q.role) 0 λ e. eqb-false (q.address / 2) i k.0 (sym e)

module _ (latch : ℕ) (σ : Settings) (m : List ℕ) (b : Words m) (fin : List ℕ) (i : ℕ) where
  rows-unread : {n : ℕ} {marks : List ℕ} {s : State} → Rows σ m b fin n marks s → is_read i (rows_read n (segmented σ) m s) ≡ false
      → get_or fin i 0 ≡ get_or marks i 0
  unfolding rows_read
  rows-unread (none e) h = ap (λ (ms : List ℕ). get_or ms i 0) (sym e)
  rows-unread (over _ e) h = ap (λ (ms : List ℕ). get_or ms i 0) (sym e)
  rows-unread {s} (row {n} {r} e w rest) h =
      let g = walks-given 0 w in
      let k = read-both i (asked m (row_below (segmented σ) s)) (rows_read n (segmented σ) m (state_after r)) (rw (e, g.1) at h) in
      rows-unread rest k.1 ∙ walks-unread i w k.0

  pub frame-unread : (x : Parts latch σ m b fin) → is_read i (frame_read latch (segmented σ) m) ≡ false → get_or fin i 0 ≡ 0
  unfolding frame_read
  frame-unread x h =
      let t = walks-given 0 x.top in
      let w = walks-given t.0 x.window in
      let g : run m (main_start latch (segmented σ)) ≡ given w.0 x.state =
      bind-given 0 m (top_block false σ.top) (window_start latch (segmented σ)) t.1 ∙ w.1 in
      let split : asked m (main_start latch (segmented σ)) ≡ asked m (top_block false σ.top) ++ asked m (window_start latch (segmented σ) x.block) =
      asked-then 0 m (top_block false σ.top) (window_start latch (segmented σ)) t.1 in
      let k = read-both i (asked m (main_start latch (segmented σ))) (rows_read x.state.fields.left (segmented σ) m x.state) (rw g at h) in
      let j = read-both i (asked m (top_block false σ.top)) (asked m (window_start latch (segmented σ) x.block)) (rw split at k.0) in
      rows-unread x.rest k.1 ∙ walks-unread i x.window j.1 ∙ walks-unread i x.top j.0 ∙ no-mark (length m) i
