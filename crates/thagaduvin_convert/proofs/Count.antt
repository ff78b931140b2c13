-- A conversion changes fewer than 2^32 pointers: a frame has no more rows than lines, a row reads fewer than 12,000 words, and a word that the
-- frame does not read stays.
use Rattle.std.proofs.Common.{Ok}
use mathlib.Core.Path.{◌≡◌, refl, sym, ap, ◌∙◌}
use mathlib.Core.Bool.{Bool, true, false}
use mathlib.Core.List.{List, [], ◌∷◌}
use Prim.Native.Nat.{ℕ, zero, suc, ◌+◌, ◌*◌, ◌-◌, ◌/◌, ◌<◌, ◌≤◌}
use native.Mathlib.Omega.{arith}
use lib.ListN.{length, get_or, set, length-set, length-append, get_or-eq_default}
use lib.Seq.{get_or-set_same, get_or-set_other, set-get_or, set-set, set_out, ext_get_or}
use lib.Dec.{eqb, ltb, lit≤}
use borrow.Author.Tests.{eqb-true, eqb-false, ltb-true, ltb-false}
use Rattle.memory.specs.Reading.{Outcome, given, refused, run, asked}
use Rattle.memory.proofs.ReadBounds.{Words, Reads, dones, bind, Within, given-within, refused-within, if-cases, run-reads, reads-asked}
use Rattle.settings.specs.declared.Interlace.{Interlace}
use Rattle.settings.specs.declared.Interlace.TheVariants.{Progressive, RepeatField, Video}
use Rattle.settings.specs.declared.Settings.{Settings}
use Rattle.settings.specs.Timing.{lines_in, lines_for_rows}
use Rattle.windows.specs.Window.{first_window}
use Rattle.windows.proofs.WindowBounds.{window-reads}
use Rattle.state.specs.declared.State.{State}
use Rattle.row.specs.Row.{Row}
use Rattle.start.specs.Start.{first_fields, window_start, main_start}
use Rattle.start.proofs.StartBound.{top-reads}
use Rattle.converter.specs.declared.Conversion.{Conversion}
use Rattle.converter.specs.Below.{then_read, rows_read, frame_read, state_after, row_below}
use Rattle.converter.specs.Converter.{turned_first, change, changes, convert_call}
use Rattle.converter.specs.Conversions.{is_read, Sixteen}
use Rattle.converter.proofs.Theorem.{below-reads}
use Rattle.converter.proofs.Converted.{all-turn}
use Rattle.conversion.proofs.TurnLaws.{changes-none, changes-more}

change-one : (v w : ℕ) → change v w ≤ 1
change-one v w = if-cases (λ (k : ℕ). k ≤ 1) (eqb w v) (λ _. lit≤ tt) (λ _. lit≤ tt)

-- where no words but those at some addresses differ, no more differ than there are addresses
module _ (m : List ℕ) where
  -- one address less: the word there made the same
  module _ (a : ℕ) (xs after : List ℕ) (l : length after ≡ length m) (h : (i : ℕ) → is_read i (a ∷ xs) ≡ false → get_or after i 0 ≡ get_or m i 0) where
    abbrev same : List ℕ
    same = set after (a / 2) (get_or m (a / 2) 0)

    there : get_or same (a / 2) 0 ≡ get_or m (a / 2) 0
    there = by (ltb (a / 2) (length m)) refl
      where
        by : (t : Bool) → ltb (a / 2) (length m) ≡ t → get_or same (a / 2) 0 ≡ get_or m (a / 2) 0
        by true e = get_or-set_same after (a / 2) (get_or m (a / 2) 0) 0 (omega (arith, ltb-true (a / 2) (length m) e))
        by false e =
            let past = ltb-false (a / 2) (length m) e in
            get_or-eq_default same 0 (omega (arith, length-set after (a / 2) (get_or m (a / 2) 0))) ∙ sym (get_or-eq_default m 0 past)

    less : (i : ℕ) → is_read i xs ≡ false → get_or same i 0 ≡ get_or m i 0
    unfolding is_read
    less i r = by (eqb (a / 2) i) refl
      where
        by : (t : Bool) → eqb (a / 2) i ≡ t → get_or same i 0 ≡ get_or m i 0
        by true e = ap (λ (j : ℕ). get_or same j 0) (sym (eqb-true (a / 2) i e)) ∙ there ∙ ap (λ (j : ℕ). get_or m j 0) (eqb-true (a / 2) i e)
        by false e = get_or-set_other after (a / 2) i (get_or m (a / 2) 0) 0 (λ s. eqb-false (a / 2) i e (sym s)) ∙ h i (rw e r)

    one_more : changes m after ≤ changes m same + 1
    one_more = by (ltb (a / 2) (length m)) refl
      where
        back : set same (a / 2) (get_or after (a / 2) 0) ≡ after
        back = set-set after (a / 2) (get_or m (a / 2) 0) (get_or after (a / 2) 0) ∙ set-get_or after (a / 2) 0

        by : (t : Bool) → ltb (a / 2) (length m) ≡ t → changes m after ≤ changes m same + 1
        by true e =
            let more = changes-more (a / 2) (get_or after (a / 2) 0) m same (ltb-true (a / 2) (length m) e) (length-set after (a / 2) (get_or m (a / 2) 0) ∙ l) there in
            omega (arith, rw back at more, change-one (get_or m (a / 2) 0) (get_or after (a / 2) 0))
        by false e = omega (arith, ap (changes m) (set_out after (a / 2) (get_or m (a / 2) 0) (omega (arith, l, ltb-false (a / 2) (length m) e))))

  few-changes : (xs after : List ℕ) → length after ≡ length m → ((i : ℕ) → is_read i xs ≡ false → get_or after i 0 ≡ get_or m i 0) → changes m after ≤ length xs
  unfolding is_read
  few-changes [] after l h = omega (arith, ap (changes m) (ext_get_or 0 after m l (λ i _. h i refl)) ∙ changes-none m)
  few-changes (a ∷ xs) after l h =
      omega (arith, one_more a xs after l h, few-changes xs (same a xs after l h) (length-set after (a / 2) (get_or m (a / 2) 0) ∙ l) (less a xs after l h))

-- ---- the words that a frame reads ----
lines-few : (i : Interlace) (n : ℕ) → lines_in i n ≤ n
lines-few Progressive n = omega arith
lines-few RepeatField n = omega arith
lines-few Video n = omega arith

start-reads : (latch : ℕ) (σ : Settings) → Reads (λ s. s.fields.left ≡ lines_for_rows σ) 13 (main_start latch σ)
unfolding window_start first_window first_fields
start-reads latch σ =
    bind {n = 7} {k = 6} (lit≤ tt) (top-reads σ.linear σ.top) λ _ _.
    bind {n = 6} {k = 0} (lit≤ tt) (window-reads σ.linear 0 0 _ (lit≤ tt)) λ _ _. dones refl

then-few : {A : Type 0} (n : ℕ) (next : A → List ℕ) → ((a : A) → length (next a) ≤ n) → (o : Outcome A) → length (then_read next o) ≤ n
then-few n next h (given k a) = h a
then-few n next h (refused x) = omega arith

module _ (latch : ℕ) (σ : Settings) (m : List ℕ) (b : Words m) where
  rows_few : (n : ℕ) (s : State) → length (rows_read n σ m s) ≤ 11690 * n
  unfolding rows_read
  rows_few zero s = lit≤ tt
  rows_few (suc n) s =
      let rest : Row → List ℕ = λ r. rows_read n σ m (state_after r) in
      let few = then-few (11690 * n) rest (λ r. rows_few n (state_after r)) (run m (row_below σ s)) in
      if-cases (λ (xs : List ℕ). length xs ≤ 11690 * suc n) (eqb s.fields.left 0) (λ _. omega arith)
      λ _. omega (arith, length-append (asked m (row_below σ s)) (then_read rest (run m (row_below σ s))), reads-asked m b (below-reads σ s))

  frame-few : length (frame_read latch σ m) ≤ 13 + 11690 * lines_for_rows σ
  unfolding frame_read
  frame-few =
      omega (
        arith,
        length-append (asked m (main_start latch σ)) (then_read rows (run m (main_start latch σ))),
        reads-asked m b (start-reads latch σ),
        after-few (run-reads 0 m b (lit≤ tt) (start-reads latch σ)),
      )
    where
      rows : State → List ℕ
      rows s = rows_read s.fields.left σ m s

      after-few : {o : Outcome State} → Within (λ s. s.fields.left ≡ lines_for_rows σ) 13 o → length (then_read rows o) ≤ 11690 * lines_for_rows σ
      after-few (given-within {a = s} _ e) = omega (arith, rows_few s.fields.left s)
      after-few refused-within = omega arith

-- of settings whose VAL has 16 bits, as every caller's have
pub count_fits : (latch : ℕ) (σ : Settings) (m : List ℕ) (marks : ℕ) (c : Conversion) → Sixteen σ m → σ.val < 65536
    → (convert_call latch σ m marks).answer ≡ Ok c → c.pointers < 4294967296
unfolding lines_for_rows
count_fits latch σ m marks c h v e =
    let t = all-turn latch σ m marks c h e in
    omega (
      arith,
      few-changes m (frame_read latch σ m) (convert_call latch σ m marks).memory t.size t.unread,
      frame-few latch σ m h.0,
      lines-few σ.interlace (σ.val - σ.vsd),
      change-one σ.top.first (turned_first σ.top.first),
      change-one σ.tow.first (turned_first σ.tow.first),
    )
