-- The verdict on a frame: a pointer that it blames is not null, and it gives a refusal as it is only where the start up to the main block
-- has it. It is the frame's: whole where the frame is not refused, with the refusal's number where it is.
use mathlib.Core.Path.{◌≡◌, refl, sym, ◌∙◌}
use mathlib.Core.Bool.{true, false, ◌&&◌, not}
use mathlib.Core.List.{List}
use Prim.Native.Nat.{ℕ, zero, suc, ◌-◌, ◌<◌, ◌≤◌}
use native.Mathlib.Omega.{arith}
use lib.Dec.{eqb, lit<}
use borrow.Author.Tests.{eqb-false, le-leb}
use Rattle.memory.specs.declared.Fault.{Fault}
use Rattle.memory.specs.Reading.{one_pointer, nobody, Outcome, given, refused, refusal, run_from, run}
use Rattle.memory.specs.Address.{null, ahead}
use Rattle.memory.proofs.Laws.{bind-given, bind-refused, bind-bind}
use Rattle.memory.proofs.ReadBounds.{Words, if-cases}
use Rattle.settings.specs.declared.Interlace.{Interlace}
use Rattle.settings.specs.declared.Interlace.TheVariants.{Progressive, RepeatField, Video}
use Rattle.settings.specs.declared.Settings.{Settings}
use Rattle.settings.specs.Good.{good, check_settings}
use Rattle.settings.specs.Timing.{lines_in, lines_for_rows}
use Rattle.settings.proofs.GoodLaws.{ordered}
use Rattle.settings.proofs.CheckLaws.{Passing}
use Rattle.blocks.specs.declared.MainBlock.{MainBlock}
use Rattle.blocks.specs.Main.{main_block, main_block_at}
use Rattle.windows.specs.Window.{first_window}
use Rattle.state.specs.declared.State.{State}
use Rattle.start.specs.Top.{registered, enabled, of_window, top_block}
use Rattle.start.specs.Start.{first_fields, window_start, start_from}
use Rattle.row.specs.Row.{Row, row}
use Rattle.blame.specs.declared.Place.{Place}
use Rattle.blame.specs.declared.Place.TheVariants.{Register}
use Rattle.blame.specs.declared.Verdict.{Verdict}
use Rattle.blame.specs.declared.Verdict.TheVariants.{Whole, Blamed, Refused}
use Rattle.blame.specs.Blame.{leader, mendable, as_it_is, refused_row, next_state, by_row, rows_within, rows, main_of, by_start, verdict}
use Rattle.blame.proofs.Comes.{as-comes, Comes, dones, bind, check-comes, check-then, comes-given, comes-refused}
use Rattle.blame.proofs.Standing.{Stands, pointer-address, pointer-words, pointer-to, stands, words-come}
use Rattle.blame.proofs.BlocksStand.{window-stands}
use Rattle.blame.proofs.RowStands.{HeldAt, Ready, Mends, row-stands}

-- TOP's and TOW's words have 16 bits, as those of memory
pub record Registers (σ : Settings) : Type 0 where
  pub top : σ.top.second < 65536
  pub tow : σ.tow.second < 65536

lines-within : (mode : Interlace) (n : ℕ) → n ≤ 4095 → lines_in mode n ≤ 4095
lines-within Progressive n h = h
lines-within RepeatField n h = omega arith
lines-within Video n h = h

module _ (σ : Settings) (m : List ℕ) (b : Words m) (regs : Registers σ) where
  -- what a verdict on rows says: they are whole, or a pointer that is not null is to blame
  pub data Judged : Verdict → Type 0 where
    whole : Judged Whole
    blames : {p : Place} {n : ℕ} → mendable n ≡ true → HeldAt σ m b p → Judged (Blamed p n)

  refused-judged : (led : Place) (number : ℕ) (x : Fault) → Mends σ m b led x → Judged (refused_row led number x)
  refused-judged led number x h = rw h.0 (blames h.0 h.1)

  -- one row, and a way to go on
  row-judged : (go_on : Place → State → Verdict) (led : Place) (s : State) → Passing σ → Ready σ m b led s.fields
      → ((led : Place) (t : State) → Ready σ m b led t.fields → Judged (go_on led t)) → (s.fields.left ≡ 0 → ⊥)
      → Judged (by_row go_on (leader s.fields.row s.fields.window led) s.fields.row (run m (row σ s)))
  row-judged go_on led s g h k l = by (run m (row σ s)) refl
    where
      now : Place
      now = leader s.fields.row s.fields.window led

      comes : Comes m (Mends σ m b now) (λ r. Ready σ m b now r.next) (row σ s)
      comes = row-stands σ m b led s h g (omega (arith, l))

      by : (o : Outcome Row) → run m (row σ s) ≡ o → Judged (by_row go_on now s.fields.row o)
      by (given i r) e = k now (next_state r) (comes-given m (Mends σ m b now) 0 comes e)
      by (refused x) e = refused-judged now s.fields.row x (comes-refused m (Mends σ m b now) 0 comes e)

  rows-judged : (n : ℕ) (led : Place) (s : State) → Passing σ → Ready σ m b led s.fields → Judged (rows_within n σ m led s)
  unfolding rows_within
  rows-judged zero led s g h = whole
  rows-judged (suc n) led s g h =
      if-cases Judged (eqb s.fields.left 0) (λ _. whole) λ l.
      row-judged (rows_within n σ m) led s g h (λ led₁ t k. rows-judged n led₁ t g k) (eqb-false s.fields.left 0 l)

  -- ---- the start ----
  abbrev MainStands : MainBlock → Type 0
  MainStands k = Passing σ × Stands m b σ.linear k.rows × (1 ≤ k.lines) × (k.lines ≤ 32)

  -- .. and the numbers that it has
  abbrev AsItIs : Fault → Type 0
  AsItIs x = as_it_is x.number ≡ true

  settings-come : Comes m AsItIs (λ _. Passing σ) (check_settings σ)
  unfolding check_settings
  settings-come =
      check-then m AsItIs 2 nobody (good σ) (λ _. refl) λ _ g.
      check-comes m AsItIs 17 nobody σ.linear (λ _. refl) λ l. record { proper = g; straight = l }

  main-stands : Comes m AsItIs MainStands (main_of σ)
  unfolding main_of top_block main_block_at main_block ahead
  main-stands =
      let p = registered σ.linear σ.top in
      bind m AsItIs settings-come λ _ g.
      check-then m AsItIs 6 nobody (not (null p)) (λ _. refl) λ _ _.
      bind m AsItIs {P = MainStands}
      (bind m AsItIs (as-comes m AsItIs one_pointer (words-come m b σ.linear AsItIs 7 p (λ a. refl))) λ ws e.
      dones (g, stands m b σ.linear p.address _ _ (pointer-address σ.linear 0 σ.top.first σ.top.second regs.top) (e 0 (lit< tt)) (e 1 (lit< tt)), omega arith, omega arith))
      λ k hk.
      check-then m AsItIs 14 nobody (not (enabled k && of_window k)) (λ _. refl) λ _ _. dones hk

  pub main-numbers : {x : Fault} → run m (main_of σ) ≡ refused x → as_it_is x.number ≡ true
  main-numbers e = comes-refused m AsItIs 0 main-stands e

  -- what a start still refuses once its main block is read blames TOW, which is not null, and tells a register
  abbrev BlamesTow : Fault → Type 0
  BlamesTow x = (mendable x.number ≡ true) × HeldAt σ m b Register × (x.from ≡ 0)

  window-starts : (latch : ℕ) (k : MainBlock) → MainStands k → Comes m BlamesTow (λ s. Ready σ m b Register s.fields) (window_start latch σ k)
  unfolding window_start first_window first_fields lines_for_rows
  window-starts latch k hk =
      let p = registered σ.linear σ.tow in
      let held : null p ≡ false → HeldAt σ m b Register = λ n e f. pointer-words σ.linear 0 σ.tow.first σ.tow.second n e f in
      let told : null p ≡ false → p.from ≡ 0 = (pointer-to σ.linear 0 σ.tow.first σ.tow.second regs.tow refl).1 in
      let o = ordered σ hk.0.proper in
      bind m BlamesTow
      (window-stands m b σ.linear BlamesTow (HeldAt σ m b Register) 0 0 p (omega arith) (pointer-address σ.linear 0 σ.tow.first σ.tow.second regs.tow)
      (λ n. (λ a. (refl, held n, told n), (refl, held n, told n), held n)))
      λ w hw.
      dones
      (record {
        fields = record {
          within = omega (arith, lines-within σ.interlace (σ.val - σ.vsd) (omega (arith, o.val-vtot, o.vtot-range)));
          format = rw (le-leb 1 k.lines hk.2, le-leb k.lines 32 hk.3);
          next = hk.1;
        };
        window = hw;
      })

  module _ (latch : ℕ) where
    -- a start is its part up to the main block, then its window's
    pub start_of : {n : ℕ} {k : MainBlock} → run m (main_of σ) ≡ given n k → run m (start_from latch σ) ≡ run_from n m (window_start latch σ k)
    unfolding start_from main_of
    start_of e = sym (bind-bind 0 m (check_settings σ) (λ _. top_block σ.linear σ.top) (window_start latch σ)) ∙ bind-given 0 m (main_of σ) _ e

    pub start-refused : {x : Fault} → run m (main_of σ) ≡ refused x → run m (start_from latch σ) ≡ refused x
    unfolding start_from main_of
    start-refused e = sym (bind-bind 0 m (check_settings σ) (λ _. top_block σ.linear σ.top) (window_start latch σ)) ∙ bind-refused 0 m (main_of σ) _ e

    pub tow-told : {n : ℕ} {k : MainBlock} {x : Fault} → run m (main_of σ) ≡ given n k → run m (start_from latch σ) ≡ refused x → x.from ≡ 0
    tow-told {n} {k} e h =
        (comes-refused m BlamesTow n (window-starts latch k (comes-given m AsItIs 0 main-stands e)) (sym (start_of e) ∙ h)).2

    -- a verdict on a frame: as its rows', or a refusal of its start up to the main block
    pub data Fair : Verdict → Type 0 where
      judged : {v : Verdict} → Judged v → Fair v
      as-it-is : {x : Fault} → run m (main_of σ) ≡ refused x → Fair (Refused (refusal 0 x))

    pub verdict-fair : Fair (verdict latch σ m)
    unfolding verdict rows
    verdict-fair = by-main (run m (main_of σ)) refl
      where
        by-window : (n i : ℕ) (k : MainBlock) → MainStands k → (o : Outcome State) → run_from i m (window_start latch σ k) ≡ o
            → Judged (by_start σ m (given n k) o)
        by-window n i k hk (given j s) e = rows-judged _ Register s hk.0 (comes-given m BlamesTow i (window-starts latch k hk) e)
        by-window n i k hk (refused x) e =
            let q = comes-refused m BlamesTow i (window-starts latch k hk) e in blames q.0 q.1

        by-main : (o : Outcome MainBlock) → run m (main_of σ) ≡ o → Fair (by_start σ m o (run m (start_from latch σ)))
        by-main (refused x) e = as-it-is e
        by-main (given n k) e = judged (by-window n n k (comes-given m AsItIs 0 main-stands e) _ (sym (start_of e)))
