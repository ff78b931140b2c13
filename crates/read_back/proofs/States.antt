-- A state that is read from numbers fits its fields; so do those that starts, rows and effects of rows then give, and such a state is read
-- back as it was.
use Rattle.std.proofs.Common.{Option, Some, None}
use mathlib.Core.Path.{◌≡◌, refl, subst}
use mathlib.Core.Bool.{Bool, true, false}
use mathlib.Core.List.{List}
use Prim.Native.Nat.{ℕ, ◌≤◌, ◌<◌}
use native.Mathlib.Omega.{arith}
use lib.ListN.{length}
use lib.Dec.{eqb, lit≤}
use Rattle.memory.specs.Word.{when◌then◌else◌, at}
use Rattle.memory.specs.Reading.{Outcome, given, refused, run}
use Rattle.memory.proofs.ReadBounds.{if-cases}
use Rattle.settings.specs.declared.Settings.{Settings}
use Rattle.windows.specs.declared.Window.{Window}
use Rattle.state.specs.declared.Fields.{Fields}
use Rattle.state.specs.declared.State.{State}
use Rattle.state.specs.State.{state_of}
use Rattle.start.specs.Start.{start_from, started, start_call}
use Rattle.row.specs.Row.{Row, row, Called, answered, row_call}
use Rattle.listed.specs.Listed.{StartListed, start_listed, RowListed, row_listed}
use Rattle.effect.specs.Effect.{next_of, latch_with, outcome_for, effect_call}
use Rattle.numbers.specs.Decode.{yes, settings_at, settings_in, state_fits, lines_at, format_at, window_at, fields_at, state_at, is_state, state_in}
use Rattle.numbers.proofs.Again.{InHandHeld, Held, state-again}
use Rattle.blame.proofs.Comes.{comes-given}
use Rattle.read_back.specs.ReadBack.{Words, Numbers, StateBack, StartBack, RowBack, FieldsBack}
use Rattle.read_back.proofs.Small.{SmallFault}
use Rattle.read_back.proofs.Blocks.{FormatFits, HandFits}
use Rattle.read_back.proofs.Rows.{FieldsFit, StateFits, RowFits, TopsFit, start-keeps, row_keeps}

-- ---- from numbers ----

taken : (t : Bool) (s u : State) → (when t then Some s else None) ≡ Some u → s ≡ u
taken true s u e = cc
taken false s u e = let q : ◌≡◌ {A = ℕ} 0 1 = cc in absurd (omega arith)

module _ (xs : List ℕ) (h : Numbers xs) where
  format-fits : FormatFits (format_at xs)
  unfolding format_at lines_at
  format-fits = record {
    lines = if-cases (λ (n : ℕ). n ≤ 255) (state_fits xs) (λ _. omega arith) (λ _. lit≤ tt);
    attributes = omega arith;
    curs = omega arith;
    cure = omega arith;
  }

  window-fits : HandFits (window_at xs)
  unfolding window_at
  window-fits =
      if-cases HandFits (yes (at xs 12))
      (λ _. record {
        held = record { number = omega arith; top = omega arith; bottom = omega arith; left = omega arith; right = omega arith };
        rows = (h 17, h 21);
        link = (h 18, h 22);
      })
      (λ _. tt)

  fields_fit : FieldsFit (fields_at xs)
  unfolding fields_at
  fields_fit = record {
    row = h 1;
    left = omega arith;
    x = omega arith;
    y = omega arith;
    code = omega arith;
    format = format-fits;
    next = (h 11, h 20);
    window = window-fits;
  }

  pub read_fits : {s : State} → state_in xs ≡ Some s → StateFits s
  unfolding state_in
  read_fits {s} e = subst StateFits (taken (is_state xs) (state_at xs) s e) (record { latch = omega arith; fields = fields_fit })

tops_fit : (t : Bool) (xs : List ℕ) {σ : Settings} → (when t then Some (settings_at xs) else None) ≡ Some σ → TopsFit σ
unfolding settings_at
tops_fit true xs {σ} e =
    let same : settings_at xs ≡ σ = cc in
    subst TopsFit same (record { top = omega arith; tow = omega arith })
tops_fit false xs e = let q : ◌≡◌ {A = ℕ} 0 1 = cc in absurd (omega arith)

pub settings-fit : (xs : List ℕ) {σ : Settings} → settings_in xs ≡ Some σ → TopsFit σ
unfolding settings_in
settings-fit xs e = tops_fit (eqb (length xs) 18) xs e

-- ---- and back ----

hand-held : (w : Option Window) → HandFits w → InHandHeld w
hand-held None h = tt
hand-held (Some w) h = h.held

held : (s : State) → StateFits s → Held s
held s h = record {
  latch = omega (arith, h.latch);
  left = h.fields.left;
  x = h.fields.x;
  y = h.fields.y;
  code = h.fields.code;
  lines = h.fields.format.lines;
  attributes = h.fields.format.attributes;
  curs = h.fields.format.curs;
  cure = h.fields.format.cure;
  window = hand-held s.fields.window h.fields.window;
}

pub state-back : (s : State) → StateFits s → StateBack s
state-back s h = state-again s (held s h)

-- ---- what the calls give ----

module _ (m : List ℕ) (b : Words m) where
  pub start_back : (latch : ℕ) (σ : Settings) (list : List ℕ) → latch < 65536 → TopsFit σ → StartBack (start_listed latch σ m list).answer
  unfolding start_listed start_call
  start_back latch σ list l h =
      if-cases (λ (x : StartListed). StartBack x.answer) (eqb (length list) 12000) (λ _. by (run m (start_from latch σ)) refl) (λ _. tt)
    where
      by : (o : Outcome State) → run m (start_from latch σ) ≡ o → StartBack (started o)
      by (given n s) e = state-back s (comes-given m SmallFault 0 (start-keeps m b latch σ l h) e)
      by (refused x) e = tt

  module _ (σ : Settings) (s : State) (h : StateFits s) where
    pub row_fits : {n : ℕ} {r : Row} → run m (row σ s) ≡ given n r → RowFits r
    row_fits e = comes-given m SmallFault 0 (row_keeps m b σ s h) e

    pub next_fits : {n : ℕ} {r : Row} → run m (row σ s) ≡ given n r → StateFits (state_of r.drawing.pen.latch r.next)
    next_fits e = let k = row_fits e in record { latch = k.latch; fields = k.next }

    called-back : (buffer : List ℕ) → RowBack (row_call σ m s buffer).answer
    unfolding row_call
    called-back buffer = if-cases (λ (c : Called). RowBack c.answer) (eqb (length buffer) 132) (λ _. by (run m (row σ s)) refl) (λ _. tt)
      where
        by : (o : Outcome Row) → run m (row σ s) ≡ o → RowBack (answered σ s.fields buffer o).answer
        by (given n r) e = state-back (state_of r.drawing.pen.latch r.next) (next_fits e)
        by (refused x) e = tt

    pub row_back : (buffer list : List ℕ) → RowBack (row_listed σ m s buffer list).answer
    unfolding row_listed
    row_back buffer list =
        if-cases (λ (x : RowListed). RowBack x.answer) (eqb (length buffer) 132)
        (λ _. if-cases (λ (x : RowListed). RowBack x.answer) (eqb (length list) 12000) (λ _. called-back buffer) (λ _. tt))
        (λ _. called-back buffer)

  -- the fields that an effect comes with
  abbrev pub NextFits : Option Fields → Type 0
  NextFits (Some f) = FieldsFit f
  NextFits None = Unit

  module _ (σ : Settings) (f : Fields) (h : FieldsFit f) where
    pub from-latch : (ignore : Bool) → StateFits (state_of (latch_with ignore) f)
    from-latch false = record { latch = omega arith; fields = h }
    from-latch true = record { latch = omega arith; fields = h }

    reached-fits : (ignore : Bool) (o : Outcome Row) → outcome_for σ m f ignore ≡ o → (x : Option Fields) → NextFits x → NextFits (next_of o x)
    unfolding outcome_for
    reached-fits ignore (given n r) e x k = (row_fits σ (state_of (latch_with ignore) f) (from-latch ignore) e).next
    reached-fits ignore (refused y) e x k = k

    pub fields-reached : NextFits (effect_call σ m f).next
    unfolding effect_call
    fields-reached = reached-fits false (outcome_for σ m f false) refl _ (reached-fits true (outcome_for σ m f true) refl None tt)

    pub fields_back : FieldsBack (effect_call σ m f).next
    fields_back = by (effect_call σ m f).next fields-reached
      where
        by : (x : Option Fields) → NextFits x → FieldsBack x
        by (Some g) k = λ latch l. state-back (state_of latch g) (record { latch = l; fields = k })
        by None k = tt
