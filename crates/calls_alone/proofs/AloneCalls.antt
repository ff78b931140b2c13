-- Demand 3 for a console's calls: what a call wrote is read back as it was, so the calls go as the rows and effects that they stand for
-- do, and a row call is the row drawn alone.
use Rattle.std.proofs.Common.{Option, Some, None, Result, Ok, Err}
use mathlib.Core.Path.{◌≡◌, refl, ap, ap₂, sym, subst, ◌∙◌}
use mathlib.Core.Bool.{Bool, true, false, ◌&&◌, not}
use mathlib.Core.List.{List, [], ◌∷◌}
use Prim.Native.Nat.{ℕ, ◌<◌}
use native.Mathlib.Omega.{arith}
use lib.ListN.{length}
use lib.Seq.{set-set}
use lib.Dec.{eqb}
use borrow.Author.Tests.{eqb-true}
use Rattle.memory.specs.Word.{when◌then◌else◌, at}
use Rattle.memory.specs.declared.Refusal.{Refusal}
use Rattle.memory.specs.Reading.{Outcome, given, refused, refusal, fault, run}
use Rattle.memory.proofs.ReadBounds.{both}
use Rattle.settings.specs.declared.Settings.{Settings}
use Rattle.state.specs.declared.Fields.{Fields}
use Rattle.state.specs.declared.State.{State}
use Rattle.state.specs.State.{state_of}
use Rattle.row.specs.Row.{Row, row, Called, called, answered, row_call}
use Rattle.joining.specs.declared.Effect.{Effect}
use Rattle.joining.specs.Join.{empty, join, apply}
use Rattle.joining.proofs.Joining.{apply-empty}
use Rattle.effect.specs.Effect.{effect_call}
use Rattle.effect.specs.Demand.{state_after, fields_after}
use Rattle.effect.proofs.Alone.{Stands, goes, stays, tail}
use Rattle.listed.specs.Listed.{list_after, RowListed, row_with, called_with, row_listed}
use Rattle.listed_alone.specs.DemandListed as Listed
use Rattle.listed_alone.proofs.AloneListed.{right, head}
use Rattle.numbers.specs.Decode.{settings_at, settings_in, fields_at, state_in}
use Rattle.row.specs.declared.DrawnRow.{DrawnRow}
use Rattle.answers.specs.AnswerNumbers.{row_numbers}
use Rattle.listed_answers.specs.AfterListed.{drawn_listed, after_row_listed}
use Rattle.effects.specs.EffectNumbers.{effect_numbers}
use Rattle.effects.specs.AfterEffect.{stepped, after_effect, after_apply}
use Rattle.effects.proofs.EffectAgain.{effect-again}
use Rattle.thagaduvin.specs.Calls.{host_row}
use Rattle.thagaduvin_effect.specs.EffectCalls.{host_effect, host_join, host_apply}
use Rattle.told.proofs.Tells.{not-true}
use Rattle.refusals.specs.Refusals.{row_listed_numbers, of_row, has, within}
use Rattle.refusals.proofs.ToldListed.{row-listed-told}
use Rattle.read_back.specs.ReadBack.{Words}
use Rattle.read_back.proofs.Rows.{FieldsFit, StateFits}
use Rattle.read_back.proofs.States.{read_fits, state-back, next_fits, NextFits, fields-reached}
use Rattle.read_back.proofs.Effects.{EffectFits, effect-fits, join-fits, passes}
use Rattle.calls_alone.specs.DemandCalls.{Call, is_row, with_latch, given_by, on_slices, in_turn, row_alone, drawn_alone, Demand3Calls}
use Rattle.calls_alone.proofs.Slices.{read-state, another-latch, written-latch, same-refusal}

-- the row call that a call stands for
abbrev listed : Call → Listed.Call
listed c = record {
  buffer = c.cells;
  list = c.list;
  effect_latch = c.effect_latch;
  alone_buffer = c.alone_cells;
  alone_size = c.alone_size;
  alone_list = c.alone_list;
  alone_places = c.alone_places;
}

-- no refusal of a row has the number 0
numbered : (σ : Settings) (m : List ℕ) (s : State) (b list : List ℕ) {r : Refusal} → (row_listed σ m s b list).answer ≡ Err r → eqb r.number 0 ≡ false
numbered σ m s b list {r} e =
    let told = subst (λ (a : Result DrawnRow Refusal). within (of_row a) row_listed_numbers ≡ true) e (row-listed-told σ m s b list) in
    not-true (eqb r.number 0) (passes (λ n. not (eqb n 0)) r.number row_listed_numbers (both (has r.number row_listed_numbers) true told).0 refl)

module _ (settings m : List ℕ) (σ : Settings) (g : settings_in settings ≡ Some σ) (b : Words m) where
  -- ---- what the calls come to, on numbers that are read ----

  row-call : (xs cells list answer : List ℕ) (s : State) → state_in xs ≡ Some s → length answer ≡ 8
      → host_row settings m xs cells list answer ≡ after_row_listed xs answer (row_listed σ m s cells list)
  unfolding host_row
  row-call xs cells list answer s e l = rw (l, g, e)

  effect-call : (xs effect : List ℕ) (s : State) → state_in xs ≡ Some s → length effect ≡ 12
      → host_effect settings m xs effect ≡ after_effect s.latch xs (effect_call σ m s.fields)
  unfolding host_effect
  effect-call xs effect s e l = rw (l, g, e)

  join-call : (d e : Effect) (joined : List ℕ) → EffectFits d → EffectFits e → length joined ≡ 12
      → (host_join (effect_numbers d) (effect_numbers e) joined).answer ≡ effect_numbers (join d e)
  unfolding host_join
  join-call d e joined h k l = rw (l, effect-again d h.0 h.1, effect-again e k.0 k.1)

  apply-call : (e : Effect) (latch : ℕ) (answer : List ℕ) → EffectFits e → length answer ≡ 4
      → host_apply (effect_numbers e) latch answer ≡ after_apply answer (apply e latch)
  unfolding host_apply
  apply-call e latch answer h l = rw (l, effect-again e h.0 h.1)

  -- ---- where the calls stand ----

  -- the state's numbers, and those of the fields reached, are read; the effects above fit their numbers
  record Read (s : State) (f : Fields) (e : Effect) (state fields : List ℕ) : Type 0 where
    state-read : state_in state ≡ Some s
    state-fits : StateFits s
    fields_read : (latch : ℕ) → latch < 65536 → state_in (with_latch latch fields) ≡ Some (state_of latch f)
    fields_fit : FieldsFit f
    above-fits : EffectFits e

  -- ---- the call is the row drawn alone ----

  -- a row's answer on the call's slices, and on those of the row drawn alone
  on-slices : (c : Call) (state zs : List ℕ) (a : Result DrawnRow Refusal) (cells list : List ℕ) → length c.answer ≡ 8
      → ((r : Refusal) → a ≡ Err r → eqb r.number 0 ≡ false)
      → given_by (after_row_listed state c.answer (Listed.on_lent (listed c) a cells list)) ≡ on_slices c (after_row_listed zs c.alone_answer (row_with a cells list))
  unfolding on_slices Listed.on_lent row_numbers
  on-slices c state zs (Ok d) cells list l n = refl
  on-slices c state zs (Err r) cells list l n =
      rw (n r refl, same-refusal r c.answer c.alone_answer (omega (arith, l)) (omega (arith, c.alone_numbers))) refl

  row-alone : (c : Call) (s : State) (f : Fields) (state fields : List ℕ) (a : Result ℕ Refusal) → length c.answer ≡ 8
      → row_listed σ m s c.cells c.list ≡ Listed.row_alone σ m f (listed c) a
      → ((latch : ℕ) → a ≡ Ok latch → state_in (with_latch latch fields) ≡ Some (state_of latch f))
      → given_by (after_row_listed state c.answer (Listed.row_alone σ m f (listed c) a)) ≡ row_alone settings m fields c (after_apply c.applied a)
  unfolding Listed.row_alone row_alone
  row-alone c s f state fields (Ok latch) l e h =
      rw (row-call (with_latch latch fields) c.alone_cells c.alone_list c.alone_answer (state_of latch f) (h latch refl) c.alone_numbers)
      (on-slices c state (with_latch latch fields) _ _ _ l λ r k. numbered σ m (state_of latch f) c.alone_cells c.alone_list k)
  row-alone c s f state fields (Err r) l e h =
      rw (numbered σ m s c.cells c.list (ap (λ (x : RowListed). x.answer) e), same-refusal r c.answer c.applied (omega (arith, l)) (omega (arith, c.applied_size)))

  -- the latch that the effects above make is the state's
  latch-made : (first : ℕ) {f : Fields} {e : Effect} {s : State} → Stands σ m first f e s → StateFits s → (latch : ℕ)
      → apply e first ≡ Ok latch → latch < 65536
  latch-made first (goes {l} h) k latch q = let same : l ≡ latch = cc in omega (arith, k.latch)
  latch-made first (stays x q h) k latch p = let z : ◌≡◌ {A = ℕ} 0 1 = cc in absurd (omega arith)

  module _ (first : ℕ) (f : Fields) (e : Effect) (s : State) where
    alone : (c : Call) (state fields : List ℕ) → is_row c ≡ true → Stands σ m first f e s → Read s f e state fields
        → given_by (host_row settings m state c.cells c.list c.answer) ≡ row_alone settings m fields c (host_apply (effect_numbers e) first c.applied)
    alone c state fields t st r =
        let k = both (eqb (length c.cells) 132 && eqb (length c.list) 12000) (eqb (length c.answer) 8) t in
        let l = eqb-true (length c.answer) 8 k.1 in
        let h = head σ m first (listed c) k.0 st in
        ap given_by (row-call state c.cells c.list c.answer s r.state-read l ∙ ap (after_row_listed state c.answer) h)
        ∙ row-alone c s f state fields (apply e first) l h (λ latch q. r.fields_read latch (latch-made first st r.state-fits latch q))
        ∙ ap (row_alone settings m fields c) (sym (apply-call e first c.applied r.above-fits c.applied_size))

    -- ---- and the calls after it stand so again ----

    state-after : (state answer cells list : List ℕ) (o : Outcome Row) → run m (row σ s) ≡ o → state_in state ≡ Some s → StateFits s
        → (state_in (after_row_listed state answer (called_with (answered σ s.fields cells o) list)).state
        ≡ Some (state_after s (answered σ s.fields cells o).answer)) × StateFits (state_after s (answered σ s.fields cells o).answer)
    unfolding state_after
    state-after state answer cells list (given n r) q h k =
        let fits = next_fits m b σ s k q in (state-back (state_of r.drawing.pen.latch r.next) fits, fits)
    state-after state answer cells list (refused x) q h k = (h, k)

    fields-after : (k : ℕ) (fields : List ℕ) (x : Option Fields) → NextFits m b x
        → ((latch : ℕ) → latch < 65536 → state_in (with_latch latch fields) ≡ Some (state_of latch f)) → FieldsFit f
        → ((latch : ℕ) → latch < 65536 → state_in (with_latch latch (stepped k (with_latch k fields) x)) ≡ Some (state_of latch (fields_after f x)))
        × FieldsFit (fields_after f x)
    unfolding fields_after
    fields-after k fields (Some g) n h i =
        (λ latch l. rw (written-latch latch k g) (state-back (state_of latch g) (record { latch = l; fields = n })), n)
    fields-after k fields None n h i = (λ latch l. rw (set-set fields 0 k latch) (h latch l), i)

    module _ (c : Call) (state fields : List ℕ) (t : is_row c ≡ true) (r : Read s f e state fields) where
      -- what the effect call leaves, and the effects joined
      stepped-on : host_effect settings m (with_latch c.effect_latch fields) c.effect
          ≡ after_effect c.effect_latch (with_latch c.effect_latch fields) (effect_call σ m f)
      stepped-on = effect-call (with_latch c.effect_latch fields) c.effect (state_of c.effect_latch f) (r.fields_read c.effect_latch c.latch_fits) c.effect_size

      joined-on : (host_join (effect_numbers e) (host_effect settings m (with_latch c.effect_latch fields) c.effect).answer c.joined).answer
          ≡ effect_numbers (join e (effect_call σ m f).effect)
      joined-on = rw stepped-on (join-call e (effect_call σ m f).effect c.joined r.above-fits (effect-fits m b σ f r.fields_fit) c.joined_size)

      read-on : Read (state_after s (answered σ s.fields c.cells (run m (row σ s))).answer) (fields_after f (effect_call σ m f).next)
          (join e (effect_call σ m f).effect) (host_row settings m state c.cells c.list c.answer).state
          (host_effect settings m (with_latch c.effect_latch fields) c.effect).state
      read-on =
          let k = both (eqb (length c.cells) 132 && eqb (length c.list) 12000) (eqb (length c.answer) 8) t in
          let call = row-call state c.cells c.list c.answer s r.state-read (eqb-true (length c.answer) 8 k.1) in
          let after = state-after state c.answer c.cells (list_after m (row σ s) c.list) (run m (row σ s)) refl r.state-read r.state-fits in
          let reached = fields-after c.effect_latch fields (effect_call σ m f).next (fields-reached m b σ f r.fields_fit) r.fields_read r.fields_fit in
          record {
            state-read = rw (call, right σ m s c.cells c.list k.0) after.0;
            state-fits = after.1;
            fields_read = rw stepped-on reached.0;
            fields_fit = reached.1;
            above-fits = join-fits e (effect_call σ m f).effect r.above-fits (effect-fits m b σ f r.fields_fit);
          }

  -- a call that is no row leaves the state
  no_row : (c : Call) (state : List ℕ) (s : State) → is_row c ≡ false → state_in state ≡ Some s
      → (host_row settings m state c.cells c.list c.answer).state ≡ state
  unfolding host_row row_listed row_call
  no_row c state s t h =
      rw (g, h) (by_size (eqb (length c.cells) 132) (eqb (length c.list) 12000) (eqb (length c.answer) 8) t)
    where
      out : (t u : Bool) → RowListed
      out t u =
          let a : Called = when t then answered σ s.fields c.cells (run m (row σ s)) else called (Err (refusal s.fields.row (fault 1))) c.cells in
          when t
          then (when u
          then called_with a (list_after m (row σ s) c.list)
          else row_with (Err (refusal s.fields.row (fault 25))) c.cells c.list)
          else called_with a c.list

      by_size : (t u v : Bool) → t && u && v ≡ false
          → (when v then after_row_listed state c.answer (out t u) else drawn_listed 255 state c.cells c.list c.answer).state ≡ state
      by_size true true true e = let q : ◌≡◌ {A = ℕ} 0 1 = cc in absurd (omega arith)
      by_size true true false e = refl
      by_size true false true e = refl
      by_size true false false e = refl
      by_size false u true e = refl
      by_size false u false e = refl

  -- ---- a list of row calls ----

  module _ (first : ℕ) where
    abbrev Equal : List Call → Type 0
    Equal cs = (f : Fields) (e : Effect) (s : State) (state fields : List ℕ) → Stands σ m first f e s → Read s f e state fields
        → in_turn settings m state cs ≡ drawn_alone settings m first fields (effect_numbers e) cs

    turn : (c : Call) (cs : List Call) → Equal cs → Equal (c ∷ cs)
    unfolding in_turn drawn_alone
    turn c cs rest f e s state fields st r = by_size (is_row c) refl
      where
        by_size : (t : Bool) → is_row c ≡ t → in_turn settings m state (c ∷ cs) ≡ drawn_alone settings m first fields (effect_numbers e) (c ∷ cs)
        by_size true t =
            rw (t, joined-on first f e s c state fields t r)
            (ap₂ ◌∷◌ (alone first f e s c state fields t st r) (rest _ _ _ _ _ (tail σ m first f e c.cells st) (read-on first f e s c state fields t r)))
        by_size false t = rw (t, no_row c state s t r.state-read) (rest f e s state fields st r)

    in-turn : (cs : List Call) → Equal cs
    unfolding in_turn drawn_alone
    in-turn [] = λ f e s state fields st r. refl
    in-turn (c ∷ cs) = turn c cs (in-turn cs)

settings-read : (xs : List ℕ) → length xs ≡ 18 → settings_in xs ≡ Some (settings_at xs)
unfolding settings_in
settings-read xs l = rw l

pub demand-3-calls : Demand3Calls
unfolding effect_numbers
demand-3-calls settings m state l b n h calls =
    let s = state_of (at state 0) (fields_at state) in
    let read = read-state state h in
    let fits = read_fits state n read in
    in-turn settings m (settings_at settings) (settings-read settings l) b (at state 0) calls (fields_at state) empty s state state
    (goes (apply-empty (at state 0)))
    (record {
      state-read = read;
      state-fits = fits;
      fields_read = λ latch k. another-latch state latch h k;
      fields_fit = fits.fields;
      above-fits = (tt, tt);
    })
