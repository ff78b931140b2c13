-- What the calls wrote is read back as it was: the laws of States, Effects and Scrolls, on numbers of lent slices.
use mathlib.Core.List.{List}
use Prim.Native.Nat.{ℕ}
use Rattle.joining.specs.declared.Effect.{Effect}
use Rattle.effects.proofs.EffectAgain.{effect-again}
use Rattle.read_back.specs.ReadBack.{Words, Made, none, made, joined, ReadBack}
use Rattle.read_back.proofs.States.{read_fits, settings-fit, start_back, row_back, fields_back}
use Rattle.read_back.proofs.Effects.{EffectFits, effect-fits, join-fits}
use Rattle.read_back.proofs.Scrolls.{shift_back}

module _ (m : List ℕ) (b : Words m) where
  made-fits : {e : Effect} → Made m e → EffectFits e
  made-fits none = (tt, tt)
  made-fits (made settings state {σ} {s} n g h) = effect-fits m b σ s.fields (read_fits state n h).fields
  made-fits (joined {d} {e} h k) = join-fits d e (made-fits h) (made-fits k)

  pub read_back : ReadBack m
  read_back = record {
    start = λ latch settings list {σ} l g. start_back m b latch σ list l (settings-fit settings g);
    row = λ state buffer list σ {s} n h. row_back m b σ s (read_fits state n h) buffer list;
    fields = λ state σ {s} n h. fields_back m b σ s.fields (read_fits state n h).fields;
    effect = λ {e} h. let k = made-fits h in effect-again e k.0 k.1;
    shift = λ σ soft last. shift_back σ m b soft last;
  }
