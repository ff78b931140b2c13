-- The totals and a row's figures as numbers at fixed places of lent slices, and what a row's report leaves there.
use Rattle.std.specs.Prelude.{ℕ, List, [], ◌∷◌, eqb, Result, Ok, Err}
use Rattle.memory.specs.Word.{when◌then◌else◌, at}
use Rattle.memory.specs.declared.Refusal.{Refusal}
use Rattle.bus.specs.declared.Figures.{Figures}
use Rattle.bus.specs.declared.Totals.{Totals}
use Rattle.bus.specs.declared.Reported.{Reported}

-- the totals; the last place says whether a row was handed in
unfoldable pub totals_at : List ℕ → Totals
totals_at xs = record {
  words = at xs 0;
  bursts = at xs 1;
  released = at xs 2;
  largest = at xs 3;
  screen = at xs 4;
  row = at xs 5;
  any = eqb (at xs 6) 1;
}

unfoldable pub totals_numbers : Totals → List ℕ
totals_numbers t =
    t.words ∷ t.bursts ∷ t.released ∷ t.largest ∷ t.screen ∷ t.row ∷ (when t.any then 1 else 0) ∷ []

-- a row's bursts and its least released time
abbrev pub figures_numbers : Figures → List ℕ
figures_numbers f = f.bursts ∷ f.released ∷ []

-- a call's status, and what stands in the totals and in the answer
pub record Called : Type 0 where
  pub status : ℕ
  pub totals : List ℕ
  pub answer : List ℕ

abbrev pub called : ℕ → List ℕ → List ℕ → Called
called status totals answer = record { status = status; totals = totals; answer = answer }

-- a refusal, whose row and address are 0, writes nothing
abbrev pub after_answer : List ℕ → List ℕ → Totals → Result Figures Refusal → Called
after_answer totals answer t (Ok f) = called 0 (totals_numbers t) (figures_numbers f)
after_answer totals answer t (Err r) = called r.number totals answer

abbrev pub after_bus : List ℕ → List ℕ → Reported → Called
after_bus totals answer r = after_answer totals answer r.totals r.answer
