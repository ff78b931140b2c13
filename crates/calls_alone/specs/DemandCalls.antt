-- Demand 3, "A row can be drawn alone", for a console's calls: the claim of listed_alone/specs/DemandListed.antt over the slices of numbers
-- that `thagaduvin_row`, `thagaduvin_effect`, `thagaduvin_join` and `thagaduvin_apply` are lent.
use Rattle.std.specs.Prelude.{ℕ, ◌<◌, ◌≡◌, Bool, true, ◌&&◌, List, [], ◌∷◌, ◌++◌, length, take, drop, set, replicate, eqb}
use Rattle.std.proofs.Math.Option.{Option, some, none}
use Rattle.memory.specs.Word.{when◌then◌else◌, at}
use Rattle.numbers.specs.Decode.{is_state}
use Rattle.answers.specs.AfterCall.{Answered, Stated}
use Rattle.listed_answers.specs.AfterListed.{DrawnListed}
use Rattle.thagaduvin.specs.Calls.{host_row}
use Rattle.thagaduvin_effect.specs.EffectCalls.{host_effect, host_join, host_apply}
use Rattle.read_back.specs.ReadBack.{Words, Numbers}

-- the slices lent to a row call, of any length and with any numbers; and what the claim leaves free: the latch of the effect call made for
-- its row, what is lent to the calls on effects, and what is lent to the same row drawn alone
pub record Call : Type 0 where
  pub cells : List ℕ
  pub list : List ℕ
  pub answer : List ℕ
  pub effect_latch : ℕ
  pub latch_fits : effect_latch < 65536
  pub effect : List ℕ
  pub effect_size : length effect ≡ 12
  pub joined : List ℕ
  pub joined_size : length joined ≡ 12
  pub applied : List ℕ
  pub applied_size : length applied ≡ 4
  pub alone_cells : List ℕ
  pub alone_size : length alone_cells ≡ 132
  pub alone_list : List ℕ
  pub alone_places : length alone_list ≡ 12000
  pub alone_answer : List ℕ
  pub alone_numbers : length alone_answer ≡ 8

-- "A call refused 1 is no row", one refused 25 neither, nor one of status 255, whose answer has no place for a row's numbers
abbrev pub is_row : Call → Bool
is_row c = eqb (length c.cells) 132 && eqb (length c.list) 12000 && eqb (length c.answer) 8

-- a state's numbers with another latch
abbrev pub with_latch : ℕ → List ℕ → List ℕ
with_latch latch state = set state 0 latch

-- the empty effect's numbers
abbrev pub no_effect : List ℕ
no_effect = replicate 12 0

-- what is compared of a row call: its status, the next state where it is accepted ("State and buffer stay"), cells, list and answer
pub record Given : Type 0 where
  pub status : ℕ
  pub next : Option (List ℕ)
  pub cells : List ℕ
  pub list : List ℕ
  pub answer : List ℕ

abbrev pub given_by : DrawnListed → Given
given_by d = record {
  status = d.status;
  next = when eqb d.status 0 then some d.state else none;
  cells = d.cells;
  list = d.list;
  answer = d.answer;
}

-- a refusal in the slices of a call: its row and addresses are the first three numbers of an answer
abbrev pub refused_by : Call → ℕ → List ℕ → Given
refused_by c status answer = record {
  status = status;
  next = none;
  cells = c.cells;
  list = c.list;
  answer = take 3 answer ++ drop 3 c.answer;
}

-- "Its answer and its buffer's cells equal the call's, or its refusal does", and its list does: as many places as words were read, the
-- last number of the answer, hold the same addresses, and "places past them stay" in the call's list
abbrev pub accepted_by : Call → DrawnListed → Given
accepted_by c d = record {
  status = 0;
  next = some d.state;
  cells = d.cells;
  list = take (at d.answer 7) d.list ++ drop (at d.answer 7) c.list;
  answer = d.answer;
}

unfoldable pub on_slices : Call → DrawnListed → Given
on_slices c d = when eqb d.status 0 then accepted_by c d else refused_by c d.status d.answer

-- settings and memory stay
module _ (settings m : List ℕ) where
  -- what the rows among the calls give, in turn, each on the state's numbers that the last one wrote or left
  unfoldable pub in_turn : List ℕ → List Call → List Given
  in_turn state [] = []
  in_turn state (c ∷ cs) =
      let out : DrawnListed = host_row settings m state c.cells c.list c.answer in
      let rest : List Given = in_turn out.state cs in
      when is_row c then given_by out ∷ rest else rest

  -- "If they refuse, the call gives this same first refusal." "The row drawn alone is a row call with 132 cells on the fields then
  -- reached and the latch that the joined effects make of the first one."
  unfoldable pub row_alone : List ℕ → Call → Answered → Given
  row_alone fields c applied =
      when eqb applied.status 0
      then on_slices c (host_row settings m (with_latch (at applied.answer 3) fields) c.alone_cells c.alone_list c.alone_answer)
      else refused_by c applied.status applied.answer

  -- the same rows, each drawn alone: `first` is the first latch, `fields` has the fields reached, `above` the effects of the rows above,
  -- joined first to last. "For each row above a call one effect call is made, with any latch"
  unfoldable pub drawn_alone : ℕ → List ℕ → List ℕ → List Call → List Given
  drawn_alone first fields above [] = []
  drawn_alone first fields above (c ∷ cs) =
      let x : Stated = host_effect settings m (with_latch c.effect_latch fields) c.effect in
      let e : Answered = host_join above x.answer c.joined in
      when is_row c
      then row_alone fields c (host_apply above first c.applied) ∷ drawn_alone first x.state e.answer cs
      else drawn_alone first fields above cs

-- the claim about a list of row calls, refused ones included, with any slices: on settings' 18 numbers, a memory of 16-bit words and the
-- 32-bit numbers of a state
abbrev pub Demand3Calls : Type 0
Demand3Calls =
    (settings m state : List ℕ) → length settings ≡ 18 → Words m → Numbers state → is_state state ≡ true → (calls : List Call)
    → in_turn settings m state calls ≡ drawn_alone settings m (at state 0) state no_effect calls
