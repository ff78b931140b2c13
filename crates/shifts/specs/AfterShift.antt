-- What a shift call and a row beside the cut leave in the slices of numbers that they were lent, and their status: 0 where the call is
-- accepted, else the number of the refusal.
use Rattle.std.specs.Prelude.{ℕ, false, List, [], ◌∷◌, ℤ, pos, Option, Some, None, Result, Ok, Err}
use Rattle.std.specs.Int.Signed.{lt_z}
use Rattle.std.specs.Int.{w32}
use Rattle.std.proofs.Common.{to_z, of_z}
use Rattle.memory.specs.Word.{when◌then◌else◌, at}
use Rattle.memory.specs.Address.{nothing}
use Rattle.memory.specs.declared.Refusal.{Refusal}
use Rattle.state.specs.declared.State.{State}
use Rattle.scroll.specs.declared.Scroll.{Scroll}
use Rattle.settings.specs.declared.PointerWords.{PointerWords}
use Rattle.settings.specs.declared.Settings.{Settings}
use Rattle.beside.specs.declared.BesideRow.{BesideRow}
use Rattle.listed_beside.specs.ListedBeside.{BesideListed, beside_listed}
use Rattle.numbers.specs.Decode.{state_in}
use Rattle.scroll.specs.declared.FrameShift.{FrameShift}
use Rattle.answers.specs.AnswerNumbers.{row_told, with_refusal}
use Rattle.answers.specs.AfterCall.{Stated, stated}

-- a scroll as three numbers: the shift in two's complement (`of_z` has the 32 bits of a signed number, `to_z` the number of 32 bits),
-- the phase, the direction
abbrev pub scroll_numbers : Scroll → List ℕ
scroll_numbers s = of_z w32 s.shift ∷ s.phase ∷ s.direction ∷ []

abbrev pub scroll_of : List ℕ → Scroll
scroll_of ns = record { shift = to_z w32 (at ns 0); phase = at ns 1; direction = at ns 2 }

-- the answer of an accepted shift call: row and addresses 0, and the two words of the hard top
abbrev pub top_numbers : PointerWords → List ℕ
top_numbers t = 0 ∷ 0 ∷ 0 ∷ t.first ∷ t.second ∷ []

-- a shift call; a refused one leaves the scroll and the places of the hard top as they were
abbrev pub after_shift : List ℕ → List ℕ → Result FrameShift Refusal → Stated
after_shift scroll answer (Ok s) = stated 0 (scroll_numbers s.scroll) (top_numbers s.top)
after_shift scroll answer (Err r) = stated r.number scroll (with_refusal r answer)

-- the answer of a row beside the cut, as a row's; of none, zeros
unfoldable pub beside_numbers : BesideRow → List ℕ
beside_numbers d = row_told d.number d.lines d.format d.words

abbrev pub no_row : List ℕ
no_row = 0 ∷ 0 ∷ 0 ∷ 0 ∷ 0 ∷ 0 ∷ 0 ∷ 0 ∷ []

-- a row beside the cut: a status, and what stands in the row buffer, in the list and in the answer
pub record BesideDone : Type 0 where
  pub status : ℕ
  pub cells : List ℕ
  pub list : List ℕ
  pub answer : List ℕ

abbrev pub beside_done : ℕ → List ℕ → List ℕ → List ℕ → BesideDone
beside_done status cells list answer = record { status = status; cells = cells; list = list; answer = answer }

abbrev pub beside_answered : List ℕ → List ℕ → List ℕ → Result (Option BesideRow) Refusal → BesideDone
beside_answered cells list answer (Ok None) = beside_done 0 cells list no_row
beside_answered cells list answer (Ok (Some d)) = beside_done 0 cells list (beside_numbers d)
beside_answered cells list answer (Err r) = beside_done r.number cells list (with_refusal r answer)

abbrev pub after_beside : List ℕ → BesideListed → BesideDone
after_beside answer out = beside_answered out.buffer out.list answer out.answer

-- the state of a call that looks at none
abbrev pub no_state : State
no_state = record {
  latch = 0;
  fields = record {
    row = 0;
    left = 0;
    cursor = record { x = 0; y = 0 };
    fill = record { code = 0; flag = false };
    format = record { lines = 0; attributes = 0; curs = 0; cure = 0 };
    next = nothing;
    window = None;
  };
}

-- The row beside the cut by the numbers of a state: "up, the one after the frame's last", so the state is looked at when the shift is
-- positive, and else any will do. Status 255 where no field can have one of its numbers.
abbrev pub below_state : Settings → List ℕ → ℤ → PointerWords → ℕ → List ℕ → List ℕ → List ℕ → Option State → BesideDone
below_state σ m shift soft latch cells list answer (Some s) = after_beside answer (beside_listed σ m shift soft latch s cells list)
below_state σ m shift soft latch cells list answer None = beside_done 255 cells list answer

unfoldable pub beside_from : Settings → List ℕ → ℤ → PointerWords → ℕ → List ℕ → List ℕ → List ℕ → List ℕ → BesideDone
beside_from σ m shift soft latch state cells list answer =
    when lt_z (pos 0) shift then below_state σ m shift soft latch cells list answer (state_in state)
    else after_beside answer (beside_listed σ m shift soft latch no_state cells list)
