-- The call of a console on the bus report; its statuses are those of Calls, with document 02's refusals 20 and 21.
use Rattle.std.specs.Prelude.{ℕ, ◌&&◌, List, length, eqb, leb}
use Rattle.memory.specs.Word.{when◌then◌else◌, at}
use Rattle.bus.specs.declared.BusRow.{BusRow}
use Rattle.bus.specs.Bus.{reported}
use Rattle.bus.specs.Numbers.{totals_at, Called, called, after_bus}

-- a row handed in: 7 totals, of which the last is 0 or 1, and an answer of 2 numbers
unfoldable pub host_bus : BusRow → List ℕ → List ℕ → Called
host_bus h totals answer =
    when eqb (length totals) 7 && (eqb (length answer) 2 && leb (at totals 6) 1)
    then after_bus totals answer (reported (totals_at totals) h)
    else called 255 totals answer
