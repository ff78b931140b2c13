-- Document 02 §10, "How much of the bus a screen takes": what a row takes, and the running totals.
use Rattle.std.specs.Prelude.{ℕ, ◌+◌, ◌-◌, ◌*◌, ◌/◌, ◌^◌, Bool, true, false, ◌&&◌, ◌||◌, not, ltb, eqb, Option, Some, None, unwrap_or, Ok, Err}
use Rattle.memory.specs.Word.{when◌then◌else◌, high, low}
use Rattle.memory.specs.declared.Refusal.{Refusal}
use Rattle.bus.specs.declared.BusRow.{BusRow}
use Rattle.bus.specs.declared.Figures.{Figures}
use Rattle.bus.specs.declared.LargestRow.{LargestRow}
use Rattle.bus.specs.declared.Totals.{Totals}
use Rattle.bus.specs.declared.Reported.{Reported}

-- the burst register: the space in its high byte, the count in its low one
abbrev pub burst_space : ℕ → ℕ
burst_space burst = high burst

abbrev pub burst_count : ℕ → ℕ
burst_count burst = low burst

-- "the bursts (words over burst count, rounded up)"; "A burst space of 0 keeps the bus (003 over 000 here): one burst if any word is read."
unfoldable pub bursts : ℕ → ℕ → ℕ
bursts burst words =
    when eqb words 0 then 0
    else when eqb (burst_space burst) 0 then 1
    else (words + (burst_count burst - 1)) / burst_count burst

-- "the least released time, 15 system clocks times burst space for each gap between two bursts of one row"
abbrev pub gaps : ℕ → ℕ → ℕ
gaps burst words = bursts burst words - 1

unfoldable pub released : ℕ → ℕ → ℕ
released burst words = 15 * (burst_space burst * gaps burst words)

abbrev pub figures : BusRow → Figures
figures h = record { bursts = bursts h.burst h.words; released = released h.burst h.words }

-- the totals before any row: "0 and 0 while none"
unfoldable pub none : Totals
none = record { words = 0; bursts = 0; released = 0; largest = 0; screen = 0; row = 0; any = false }

-- "of the largest word count, the first if several": a later row has to have more words
abbrev pub larger : Totals → BusRow → Bool
larger t h = not t.any || ltb t.largest h.words

-- the largest row, once a row was handed in
abbrev pub largest_row : Totals → Option LargestRow
largest_row t = when t.any then Some (record { words = t.largest; screen = t.screen; row = t.row }) else None

-- the largest as it is told: "0 and 0 while none"
abbrev pub told : Option LargestRow → LargestRow
told largest = unwrap_or largest (record { words = 0; screen = 0; row = 0 })

-- "per row and summed, with screen and row, as handed in, of the largest word count"
unfoldable pub added : Totals → BusRow → Totals
added t h = record {
  words = t.words + h.words;
  bursts = t.bursts + (figures h).bursts;
  released = t.released + (figures h).released;
  largest = when larger t h then h.words else t.largest;
  screen = when larger t h then h.screen else t.screen;
  row = when larger t h then h.row else t.row;
  any = true;
}

-- "Sums in 64 bits."
abbrev pub fits : ℕ → Bool
fits n = ltb n (2 ^ 64)

abbrev pub all_fit : Totals → Bool
all_fit t = fits t.words && (fits t.bursts && fits t.released)

-- "A refusal met in no row, here and below, has row 0"
abbrev pub refusal : ℕ → Refusal
refusal n = record { number = n; row = 0; address = 0; from = 0 }

abbrev pub refuse : ℕ → Totals → Reported
refuse n t = record { totals = t; answer = Err (refusal n) }

-- "The running totals are one record, brought up to date where it stands after each row."; "Refusals: 20, burst count 0; 21, a total
-- that would not fit, totals unchanged."
unfoldable pub reported : Totals → BusRow → Reported
reported t h =
    when eqb (burst_count h.burst) 0 then refuse 20 t
    else when all_fit (added t h) then record { totals = added t h; answer = Ok (figures h) }
    else refuse 21 t
