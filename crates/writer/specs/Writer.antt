-- Document 02, "Two desks on one memory": "A writer call takes both desks' spans, first to last address, and refuses outside the writer's."
use Rattle.std.specs.Prelude.{ℕ, ◌/◌, ◌%◌, Bool, ◌&&◌, List, length, set, eqb, leb, ltb, Result, Ok, Err}
use Rattle.memory.specs.Word.{when◌then◌else◌}
use Rattle.memory.specs.Reading.{fault, refusal}
use Rattle.memory.specs.declared.Refusal.{Refusal}
use Rattle.writer.specs.declared.Span.{Span}

-- a span has the addresses from its first to its last one, both included
abbrev pub inside : Span → ℕ → Bool
inside s a = leb s.first a && leb a s.last

-- "spans that share an address": each first address is at most each last one, so that the larger first one is in both
-- (`WriterLaws.share-both`); an empty span shares none
abbrev pub share : Span → Span → Bool
share s t = leb s.first s.last && leb s.first t.last && leb t.first s.last && leb t.first t.last

-- not "an odd address or outside the desk's span or memory"; n is the number of memory's words
abbrev pub may_write : Span → ℕ → ℕ → Bool
may_write own a n = eqb (a % 2) 0 && inside own a && ltb (a / 2) n

-- a call's answer, and what memory then holds
pub record Wrote : Type 0 where
  pub answer : Result (Unit {0}) Refusal
  pub memory : List ℕ

abbrev pub wrote : Result (Unit {0}) Refusal → List ℕ → Wrote
wrote answer memory = record { answer = answer; memory = memory }

-- "A refusal met in no row, here and below, has row 0."
abbrev pub refused_with : ℕ → Result (Unit {0}) Refusal
refused_with n = Err (refusal 0 (fault n))

-- "15, write to an odd address or outside the desk's span or memory, nothing written; 16, spans that share an address, before 15"
unfoldable pub write_word : List ℕ → Span → Span → ℕ → ℕ → Wrote
write_word m own other a w =
    when share own other then wrote (refused_with 16) m
    else when may_write own a (length m) then wrote (Ok tt) (set m (a / 2) w)
    else wrote (refused_with 15) m

-- the number that a console is told: 0 for a word written, else the refusal's
abbrev pub status : Result (Unit {0}) Refusal → ℕ
status (Ok tt) = 0
status (Err r) = r.number
