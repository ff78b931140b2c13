-- What the functions of this crate leave in a list, as what the rules give: no rules of their own.
use Rattle.std.specs.Prelude.{ℕ, Bool, true, false, List, Result, Ok, Err}
use Rattle.std.proofs.lemmas.List.Edits.{sets}
use Rattle.memory.specs.declared.Refusal.{Refusal}
use Rattle.start.specs.declared.Started.{Started}
use Rattle.row.specs.declared.DrawnRow.{DrawnRow}

-- the list after a start or a row that was answered so: addresses from a place on, or as it was
abbrev pub start_placed : Result Started Refusal → (addresses list : List ℕ) → List ℕ
start_placed (Ok s) addresses list = sets list 0 addresses
start_placed (Err r) addresses list = list

abbrev pub placed : Result DrawnRow Refusal → (at : ℕ) → (addresses list : List ℕ) → List ℕ
placed (Ok r) at addresses list = sets list at addresses
placed (Err r) at addresses list = list

abbrev pub is_accepted : Result DrawnRow Refusal → Bool
is_accepted (Ok r) = true
is_accepted (Err r) = false
