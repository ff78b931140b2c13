-- The codes of a segment with a list, some of which are left to write: what the functions over them leave, no rules of their own.
use Rattle.std.specs.Prelude.{ℕ, ◌+◌, ◌-◌, ◌*◌, Bool, true, List}
use Rattle.memory.specs.declared.Pointer.{Pointer}
use Rattle.memory.specs.Address.{further}
use Rattle.codes.specs.declared.CodeSettings.{CodeSettings}
use Rattle.codes.specs.declared.AttributeList.{AttributeList}
use Rattle.addresses.specs.declared.Written.{Written}
use Rattle.addresses.specs.declared.of_listed.Rest.{Rest}
use Rattle.addresses.specs.Addresses.{written_to, code_addresses, code_list}

-- a list whose next word is at a pointer
abbrev pub list_from : Pointer → AttributeList
list_from next = record { present = true; next = next }

module _ (σ : CodeSettings) (m : List ℕ) where
  -- the addresses of what is left, and where writing stands after them
  abbrev pub left_addresses : Rest → List ℕ
  left_addresses r = code_addresses σ m r.left r.here (list_from r.next)

  abbrev pub left_written : Rest → Written
  left_written r = written_to r.at (left_addresses r) (code_list σ m r.left r.here (list_from r.next))

-- what is left past k words none of whose codes invokes
abbrev pub past : Bool → ℕ → Rest → Rest
past linear k r = record { left = r.left - 2 * k; here = further linear k r.here; next = r.next; at = r.at + k }
