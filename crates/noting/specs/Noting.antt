-- A reading whose addresses are noted in a list as its words are read: what the functions of this crate leave, no rules of their own.
use Rattle.std.specs.Prelude.{ℕ, zero, suc, ◌+◌, ◌/◌, Bool, false, ◌||◌, List, [], ◌∷◌, length, get_or, set, ltb}
use Rattle.memory.specs.Word.{when◌then◌else◌, high, low}
use Rattle.memory.specs.declared.Pointer.{Pointer}
use Rattle.memory.specs.Address.{next_word}
use Rattle.memory.specs.Reading.{Reading, done, refuse, ask, Outcome, given, refused, absent}
use Rattle.codes.specs.Attribute.{invokes}

-- what a reading comes to, and the list that it leaves
pub record Noted (A : Type 0) : Type 0 where
  pub outcome : Outcome A
  pub list : List ℕ

abbrev pub noted : {A : Type 0} → Outcome A → List ℕ → Noted A
noted o l = record { outcome = o; list = l }

-- on the memory m, n words having been read before: each word's address goes to the place of the list that its number among the words
-- read names. A place past the list's end is left out.
unfoldable pub noting : {A : Type 0} → ℕ → List ℕ → List ℕ → Reading A → Noted A
noting n m l (done a) = noted (given n a) l
noting n m l (refuse x) = noted (refused x) l
noting n m l (ask q f) =
    when ltb (q.address / 2) (length m) then noting (n + 1) m (set l n q.address) (f (get_or m (q.address / 2) 0)) else noted (refused (absent q)) l

-- a pointer in use to an address; where it begins is told by refusals alone
abbrev pub pointing : (address from : ℕ) → Pointer
pointing address from = record { address = address; from = from }

-- n addresses, one after the other
unfoldable pub in_turn : Bool → ℕ → ℕ → List ℕ
in_turn linear zero a = []
in_turn linear (suc n) a = a ∷ in_turn linear n (next_word linear a)

-- whether a code of n words invokes, from word number k of memory on
unfoldable pub some_invoke : ℕ → List ℕ → ℕ → ℕ → Bool
some_invoke flag m k zero = false
some_invoke flag m k (suc n) = invokes flag (high (get_or m k 0)) || invokes flag (low (get_or m k 0)) || some_invoke flag m (suc k) n
