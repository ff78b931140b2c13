-- A reading is a rule that reads memory: what it asks for, word by word, and what it then gives or refuses.
-- The count of words, refusal 7 with its addresses and the addresses read, in order, are defined here once for every rule.
use Rattle.std.specs.Prelude.{ℕ, ◌+◌, ◌/◌, Bool, true, false, ltb, List, [], ◌∷◌, length, ◌==◌, nat_lt, slice_index, Option, Some, None, Result, Ok, Err}
use Rattle.memory.specs.declared.Fault.{Fault}
use Rattle.memory.specs.declared.Pointer.{Pointer}
use Rattle.memory.specs.declared.Refusal.{Refusal}
use Rattle.memory.specs.Word.{when◌then◌else◌}

-- what a word is read as: 02 tells a pointer's first word and its second from "anything but that word of a pointer"
pub data Role : Type 0 where
  First : Role
  Second : Role
  Other : Role

-- the question that a reading asks: the word at an address. 02: "Every read of memory should carry the address where the pointer in use
-- begins"
pub record Ask : Type 0 where
  pub address : ℕ
  pub from : ℕ
  pub role : Role

-- a refusal on its way up: that of a check has address 0. Where a pointer is to blame for it (02, mending), it has where that begins
abbrev pub blaming : ℕ → Pointer → Fault
blaming n p = record { number = n; address = 0; from = p.from }

abbrev pub nobody : Pointer
nobody = record { address = 0; from = 0 }

abbrev pub fault : ℕ → Fault
fault n = blaming n nobody

pub data Reading (A : Type 0) : Type 0 where
  done : A → Reading A
  refuse : Fault → Reading A
  ask : Ask → (ℕ → Reading A) → Reading A

-- the word that a pointer in use comes to
abbrev pub asking : Pointer → Ask
asking p = record { address = p.address; from = p.from; role = Other }

abbrev pub word : Pointer → Reading ℕ
word p = ask (asking p) done

infixl 20 ◌>>=◌
infixl 20 ◌>>◌
unfoldable pub ◌>>=◌ : {A B : Type 0} → Reading A → (A → Reading B) → Reading B
done a >>= k = k a
refuse x >>= k = refuse x
ask q f >>= k = ask q (λ w. f w >>= k)

abbrev pub ◌>>◌ : {A B : Type 0} → Reading A → Reading B → Reading B
p >> q = p >>= λ _. q

-- a reading whose first words are read in these roles: count, addresses and refusals stay (`Roles`)
abbrev pub in_role : Role → Ask → Ask
in_role r q = record { address = q.address; from = q.from; role = r }

unfoldable pub read_as : {A : Type 0} → List Role → Reading A → Reading A
read_as [] p = p
read_as (r ∷ rs) (done a) = done a
read_as (r ∷ rs) (refuse x) = refuse x
read_as (r ∷ rs) (ask q f) = ask (in_role r q) (λ w. read_as rs (f w))

-- words of which the first two are a pointer
abbrev pub one_pointer : List Role
one_pointer = First ∷ Second ∷ []

-- refusal n, at address 0, unless the test holds: the pointer that led to what is tested is to blame
abbrev pub check_of : ℕ → Pointer → Bool → Reading (Unit {0})
check_of n p true = done tt
check_of n p false = refuse (blaming n p)

-- .. or none is
abbrev pub check : ℕ → Bool → Reading (Unit {0})
check n b = check_of n nobody b

-- a reading for each of a list, in order, that carries a value along
unfoldable pub each : {A B : Type 0} → (A → B → Reading B) → List A → B → Reading B
each f [] b = done b
each f (x ∷ xs) b = f x b >>= each f xs

-- "Memory is a lent slice of 16-bit words; the word at byte address a is number a/2." An absent word is refusal 7 (`run_from`).
abbrev pub fetch : List ℕ → ℕ → Option ℕ
fetch m a = when nat_lt (a / 2) (length m) then Some (slice_index m (a / 2)) else None

-- what a reading comes to: "The word count is every word read"; a refusal has a number and an address
pub data Outcome (A : Type 0) : Type 0 where
  given : (words : ℕ) → A → Outcome A
  refused : Fault → Outcome A

-- Refusal 7, "word outside memory", has the address of "the missing word", and tells where the pointer to it begins
abbrev pub absent : Ask → Fault
absent q = record { number = 7; address = q.address; from = q.from }

-- .. of the word that a pointer in use comes to
abbrev pub missing : Pointer → Fault
missing p = absent (asking p)

-- on the memory m, n words having been read before
unfoldable pub run_from : {A : Type 0} → ℕ → List ℕ → Reading A → Outcome A
run_from n m (done a) = given n a
run_from n m (refuse x) = refused x
run_from n m (ask q f) = when nat_lt (q.address / 2) (length m) then run_from (n + 1) m (f (slice_index m (q.address / 2))) else refused (absent q)

abbrev pub run : {A : Type 0} → List ℕ → Reading A → Outcome A
run m p = run_from 0 m p

-- the addresses asked for, in order; the last one of a refusal 7 is the missing word's
unfoldable pub asked : {A : Type 0} → List ℕ → Reading A → List ℕ
asked m (done a) = []
asked m (refuse x) = []
asked m (ask q f) = q.address ∷ (when ltb (q.address / 2) (length m) then asked m (f (slice_index m (q.address / 2))) else [])

-- 02, of where the pointer in use begins: told "for refusal 7 only; other refusals hold 0 there"
abbrev pub from_told : Fault → ℕ
from_told x = when x.number == 7 then x.from else 0

-- what a call tells: a refusal's number and addresses with the row, which "is 0 at the start, else the state's"
abbrev pub refusal : ℕ → Fault → Refusal
refusal row x = record { number = x.number; row = row; address = x.address; from = from_told x }

abbrev pub told_in : {T : Type 0} → ℕ → Result T Fault → Result T Refusal
told_in row (Ok t) = Ok t
told_in row (Err x) = Err (refusal row x)
