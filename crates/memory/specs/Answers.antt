-- What the functions of this crate give, as what the rules give: no rules of their own.
use Rattle.std.specs.Prelude.{ℕ, ◌+◌, ◌*◌, ◌/◌, Bool, true, false, ◌&&◌, List, length, nat_le, Result, Ok, Err}
use Rattle.memory.specs.declared.Fault.{Fault}
use Rattle.memory.specs.Reading.{Outcome, given, refused}
use Rattle.memory.specs.Address.{page}

-- the page at which addresses from a page on have wrapped: linear past FF, segmented past that one
abbrev pub end_page : Bool → ℕ → ℕ
end_page true page = 256
end_page false page = page + 1

-- do the k words from a on stand one after the other in a memory of len words, with no wrap between them? A page has 32768 words.
unfoldable pub is_run : Bool → ℕ → ℕ → ℕ → Bool
is_run linear len a k = nat_le (a / 2 + k) len && nat_le (a / 2 + k) (end_page linear (page a) * 32768)

-- the answer of `read_words`, with the slice it leaves, as an outcome. What that slice holds after a refusal is left free.
abbrev pub words_read : Result (Unit {0}) Fault → List ℕ → Outcome (List ℕ)
words_read (Ok tt) ws = given (length ws) ws
words_read (Err x) ws = refused x
