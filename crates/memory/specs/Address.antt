-- Document 01, "Settings and memory": pointers, the next word, words one after the other. `linear` is the setting.
use Rattle.std.specs.Prelude.{ℕ, zero, suc, ◌+◌, ◌*◌, ◌/◌, ◌%◌, Bool, true, false, ◌&&◌, List, [], ◌∷◌, ◌==◌, nat_lt}
use Rattle.memory.specs.declared.Pointer.{Pointer}
use Rattle.memory.specs.Word.{when◌then◌else◌}
use Rattle.memory.specs.Reading.{Reading, done, word, ◌>>=◌}

-- a pointer in use, to an address. 02: "the address where the pointer in use begins, 0 when a register held it", and "0 for a null one"
abbrev pub to : (from : ℕ) → ℕ → Pointer
to from a = record { address = a; from = when a == 0 then 0 else from }

-- a null one
abbrev pub nothing : Pointer
nothing = record { address = 0; from = 0 }

-- "A pointer is two words. Linear: low byte of the first, then the second. Segmented: bits 14 to 8 of the first are the
-- page, the second the place in the page .. Bit 0 is cleared". Its first word is at the address `from`.
unfoldable pub pointer : Bool → (from : ℕ) → ℕ → ℕ → Pointer
pointer true from first second = to from ((first % 256 * 65536 + second) / 2 * 2)
pointer false from first second = to from ((first / 256 % 128 * 65536 + second) / 2 * 2)

-- "a pointer that is then 0 points at nothing"
abbrev pub null : Pointer → Bool
null p = p.address == 0

-- Refusal 3: "an address odd or above 24 bits"
abbrev pub is_address : ℕ → Bool
is_address a = a % 2 == 0 && nat_lt a 16777216

-- An address is a page and a place in the page: the place is its low 16 bits, the page what stands above them.
abbrev pub page : ℕ → ℕ
page a = a / 65536

abbrev pub place : ℕ → ℕ
place a = a % 65536

abbrev pub address_of : ℕ → ℕ → ℕ
address_of page place = page * 65536 + place

-- Some bytes further, the place wraps at the end of its page, from FFFE to 0, and carries 1 each time it does.
abbrev pub place_after : ℕ → ℕ → ℕ
place_after bytes place = (place + bytes) % 65536

abbrev pub carry : ℕ → ℕ → ℕ
carry bytes place = (place + bytes) / 65536

-- "linear carries into the high byte, and from FFFFFE goes to 0 (ours)": the page takes the carry, from FF to 0; "segmented wraps in its
-- page": it stays.
abbrev pub page_after : Bool → ℕ → ℕ → ℕ
page_after true carried page = (page + carried) % 256
page_after false carried page = page

abbrev pub forward : Bool → ℕ → ℕ → ℕ
forward linear bytes a = address_of (page_after linear (carry bytes (place a)) (page a)) (place_after bytes (place a))

-- "The next word is 2 further"
unfoldable pub next_word : Bool → ℕ → ℕ
next_word linear a = forward linear 2 a

-- the address k words further
unfoldable pub ahead : Bool → ℕ → ℕ → ℕ
ahead linear zero a = a
ahead linear (suc k) a = ahead linear k (next_word linear a)

-- the pointer in use, one word and k words further: it begins where it did
abbrev pub onward : Bool → Pointer → Pointer
onward linear p = record { address = next_word linear p.address; from = p.from }

abbrev pub further : Bool → ℕ → Pointer → Pointer
further linear k p = record { address = ahead linear k p.address; from = p.from }

-- k words, one after the other
unfoldable pub words : Bool → ℕ → Pointer → Reading (List ℕ)
words linear zero p = done []
words linear (suc k) p = do
  w ← word p
  ws ← words linear k (onward linear p)
  done (w ∷ ws)
