-- Document 01, "The draw program": "1: register address, value (3)". The registers that a script sets, also those that its screen ignores.
use Rattle.std.specs.Prelude.{ℕ, zero, suc, List, [], ◌∷◌, length, take, drop, set, replicate, eqb}
use Rattle.memory.specs.Word.{when◌then◌else◌}
use Rattle.script.specs.Records.{by_kind, body_length, address, value}
use Rattle.script.specs.Script.{number}

-- what an accepted record does to the registers
unfoldable pub registers_after : (kind body : ℕ) → List ℕ → List ℕ
registers_after kind body rs = by_kind kind (set rs (address body) (value body)) rs rs

-- the registers after the records of a script that comes to a draw; which script does, `Script.records` says. There are no more records than
-- bytes: n counts them down.
unfoldable pub registers_by : ℕ → (registers bytes : List ℕ) → List ℕ
registers_by zero rs bytes = rs
registers_by (suc n) rs [] = rs
registers_by (suc n) rs (kind ∷ bytes) =
    when eqb kind 0 then rs
    else registers_by n (registers_after kind (number (take (body_length kind) bytes)) rs) (drop (body_length kind) bytes)

-- a "register above 18h" is refused, so there are 25. "Unset is 0."
unfoldable pub registers_of : List ℕ → List ℕ
registers_of bytes = registers_by (length bytes) (replicate 25 0) bytes
