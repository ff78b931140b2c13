-- Document 01: "A row effect has two parts, for an incoming latch with ignore clear and with it set: keep the latch, set it to a
-- word, or refuse." How effects are joined and applied.
use Rattle.std.specs.Prelude.{ℕ, Bool, true, false, Result, Ok, Err}
use Rattle.memory.specs.declared.Refusal.{Refusal}
use Rattle.codes.specs.Attribute.{ignores}
use Rattle.joining.specs.declared.Part.{Part}
use Rattle.joining.specs.declared.Part.TheVariants.{Keep, Set, Refuse}
use Rattle.joining.specs.declared.Effect.{Effect}

-- "The empty effect keeps in both."
abbrev pub empty : Effect
empty = record { clear = Keep; set = Keep }

-- the part for an incoming latch, by its ignore
abbrev pub part_for : Bool → Effect → Part
part_for false e = e.clear
part_for true e = e.set

-- "set gives its part for bit 13 of the word, or the set again where that keeps"
abbrev pub set_then : ℕ → Part → Part
set_then w Keep = Set w
set_then w (Set v) = Set v
set_then w (Refuse r) = Refuse r

-- "a refusal stands; keep gives the next effect's same part; set .."
abbrev pub join_part : Part → Bool → Effect → Part
join_part (Refuse r) ignore e = Refuse r
join_part Keep ignore e = part_for ignore e
join_part (Set w) ignore e = set_then w (part_for (ignores w) e)

-- "Effects are joined first to last, part by part"
abbrev pub join : Effect → Effect → Effect
join d e = record { clear = join_part d.clear false e; set = join_part d.set true e }

-- what a part makes of a latch
abbrev pub apply_part : Part → ℕ → Result ℕ Refusal
apply_part Keep latch = Ok latch
apply_part (Set w) latch = Ok w
apply_part (Refuse r) latch = Err r

-- "Bit 13 of a latch chooses the part applied to it."
abbrev pub apply : Effect → ℕ → Result ℕ Refusal
apply e latch = apply_part (part_for (ignores latch) e) latch
