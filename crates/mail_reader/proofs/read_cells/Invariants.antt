use mathlib.Core.Path.{◌≡◌}
use mathlib.Core.List.{[]}
use Prim.Native.Nat.{◌+◌, ◌-◌, ◌*◌, ◌≤◌}
use lib.ListN.{length, take, drop}
use Rattle.mail_reader.specs.Reader.{joined, cells_read}
use Rattle.mail_reader.proofs.read_cells.Given as goal

abbrev pub invariant-loop-count : goal.invariant-loop-count
invariant-loop-count l =
    (l.at ≤ 4 + 13 * l.count) × (l.at ≤ length l.text)
    × (joined [] 4 (cells_read 132 0 0 (drop 4 l.text)) ≡ joined (take l.count l.row) l.at (cells_read (132 - l.count) l.count l.before (drop l.at l.text)))
    × (length l.row ≡ 132)
