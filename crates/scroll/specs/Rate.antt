-- Document 000's sixteen rates of a soft scroll (MD4's SR3 to SR0).
use Rattle.std.specs.Prelude.{ℕ, ◌+◌, ◌-◌, ltb}
use Rattle.memory.specs.Word.{when◌then◌else◌}
use Rattle.scroll.specs.declared.Rate.{Rate}

-- 0 to 7: "1 Scan Line Per Frame" to "8 Scan Lines Per Frame (fastest)"; 8 to 15: "1 Scan Line Per 1 Frame" to "1 Scan Line Per 8
-- Frames (slowest)". A rate moves its lines once in its frames.
unfoldable pub rate : ℕ → Rate
rate n = when ltb n 8 then record { lines = n + 1; frames = 1 } else record { lines = 1; frames = n - 7 }
