-- Document 02, "Mending damaged lists": "draws, and at each refusal sets one pointer's words to 0 and starts again from the same latch".
use Rattle.std.specs.Prelude.{ℕ, zero, suc, ◌+◌, ◌/◌, Bool, List, [], ◌∷◌, set, eqb}
use Rattle.memory.specs.Word.{when◌then◌else◌}
use Rattle.memory.specs.Address.{next_word}
use Rattle.settings.specs.declared.Settings.{Settings}
use Rattle.settings.specs.declared.PointerWords.{PointerWords}
use Rattle.blame.specs.declared.Place.{Place}
use Rattle.blame.specs.declared.Place.TheVariants.{Register, Memory}
use Rattle.mending.specs.declared.Change.{Change}
use Rattle.blame.specs.declared.Verdict.{Verdict}
use Rattle.mending.specs.declared.MendAnswer.{MendAnswer}
use Rattle.mending.specs.declared.MendAnswer.TheVariants.{Whole, Changed, Refused}
use Rattle.blame.specs.Blame.{first_word, second_word, verdict}

-- settings and memory with the words of the pointer at a place 0
abbrev pub with_tow : PointerWords → Settings → Settings
with_tow tow σ = record {
  linear = σ.linear;
  hidden = σ.hidden;
  interlace = σ.interlace;
  cursor = σ.cursor;
  flag = σ.flag;
  top = σ.top;
  tow = tow;
  vsw = σ.vsw;
  vsd = σ.vsd;
  val = σ.val;
  vtot = σ.vtot;
  hsync = σ.hsync;
  hsd = σ.hsd;
  htc = σ.htc;
  htd = σ.htd;
  edition = σ.edition;
}

unfoldable pub settings_after : Place → Settings → Settings
settings_after Register σ = with_tow (record { first = 0; second = 0 }) σ
settings_after (Memory a) σ = σ

unfoldable pub memory_after : Place → (linear : Bool) → List ℕ → List ℕ
memory_after Register linear m = m
memory_after (Memory a) linear m = set (set m (a / 2) 0) (next_word linear a / 2) 0

-- a change: the pointer, its old words and the refusal's number; its address is told, "0 for a register"
abbrev pub place_address : Place → ℕ
place_address Register = 0
place_address (Memory a) = a

abbrev pub change_of : Place → ℕ → Settings → List ℕ → Change
change_of p n σ m = record { place = p; first = first_word p σ m; second = second_word p σ m; number = n }

-- a step's answer, and what memory then holds
pub record Stepped : Type 0 where
  pub answer : MendAnswer
  pub memory : List ℕ

abbrev pub stepped : MendAnswer → List ℕ → Stepped
stepped answer memory = record { answer = answer; memory = memory }

abbrev pub by_verdict : Settings → List ℕ → Verdict → Stepped
by_verdict σ m Verdict.Whole = stepped Whole m
by_verdict σ m (Verdict.Blamed p n) = stepped (Changed (change_of p n σ m) (settings_after p σ)) (memory_after p σ.linear m)
by_verdict σ m (Verdict.Refused r) = stepped (Refused r) m

-- one step: a frame is drawn from a latch, and at a refusal that blames a pointer the pointer's words become 0
unfoldable pub mend_step : ℕ → Settings → List ℕ → Stepped
mend_step latch σ m = by_verdict σ m (verdict latch σ m)

-- what mending comes to: the changes, first to last, and the settings and the memory of the mended list
pub record Mended : Type 0 where
  pub changes : List Change
  pub settings : Settings
  pub memory : List ℕ

abbrev pub unchanged : Settings → List ℕ → Mended
unchanged σ m = record { changes = []; settings = σ; memory = m }

abbrev pub with_change : Change → Mended → Mended
with_change c d = record { changes = c ∷ d.changes; settings = d.settings; memory = d.memory }

-- by a step: `rest` mends what it leaves, "and starts again from the same latch"
abbrev pub by_answer : (Settings → List ℕ → Mended) → Settings → MendAnswer → List ℕ → Mended
by_answer rest σ Whole m = unchanged σ m
by_answer rest σ (Changed c σ₁) m = with_change c (rest σ₁ m)
by_answer rest σ (Refused r) m = unchanged σ m

abbrev pub by_step : (Settings → List ℕ → Mended) → Settings → Stepped → Mended
by_step rest σ s = by_answer rest σ s.answer s.memory

-- n changes at most
unfoldable pub mended_within : ℕ → ℕ → Settings → List ℕ → Mended
mended_within zero latch σ m = unchanged σ m
mended_within (suc n) latch σ m = by_step (mended_within n latch) σ (mend_step latch σ m)

-- how many words are not 0
abbrev pub one : ℕ → ℕ
one w = when eqb w 0 then 0 else 1

unfoldable pub nonzero : List ℕ → ℕ
nonzero [] = 0
nonzero (w ∷ ws) = one w + nonzero ws

-- "nonzero words, registers counted": TOP's, TOW's and memory's
abbrev pub pointer_words : PointerWords → ℕ
pointer_words p = one p.first + one p.second

abbrev pub count : Settings → List ℕ → ℕ
count σ m = pointer_words σ.top + pointer_words σ.tow + nonzero m

-- "Each change leaves fewer nonzero words, registers counted": so as many changes as there are such words are enough (`Steps.mended-step`)
unfoldable pub mended : ℕ → Settings → List ℕ → Mended
mended latch σ m = mended_within (count σ m) latch σ m
