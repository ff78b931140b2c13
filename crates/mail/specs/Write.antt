-- Document 02, §12: the writer call. "Refusals: 1 and 2; .. then 23, buffer too short, untouched. Places past what is written stay."
use Rattle.std.specs.Prelude.{ℕ, ◌≤◌, List, ◌++◌, length, drop, leb, eqb, Result, Ok, Err}
use Rattle.memory.specs.Word.{when◌then◌else◌}
use Rattle.memory.specs.Reading.{fault, refusal}
use Rattle.memory.specs.declared.Refusal.{Refusal}
use Rattle.settings.specs.declared.Settings.{Settings}
use Rattle.settings.specs.Good.{good}
use Rattle.mail.specs.Mail.{mail_text}

-- a call's answer, and what its buffer then holds
pub record Mailed : Type 0 where
  pub answer : Result ℕ Refusal
  pub buffer : List ℕ

abbrev pub mailed : Result ℕ Refusal → List ℕ → Mailed
mailed answer buffer = record { answer = answer; buffer = buffer }

-- every refusal has row 0 and address 0
abbrev pub refuse : ℕ → Result ℕ Refusal
refuse n = Err (refusal 0 (fault n))

-- a list at the front of a buffer: "Places past what is written stay."
abbrev pub onto : List ℕ → List ℕ → List ℕ
onto new buffer = new ++ drop (length new) buffer

-- 23: "buffer too short, untouched"
abbrev pub lending : List ℕ → List ℕ → Mailed
lending text buffer =
    when leb (length text) (length buffer) then mailed (Ok (length text)) (onto text buffer) else mailed (refuse 23) buffer

-- 1, a row of another number of cells than 132; 2, settings not good; 23
unfoldable pub write_mail : Settings → List ℕ → List ℕ → Mailed
write_mail σ cells buffer =
    when eqb (length cells) 132
    then (when good σ then lending (mail_text σ cells) buffer else mailed (refuse 2) buffer)
    else mailed (refuse 1) buffer

-- the longest text that a row can have (`Longest.text-length`), so that a console knows what to lend
abbrev pub FewBytes : Result ℕ Refusal → Type 0
FewBytes (Ok n) = n ≤ 1593
FewBytes (Err r) = 0 ≤ 1593
