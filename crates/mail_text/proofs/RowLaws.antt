-- With good settings the writer writes a row's text in a buffer that any row's text fits.
use Rattle.std.proofs.Common.{Ok, Err}
use mathlib.Core.Path.{◌≡◌, refl, ap, ◌∙◌}
use mathlib.Core.Bool.{true}
use mathlib.Core.List.{List, ◌++◌}
use Prim.Native.Nat.{ℕ, ◌≤◌}
use native.Mathlib.Omega.{arith}
use lib.ListN.{length, length-append}
use lib.Seq.{take-append_seam}
use borrow.Author.Tests.{eq-eqb, le-leb}
use Rattle.memory.specs.declared.Refusal.{Refusal}
use Rattle.settings.specs.declared.Settings.{Settings}
use Rattle.settings.specs.Good.{good}
use Rattle.lines.specs.Lines.{Line}
use Rattle.mail.specs.Mail.{mail_text}
use Rattle.mail.specs.Write.{Mailed, mailed, onto, write_mail}
use Rattle.mail.proofs.Longest.{text-length}

in-front : (line past : List ℕ) {n : ℕ} {buffer : List ℕ} → n ≡ length line → buffer ≡ line ++ past → Line line n buffer
in-front line past count whole = rw (count, whole, take-append_seam line past) (omega (arith, length-append line past), refl, refl)

module _ (σ : Settings) (cells buffer : List ℕ) (g : good σ ≡ true) (l : length cells ≡ 132) (long : 1593 ≤ length buffer) where
  written : write_mail σ cells buffer ≡ mailed (Ok (length (mail_text σ cells))) (onto (mail_text σ cells) buffer)
  unfolding write_mail
  written =
      let most = text-length σ cells g l in
      rw (eq-eqb (length cells) 132 l, g, le-leb (length (mail_text σ cells)) (length buffer) (omega arith))

  pub never-refused : {r : Refusal} {new : List ℕ} → mailed (Err r) new ≡ write_mail σ cells buffer → ⊥
  never-refused e =
      let f = ap (λ (x : Mailed). x.answer) (e ∙ written) in
      let q : ◌≡◌ {A = ℕ} 0 1 = cc in
      omega arith

  pub row_line : {n : ℕ} {new : List ℕ} → mailed (Ok n) new ≡ write_mail σ cells buffer → Line (mail_text σ cells) n new
  row_line {n} {new} e =
      let f = ap (λ (x : Mailed). x.answer) (e ∙ written) in
      let count : n ≡ length (mail_text σ cells) = cc in
      in-front (mail_text σ cells) _ count (ap (λ (x : Mailed). x.buffer) (e ∙ written))
