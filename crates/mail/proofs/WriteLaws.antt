-- The writer call by its cases, from the text of the row in an array of its own.
use Rattle.std.proofs.Common.{Ok}
use mathlib.Core.Path.{◌≡◌, sym, ap, ◌∙◌}
use mathlib.Core.Bool.{true, false}
use mathlib.Core.List.{List, ◌++◌}
use Prim.Native.Nat.{ℕ, ◌≤◌, ◌<◌}
use native.Mathlib.Omega.{arith}
use lib.ListN.{length, take, drop, take-append-drop}
use lib.Seq.{length-take-le}
use borrow.Author.Tests.{eq-eqb, ne_eqb, le-leb, lt-leb}
use Rattle.settings.specs.declared.Settings.{Settings}
use Rattle.settings.specs.Good.{good}
use Rattle.mail.specs.Mail.{mail_text}
use Rattle.mail.specs.Write.{mailed, refuse, write_mail}
use Rattle.mail.specs.Answers.{Put}
use Rattle.mail.proofs.Longest.{text-length}

module _ (σ : Settings) (cells buffer : List ℕ) where
  pub other-count : (length cells ≡ 132 → ⊥) → mailed (refuse 1) buffer ≡ write_mail σ cells buffer
  unfolding write_mail
  other-count h = rw (ne_eqb (length cells) 132 h)

  pub not_good : length cells ≡ 132 → good σ ≡ false → mailed (refuse 2) buffer ≡ write_mail σ cells buffer
  unfolding write_mail
  not_good h g = rw (eq-eqb (length cells) 132 h, g)

  module _ (h : length cells ≡ 132) (g : good σ ≡ true) (row : List ℕ) (count : ℕ) (within : count ≤ length row)
      (e : take count row ≡ mail_text σ cells) where
    long : length (mail_text σ cells) ≡ count
    long = ap length (sym e) ∙ length-take-le count row within

    pub few_bytes : count ≤ 1593
    few_bytes = omega (arith, long, text-length σ cells g h)

    pub too_short : length buffer < count → mailed (refuse 23) buffer ≡ write_mail σ cells buffer
    unfolding write_mail
    too_short l =
        let n = long in
        rw (eq-eqb (length cells) 132 h, g, lt-leb (length (mail_text σ cells)) (length buffer) (omega arith))

    pub all-written : (end : ℕ) (new : List ℕ) → count ≤ length buffer → Put 0 (take count row) buffer end new
        → mailed (Ok count) new ≡ write_mail σ cells buffer
    unfolding write_mail
    all-written end new l p =
        let n = long in
        let at : end ≡ count = omega (arith, length-take-le count row within) in
        let whole : new ≡ mail_text σ cells ++ drop count buffer =
        sym (take-append-drop end new) ∙ rw (p.front, p.past, at, e) in
        rw (eq-eqb (length cells) 132 h, g, le-leb (length (mail_text σ cells)) (length buffer) (omega arith))
        (ap (mailed (Ok count)) whole ∙ ap (λ (k : ℕ). mailed (Ok k) (mail_text σ cells ++ drop k buffer)) (sym n))
