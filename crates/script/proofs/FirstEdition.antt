-- Document 02: "P7, P8 and the draw program are the first edition": no record of a script changes the edition, and without one it is Am8052.
use Rattle.std.proofs.Common.{◌≡◌, ℕ, eqb, List, refl}
use Rattle.memory.proofs.ReadBounds.{if-cases}
use Rattle.settings.specs.declared.Edition.TheVariants.{Am8052}
use Rattle.settings.specs.declared.Settings.{Settings}
use Rattle.script.specs.Records.{switched, registered, settings_after}
use Rattle.script.specs.Script.{unset, script}
use Rattle.script.proofs.Invariants.{Draws, script-draws}

abbrev pub First : Settings → List ℕ → Type 0
First σ m = σ.edition ≡ Am8052

kept : (kind body : ℕ) (σ : Settings) → (settings_after kind body σ).edition ≡ σ.edition
unfolding settings_after switched registered
kept kind body σ =
    if-cases (λ (s : Settings). s.edition ≡ σ.edition) (eqb kind 1) (λ _. refl)
    (λ _. if-cases (λ (s : Settings). s.edition ≡ σ.edition) (eqb kind 2) (λ _. refl) (λ _. refl))

pub first-edition : (bytes : List ℕ) → Draws First (script bytes)
unfolding unset
first-edition = script-draws First (λ kind body σ m e. rw (kept kind body σ) e) refl
