-- Every accepted conversion keeps the frame: its settings were good and segmented, and the frame was followed to its end.
use Rattle.std.proofs.Common.{Ok}
use mathlib.Core.Path.{◌≡◌, refl, ap, ap₂, sym, subst, ◌∙◌}
use mathlib.Core.Bool.{Bool, true, false, ◌&&◌}
use mathlib.Core.List.{List}
use Prim.Native.Nat.{ℕ, ◌+◌}
use native.Mathlib.Omega.{arith}
use lib.ListN.{length, get_or}
use lib.Dec.{eqb}
use borrow.Author.Tests.{eq-eqb}
use Rattle.memory.specs.declared.Refusal.{Refusal}
use Rattle.memory.specs.Word.{when◌then◌else◌}
use Rattle.memory.specs.Reading.{fault, refusal}
use Rattle.memory.proofs.ReadBounds.{Words}
use Rattle.settings.specs.declared.Settings.{Settings}
use Rattle.settings.specs.declared.Interlace.{Interlace}
use Rattle.settings.specs.declared.Interlace.TheVariants.{Progressive, RepeatField, Video}
use Rattle.settings.specs.declared.Edition.{Edition}
use Rattle.settings.specs.declared.Edition.TheVariants.{Am8052, Z8052}
use Rattle.settings.specs.Good.{in_range, in_order, fits_mode, fits_edition, good}
use Rattle.frame.specs.Frame.{Frame, frame}
use Rattle.converter.specs.declared.Conversion.{Conversion}
use Rattle.converter.specs.Below.{frame_below, frame_read, frame_pointers}
use Rattle.converter.specs.Converter.{Followed, ended, stopped, follow, turned_first, turned, turned_memory, turned_settings, changes, register_changes, Called, kept, convert_by, convert_call}
use Rattle.converter.specs.Conversions.{is_read, Turns, Sixteen, AllTurn}
use Rattle.converter.proofs.Rows.{segmented}
use Rattle.converter.proofs.Walks.{turned-length, turned-word}
use Rattle.converter.proofs.Below.{frame_below_lem}
use Rattle.converter.proofs.Frames.{Parts, parts, frames-same, frames-drawn, frames-read}
use Rattle.converter.proofs.Unread.{frame-unread}
use Rattle.converter.proofs.FirstWords.{frame-first, frame-other}

segmented-same : (σ : Settings) → σ.linear ≡ false → segmented σ ≡ σ
segmented-same σ e = ap
    (λ (l : Bool). record {
      linear = l;
      hidden = σ.hidden;
      interlace = σ.interlace;
      cursor = σ.cursor;
      flag = σ.flag;
      top = σ.top;
      tow = σ.tow;
      vsw = σ.vsw;
      vsd = σ.vsd;
      val = σ.val;
      vtot = σ.vtot;
      hsync = σ.hsync;
      hsd = σ.hsd;
      htc = σ.htc;
      htd = σ.htd;
      edition = σ.edition;
    }) (sym e)

-- what settings are good does not look at what is turned
same-mode : (σ : Settings) (i : Interlace) → fits_mode i (turned_settings σ) ≡ fits_mode i σ
unfolding turned_settings
same-mode σ Progressive = refl
same-mode σ RepeatField = refl
same-mode σ Video = refl

same-edition : (σ : Settings) (e : Edition) → fits_edition e (turned_settings σ) ≡ fits_edition e σ
unfolding turned_settings
same-edition σ Am8052 = refl
same-edition σ Z8052 = refl

turned-good : (σ : Settings) → good (turned_settings σ) ≡ good σ
unfolding good turned_settings
turned-good σ = ap₂ (λ (x y : Bool). in_range σ && in_order σ && x && y) (same-mode σ σ.interlace) (same-edition σ σ.edition)

turned-linear : (σ : Settings) → (turned_settings σ).linear ≡ true
unfolding turned_settings
turned-linear σ = refl

-- a conversion of linear settings
pub linear-refused : (latch : ℕ) (σ : Settings) (m : List ℕ) → good σ ≡ true → σ.linear ≡ true
    → convert_call latch σ m (length m) ≡ kept m (refusal 0 (fault 26))
unfolding convert_call
linear-refused latch σ m g l = rw (eq-eqb (length m) (length m) refl, g, l)

-- what an accepted conversion has met, and what it gives
record Accepts (σ : Settings) (m : List ℕ) (g l : Bool) (f : Followed) (c : Conversion) (after : List ℕ) : Type 0 where
  fin : List ℕ
  good-settings : g ≡ true
  segmented-settings : l ≡ false
  followed : f ≡ ended fin
  settings : turned_settings σ ≡ c.settings
  memory : after ≡ turned_memory fin m
  pointers : c.pointers ≡ changes m (turned_memory fin m) + register_changes σ

module _ (σ : Settings) (m : List ℕ) where
  by-followed : (f : Followed) {c : Conversion} → (convert_by σ m f).answer ≡ Ok c → Accepts σ m true false f c (convert_by σ m f).memory
  unfolding convert_by
  by-followed (ended marks) {c} e =
      let same : record { settings = turned_settings σ; pointers = changes m (turned_memory marks m) + register_changes σ } ≡ c = cc in
      record { fin = marks; good-settings = refl; segmented-settings = refl; followed = refl; settings = ap (λ (x : Conversion). x.settings) same; memory = refl; pointers = ap (λ (x : Conversion). x.pointers) (sym same) }
  by-followed (stopped r) e = let q : ◌≡◌ {A = ℕ} 0 1 = cc in absurd (omega arith)

  by_tests : (t g l : Bool) (f : Followed) (x y z : Refusal) {c : Conversion}
      → (when t then (when g then (when l then kept m x else convert_by σ m f) else kept m y) else kept m z).answer ≡ Ok c
      → Accepts σ m g l f c (when t then (when g then (when l then kept m x else convert_by σ m f) else kept m y) else kept m z).memory
  by_tests true true false f x y z e = by-followed f e
  by_tests false g l f x y z e = let q : ◌≡◌ {A = ℕ} 0 1 = cc in absurd (omega arith)
  by_tests true false l f x y z e = let q : ◌≡◌ {A = ℕ} 0 1 = cc in absurd (omega arith)
  by_tests true true true f x y z e = let q : ◌≡◌ {A = ℕ} 0 1 = cc in absurd (omega arith)

  accepts : (latch marks : ℕ) {c : Conversion} → (convert_call latch σ m marks).answer ≡ Ok c
      → Accepts σ m (good σ) σ.linear (follow latch σ m) c (convert_call latch σ m marks).memory
  unfolding convert_call
  accepts latch marks e =
      by_tests (eqb marks (length m)) (good σ) σ.linear (follow latch σ m) (refusal 0 (fault 26)) (refusal 0 (fault 2)) (refusal 0 (fault 22)) e

-- a word of the memory after, by whether the first word of a pointer was read there
turned_by : (latch : ℕ) (σ : Settings) (m : List ℕ) (b : Words m) (fin : List ℕ) → Parts latch σ m b fin → (i : ℕ)
    → get_or (turned_memory fin m) i 0 ≡ (when is_read i (frame_pointers latch (segmented σ) m) then turned_first (get_or m i 0) else get_or m i 0)
turned_by latch σ m b fin x i = turned-word fin m i ∙ by_read (is_read i (frame_pointers latch (segmented σ) m)) refl
  where
    by_read : (t : Bool) → is_read i (frame_pointers latch (segmented σ) m) ≡ t
        → turned (get_or fin i 0) (get_or m i 0) ≡ (when t then turned_first (get_or m i 0) else get_or m i 0)
    by_read true h = ap (λ (k : ℕ). turned k (get_or m i 0)) (frame-first latch σ m b fin i x h)
    by_read false h = ap (λ (t : Bool). when t then turned_first (get_or m i 0) else get_or m i 0) (frame-other latch σ m b fin i x h)

-- the turn does not look at the mode
turned_same : (σ : Settings) → turned_settings σ ≡ turned_settings (segmented σ)
unfolding turned_settings
turned_same σ = refl

-- of settings that are segmented by their form
turns : (latch : ℕ) (σ : Settings) (m fin : List ℕ) → Sixteen σ m → good σ ≡ true → follow latch (segmented σ) m ≡ ended fin
    → (c : Conversion) → turned_settings σ ≡ c.settings → c.pointers ≡ changes m (turned_memory fin m) + register_changes σ
    → Turns latch (segmented σ) m (turned_memory fin m) c
turns latch σ m fin h g f c e n =
    let x = parts latch σ m h.0 fin f in
    let τ = turned_settings σ in
    let same : frame latch c.settings (turned_memory fin m) ≡ frame_below latch (segmented σ) m =
    ap (λ (τ : Settings). frame latch τ (turned_memory fin m)) (sym e) ∙ frame_below_lem τ (turned-good σ ∙ g) (turned-linear σ) latch (turned_memory fin m)
    ∙ frames-same latch σ m h.0 fin h.1 h.2 x in
    record {
      settings = sym e ∙ turned_same σ;
      same_frame = same;
      drawn = ap (λ (f : Frame). f.refusal) same ∙ frames-drawn latch σ m h.0 fin h.1 h.2 x;
      same_addresses = ap (λ (τ : Settings). frame_read latch τ (turned_memory fin m)) (sym e) ∙ frames-read latch σ m h.0 fin h.1 h.2 x;
      turned = turned_by latch σ m h.0 fin x;
      unread = λ i r. turned-word fin m i ∙ ap (λ (k : ℕ). turned k (get_or m i 0)) (frame-unread latch σ m h.0 fin i x r);
      size = turned-length fin m;
      counted = n;
      once = λ latch₂ m₂.
          ap (λ (τ : Settings). (convert_call latch₂ τ m₂ (length m₂)).answer) (sym e)
          ∙ ap (λ (r : Called). r.answer) (linear-refused latch₂ τ m₂ (turned-good σ ∙ g) (turned-linear σ));
    }

pub all-turn : AllTurn
all-turn latch σ m marks c h e =
    let a = accepts σ m latch marks e in
    let s = segmented-same σ a.segmented-settings in
    rw a.memory
    (subst (λ (ρ : Settings). Turns latch ρ m (turned_memory a.fin m) c) s
    (turns latch σ m a.fin h a.good-settings (rw s a.followed) c a.settings a.pointers))
