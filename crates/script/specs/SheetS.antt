-- Document 01, "Script of sheet S", and some scripts that are refused: computed by the definitions.
use Rattle.std.specs.Prelude.{◌≡◌, ℕ, ◌+◌, ◌/◌, ◌%◌, true, false, List, [], ◌∷◌, ◌++◌, take, drop, refl}
use Rattle.std.proofs.Math.Option.{Option, none, some}
use Rattle.settings.specs.declared.Edition.TheVariants.{Am8052}
use Rattle.settings.specs.declared.Interlace.TheVariants.{Progressive}
use Rattle.settings.specs.declared.Settings.{Settings}
use Rattle.script.specs.Records.{switched, registered, accepted, settings_after, memory_after}
use Rattle.script.specs.Script.{Outcome, drawn, refused_at, unset, number_from, records, script}

-- records
unfoldable pub register : ℕ → ℕ → List ℕ
register r v = 1 ∷ r ∷ v / 256 ∷ v % 256 ∷ []

unfoldable pub words : ℕ → List ℕ → List ℕ
words a [] = []
words a (w ∷ ws) = (2 ∷ 0 ∷ a / 256 ∷ a % 256 ∷ w / 256 ∷ w % 256 ∷ []) ++ words (a + 2) ws

-- "switches 11h; registers 08 = 8080, .."
unfoldable pub records_s : List ℕ
records_s =
    (3 ∷ 0x11 ∷ [])
    ++ register 0x08 0x8080 ++ register 0x0a 0x0010 ++ register 0x12 0x0010 ++ register 0x13 0x0014
    ++ register 0x16 0x0001 ++ register 0x17 0x0007 ++ register 0x18 0x0005
    ++ words 0x10 (0 ∷ 0x20 ∷ 0x100 ∷ 0x20 ∷ 0 ∷ 0 ∷ 7 ∷ []) ++ words 0x20 (0 ∷ 0x30 ∷ 1 ∷ 0 ∷ 0x60 ∷ 0 ∷ 0x70 ∷ 0x403 ∷ [])
    ++ words 0x60 (0x4180 ∷ 0x4281 ∷ []) ++ words 0x70 (0x2000 ∷ 0x8002 ∷ [])

-- "draw"
abbrev pub script_s : List ℕ
script_s = records_s ++ (0 ∷ [])

pub settings_s : Settings
settings_s = record {
  linear = true;
  hidden = false;
  interlace = Progressive;
  cursor = true;
  flag = 0x8080;
  top = record { first = 0; second = 0x10 };
  tow = record { first = 0; second = 0 };
  vsw = 0;
  vsd = 0;
  val = 16;
  vtot = 20;
  hsync = 0;
  hsd = 1;
  htc = 7;
  htd = 5;
  edition = Am8052;
}

-- what a script sets, if it draws: its settings and the first seven words of S's main block
pub record Set : Type 0 where
  pub settings : Settings
  pub main : List ℕ

abbrev pub sets : Outcome → Option Set
sets (drawn σ m) = some (record { settings = σ; main = take 7 (drop 8 m) })
sets (refused_at n) = none

pub script-s : sets (script script_s) ≡ some (record { settings = settings_s; main = 0 ∷ 0x20 ∷ 0x100 ∷ 0x20 ∷ 0 ∷ 0 ∷ 7 ∷ [] })
unfolding register words records_s settings_s switched registered accepted settings_after memory_after unset number_from records script
script-s = refl

-- refused: no byte; a record cut short, good so far or not; register 19; an unknown kind; an odd address, one past memory; interlace 3
pub refused-scripts :
    (script [] ≡ refused_at 0)
    × (script (3 ∷ []) ≡ refused_at 1)
    × (script (3 ∷ 0 ∷ 1 ∷ 0x19 ∷ 0 ∷ []) ≡ refused_at 5)
    × (script (3 ∷ 0 ∷ 1 ∷ 0x19 ∷ 0 ∷ 0 ∷ []) ≡ refused_at 2)
    × (script (3 ∷ 0 ∷ 4 ∷ []) ≡ refused_at 2)
    × (script (2 ∷ 0 ∷ 0 ∷ 1 ∷ 0 ∷ 0 ∷ 0 ∷ []) ≡ refused_at 0)
    × (script (2 ∷ 0 ∷ 0x80 ∷ 0 ∷ 0 ∷ 0 ∷ 0 ∷ []) ≡ refused_at 0)
    × (script (3 ∷ 0x0c ∷ 0 ∷ []) ≡ refused_at 0)
unfolding switched registered accepted settings_after memory_after unset number_from records script
refused-scripts = (refl, refl, refl, refl, refl, refl, refl, refl)
