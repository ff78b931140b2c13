-- Document 01, "Settings and memory", and document 02, §5: when settings are good.
use Rattle.std.specs.Prelude.{ℕ, ◌-◌, ◌%◌, ◌<◌, ◌≤◌, Bool, true, ◌&&◌, ltb, leb, eqb}
use Rattle.std.specs.Int.Bits.{bit_and}
use Rattle.memory.specs.Word.{when◌then◌else◌, high, low}
use Rattle.memory.specs.Reading.{Reading, ◌>>◌, check}
use Rattle.settings.specs.declared.Interlace.{Interlace}
use Rattle.settings.specs.declared.Interlace.TheVariants.{Progressive, RepeatField, Video}
use Rattle.settings.specs.declared.Edition.{Edition}
use Rattle.settings.specs.declared.Edition.TheVariants.{Am8052, Z8052}
use Rattle.settings.specs.declared.Settings.{Settings}

-- "interlace 0 none 1 RFI 2 IV": document 01's number of each mode
abbrev pub interlace_number : Interlace → ℕ
interlace_number Progressive = 0
interlace_number RepeatField = 1
interlace_number Video = 2

-- the mode of such a number; past 2 there is none, and who reads the number refuses it
abbrev pub interlace_of : ℕ → Interlace
interlace_of n = when eqb n 0 then Progressive else when eqb n 1 then RepeatField else Video

-- edition 0 Am8052 1 Z8052; past 1 there is none, and who reads the number refuses it
abbrev pub edition_of : ℕ → Edition
edition_of n = when eqb n 0 then Am8052 else Z8052

-- "VSW and VSD 0..63; VAL and VTOT 0..4095; HSYNC 0..255; HSD 0..511; HTC and HTD 0..1023"
abbrev pub in_range : Settings → Bool
in_range σ =
    leb σ.vsw 63 && leb σ.vsd 63 && leb σ.val 4095 && leb σ.vtot 4095
    && leb σ.hsync 255 && leb σ.hsd 511 && leb σ.htc 1023 && leb σ.htd 1023

-- "HTD - HSD, the shown columns"
abbrev pub shown_columns : Settings → ℕ
shown_columns σ = σ.htd - σ.hsd

-- "VSD < VAL <= VTOT, HSYNC < HTC, HSD < HTD <= HTC, and HTD - HSD, the shown columns, is at most 132"
abbrev pub in_order : Settings → Bool
in_order σ =
    ltb σ.vsd σ.val && leb σ.val σ.vtot
    && ltb σ.hsync σ.htc && ltb σ.hsd σ.htd && leb σ.htd σ.htc && leb (shown_columns σ) 132

abbrev pub odd : ℕ → Bool
odd n = eqb (n % 2) 1

abbrev pub even : ℕ → Bool
even n = eqb (n % 2) 0

-- "In RFI and IV also VSW, VSD, VAL odd and VTOT even (000), and HTC odd (ours)."
abbrev pub fits_fields : Settings → Bool
fits_fields σ = odd σ.vsw && odd σ.vsd && odd σ.val && even σ.vtot && odd σ.htc

abbrev pub fits_mode : Interlace → Settings → Bool
fits_mode Progressive σ = true
fits_mode RepeatField σ = fits_fields σ
fits_mode Video σ = fits_fields σ

-- 02, of the Z8052: "By 003's notes, flag bits outside the mask, and an even HTD when interlaced, are errors." The first note, which
-- knows no mode: "When a mask-bit is set to 0, the corresponding value-bit must be 0."
abbrev pub fits_mask : ℕ → Bool
fits_mask flag = eqb (bit_and (low flag) (high flag)) (low flag)

abbrev pub fits_display : Interlace → ℕ → Bool
fits_display Progressive htd = true
fits_display RepeatField htd = odd htd
fits_display Video htd = odd htd

-- "both join 2 in this edition"
abbrev pub fits_edition : Edition → Settings → Bool
fits_edition Am8052 σ = true
fits_edition Z8052 σ = fits_mask σ.flag && fits_display σ.interlace σ.htd

unfoldable pub good : Settings → Bool
good σ = in_range σ && in_order σ && fits_mode σ.interlace σ && fits_edition σ.edition σ

-- the checks on settings that a start, a row, an effect and a shift call begin with. Refusal 2: "settings not good"; 02: "17, segmented in a
-- start, row, effect or shift call, just after 2"
unfoldable pub check_settings : Settings → Reading (Unit {0})
check_settings σ = do
  check 2 (good σ)
  check 17 σ.linear

-- facts on numbers that good settings give, as far as the sheet's sums need them
pub record Ordered (σ : Settings) : Type 0 where
  pub vsw-range : σ.vsw ≤ 63
  pub vsd-range : σ.vsd ≤ 63
  pub vtot-range : σ.vtot ≤ 4095
  pub htc-range : σ.htc ≤ 1023
  pub vsd-val : σ.vsd < σ.val
  pub val-vtot : σ.val ≤ σ.vtot
  pub hsync-htc : σ.hsync < σ.htc
  pub hsd-htd : σ.hsd < σ.htd
  pub htd-htc : σ.htd ≤ σ.htc
  pub columns : shown_columns σ ≤ 132
