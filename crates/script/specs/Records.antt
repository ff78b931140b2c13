-- Document 01, "The draw program": what a record of a script does to settings and memory, and which records are refused.
-- A record's body is one number, "high byte first".
use Rattle.std.specs.Prelude.{ℕ, ◌/◌, ◌%◌, Bool, not, ◌&&◌, List, ◌==◌, nat_le, nat_lt, slice_set}
use Rattle.memory.specs.Word.{when◌then◌else◌, bit}
use Rattle.settings.specs.declared.Settings.{Settings}
use Rattle.settings.specs.Good.{interlace_of}

-- a choice by the kind of a record that has a body: 1, 2 or 3
abbrev pub by_kind : {A : Type 0} → ℕ → A → A → A → A
by_kind kind register word switches = when kind == 1 then register else when kind == 2 then word else switches

-- "1: register address, value (3). 2: byte address, word (5). 3: switches (1)"
abbrev pub body_length : ℕ → ℕ
body_length kind = by_kind kind 3 5 1

-- the register address or byte address of a body, and the value or word after it
abbrev pub address : ℕ → ℕ
address body = body / 65536

abbrev pub value : ℕ → ℕ
value body = body % 65536

-- "bit 0 linear, 1 DH, 3..2 interlace 0 none 1 RFI 2 IV, 4 cursor"
abbrev pub interlace_bits : ℕ → ℕ
interlace_bits switches = switches / 4 % 4

unfoldable pub switched : ℕ → Settings → Settings
switched switches σ = record {
  linear = bit 0 switches;
  hidden = bit 1 switches;
  interlace = interlace_of (interlace_bits switches);
  cursor = bit 4 switches;
  flag = σ.flag;
  top = σ.top;
  tow = σ.tow;
  vsw = σ.vsw;
  vsd = σ.vsd;
  val = σ.val;
  vtot = σ.vtot;
  hsync = σ.hsync;
  hsd = σ.hsd;
  htc = σ.htc;
  htd = σ.htd;
  edition = σ.edition;
}

-- "Register addresses are 003's; each field is the low bits its range needs (HSYNC in 14h, VSW in 11h), VSD bits 11..6 of
-- 11h; other bits, switches and registers are ignored." 003's summary: 08 attribute flag, 09 and 0A top of page hard, 0B and
-- 0C top of window hard, 12 vertical active lines, 13 vertical total lines, 16 H scan delay, 17 H total count, 18 H total display
unfoldable pub registered : ℕ → ℕ → Settings → Settings
registered register v σ = record {
  linear = σ.linear;
  hidden = σ.hidden;
  interlace = σ.interlace;
  cursor = σ.cursor;
  flag = when register == 0x08 then v else σ.flag;
  top = record {
    first = when register == 0x09 then v else σ.top.first;
    second = when register == 0x0a then v else σ.top.second;
  };
  tow = record {
    first = when register == 0x0b then v else σ.tow.first;
    second = when register == 0x0c then v else σ.tow.second;
  };
  vsw = when register == 0x11 then v % 64 else σ.vsw;
  vsd = when register == 0x11 then v / 64 % 64 else σ.vsd;
  val = when register == 0x12 then v % 4096 else σ.val;
  vtot = when register == 0x13 then v % 4096 else σ.vtot;
  hsync = when register == 0x14 then v % 256 else σ.hsync;
  hsd = when register == 0x16 then v % 512 else σ.hsd;
  htc = when register == 0x17 then v % 1024 else σ.htc;
  htd = when register == 0x18 then v % 1024 else σ.htd;
  edition = σ.edition;
}

-- "An unknown kind, register above 18h, odd address or one past memory, or interlace 3 prints `refused script at N`"; "Memory
-- is 16,384 words." An unknown kind has no body: see `Script.records`.
unfoldable pub accepted : ℕ → ℕ → Bool
accepted kind body =
    by_kind kind (nat_le (address body) 0x18) (address body % 2 == 0 && nat_lt (address body / 2) 16384) (not (interlace_bits body == 3))

-- what an accepted record does to the settings, and what it does to memory
unfoldable pub settings_after : ℕ → ℕ → Settings → Settings
settings_after kind body σ = by_kind kind (registered (address body) (value body) σ) σ (switched body σ)

unfoldable pub memory_after : ℕ → ℕ → List ℕ → List ℕ
memory_after kind body m = by_kind kind m (slice_set m (address body / 2) (value body)) m
