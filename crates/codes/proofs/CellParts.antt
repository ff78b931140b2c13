-- A cell's parts are read back as they were put in.
use mathlib.Core.Path.{◌≡◌}
use Prim.Native.Nat.{ℕ, ◌%◌, ◌<◌, ◌^◌}
use native.Mathlib.Omega.{arith}
use Rattle.codes.specs.declared.Source.{Source}
use Rattle.codes.specs.Attribute.{source_number, window_number, cell, code_of, attribute_of, source_of, window_number_of}

source-small : (source : Source) → source_number source < 4
unfolding source_number
source-small source = omega arith

module _ (source : Source) (attribute code : ℕ) (h : code < 256) where
  pub code-back : code_of (cell source attribute code) ≡ code
  unfolding cell
  code-back = omega arith

  pub attribute-back : attribute_of (cell source attribute code) ≡ attribute % 2 ^ 11
  unfolding cell
  attribute-back = omega arith

  pub source-back : source_of (cell source attribute code) ≡ source_number source
  unfolding cell
  source-back = omega (arith, source-small source)

  pub window-back : window_number_of (cell source attribute code) ≡ window_number source
  unfolding cell
  window-back = omega (arith, h, source-small source)
