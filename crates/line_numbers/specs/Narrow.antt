-- A line whose numbers fit 32 bits.
use Rattle.std.specs.Prelude.{ℕ, ◌<◌, Option, Some, None}
use Rattle.panel.specs.declared.Place.{Place}
use Rattle.panel.specs.declared.Background.{Background}
use Rattle.panel.specs.declared.Background.TheVariants.{Nothing, Row, Above}
use Rattle.panel.specs.declared.Line.{Line}

pub record Narrow (p : Place) : Type 0 where
  pub index : p.index < 4294967296
  pub line : p.line < 4294967296

abbrev pub NarrowPlaced : Option Place → Type 0
NarrowPlaced None = Unit
NarrowPlaced (Some p) = Narrow p

abbrev pub NarrowBackground : Background → Type 0
NarrowBackground Nothing = Unit
NarrowBackground (Row p) = Narrow p
NarrowBackground (Above p) = Narrow p

pub record NarrowLine (l : Line) : Type 0 where
  pub background : NarrowBackground l.background
  pub still : NarrowPlaced l.still
  pub lines : l.lines < 4294967296
