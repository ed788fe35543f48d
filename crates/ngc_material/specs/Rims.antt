-- The parts of a tool above its cutter along the chords of an arc. Our own.
use Rattle.std.specs.Prelude.{ℕ, ◌≤◌, List}
use Rattle.ngc_fixed_length.specs.declared.points.Point2.{Point2}
use Rattle.ngc_machine_files.specs.declared.tools.Tool.{Tool}
use Rattle.ngc_arc_geometry.specs.Shape.{ArcShape}
use Rattle.ngc_cells.specs.Grids.{IsGrid}
use Rattle.ngc_stock.specs.declared.stock.Stock.{Stock}
use Rattle.ngc_stock.specs.Arcs.{AreChords}
use Rattle.ngc_stock.specs.Stocks.{sigma}
use Rattle.ngc_stock.specs.Walk.{AreClear}
use Rattle.ngc_material.specs.Chords.{IsBand, IsSector}
use Rattle.ngc_material.specs.Touches.{IsChordTouch}
use Rattle.ngc_material.specs.declared.chord.Band.{Band}
use Rattle.ngc_material.specs.declared.chord.Sector.{Sector}
use Rattle.ngc_material.specs.declared.rim.Stop.{Stop}
use Rattle.ngc_material.specs.declared.rim.Stop.TheVariants.{Touched, Lost}

-- what is to know of an arc along which parts are tested: its sector, and how far chords may be from its circles
pub record IsRim (s : Stock) (a : ArcShape) (sector : Sector) (b : Band) : Type 0 where
  pub grid : IsGrid s.grid
  pub turns : IsSector a sector
  pub near : IsBand a (sigma s.grid) b
  pub least : b.least ≤ 2000020000
  pub most : b.most ≤ 2400000000

-- the parts above the cutter are clear along some chords from d to e
abbrev pub AreChordsClear : Stock → Tool → ArcShape → List ℕ → Point2 → Point2 → Type 0
AreChordsClear s t a heights d e = (ms : List Point2) × AreChords a (sigma s.grid) (λ p q. AreClear s t p q heights) d ms e

abbrev pub IsStopped : Stock → Tool → ArcShape → List ℕ → Stop → Type 0
IsStopped s t a heights (Touched f) = IsChordTouch s t a heights f.part f.touch
IsStopped s t a heights Lost = Unit {0}
