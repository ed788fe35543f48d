use Rattle.std.proofs.Common.{◌≡◌, ◌≤◌, ◌++◌, filter, drop, length}
use Rattle.ngc_arc_geometry.specs.Sector.{in_sector, extremes}
use Rattle.ngc_arc_geometry.proofs.arc.Arc.extremes.Given as goal

abbrev pub invariant-loop-point : goal.invariant-loop-point
invariant-loop-point l =
    (l.extremes.items ++ filter (in_sector l.self) (drop l.point-index l.point-items) ≡ extremes l.self) × (length l.extremes.items ≤ l.point-index)
