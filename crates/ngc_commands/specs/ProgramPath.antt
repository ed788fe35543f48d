-- The grid points through which a program may lead. Our own.
use Rattle.std.specs.Prelude.{◌≡◌, ℤ, List, [], ◌∷◌, ◌++◌}
use Rattle.ngc_fixed_length.specs.declared.points.StepPos.{StepPos}
use Rattle.ngc_fixed_length.specs.LinePath.{point, IsLinePath}
use Rattle.ngc_arc_geometry.specs.ArcPath.{IsArcPath}
use Rattle.ngc_commands.specs.declared.movement.Way.{Way}
use Rattle.ngc_commands.specs.declared.movement.Way.TheVariants.{Line, Arc}

-- the grid paths that a motion may take: those that follow its path
abbrev pub IsPathOf : ℤ → Way → List StepPos → Type 0
IsPathOf step (Line start end) path = IsLinePath step start end path
IsPathOf step (Arc arc) path = IsArcPath step arc path

-- one grid path for each path, in order, joined at their common ends, from the grid point p on
abbrev pub IsPathOfAll : ℤ → StepPos → List Way → List StepPos → Type 0
IsPathOfAll step p [] path = path ≡ p ∷ []
IsPathOfAll step p (w ∷ ws) path =
    (first : List StepPos) × (q : StepPos) × (rest : List StepPos) ×
    IsPathOf step w (first ++ q ∷ []) × (point (first ++ q ∷ []) 0 ≡ p) ×
    IsPathOfAll step q ws rest × (path ≡ first ++ rest)
