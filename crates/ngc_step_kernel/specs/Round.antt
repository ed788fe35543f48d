-- An arc's course, lifted to three axes: the moves of its plane and the steps of its height are
-- each distributed over all moves.
use Rattle.std.specs.Prelude.{◌≡◌, ℕ, ◌+◌, ◌*◌, ◌≤◌, ℤ, pos, neg_ℤ, List}
use Rattle.ngc_fixed_length.specs.declared.modes.Plane.{Plane}
use Rattle.ngc_fixed_length.specs.declared.modes.Plane.TheVariants.{XY, ZX, YZ}
use Rattle.ngc_fixed_length.specs.declared.modes.Turn.{Turn}
use Rattle.ngc_fixed_length.specs.declared.modes.Turn.TheVariants.{Counterclockwise, Clockwise}
use Rattle.ngc_fixed_length.specs.declared.points.StepPos.{StepPos}
use Rattle.ngc_fixed_length.specs.Rounding.{nearest_size}
use Rattle.ngc_step_kernel.specs.declared.line.Axis.{Axis}
use Rattle.ngc_step_kernel.specs.declared.moves.AxisMove.{AxisMove}
use Rattle.ngc_step_kernel.specs.declared.moves.AxisMove.TheVariants.{Back, Stay, Forward}
use Rattle.ngc_step_kernel.specs.declared.moves.Move.{Move}
use Rattle.ngc_step_kernel.specs.declared.plan.Plan.{Plan}
use Rattle.ngc_step_kernel.specs.declared.spot.PlaneMove.{PlaneMove}
use Rattle.ngc_step_kernel.specs.declared.spot.Spot.{Spot}
use Rattle.ngc_step_kernel.specs.Course.{course_at}
use Rattle.ngc_step_kernel.specs.Line.{line_place}
use Rattle.ngc_step_kernel.specs.LineState.{IsAxisAt}
use Rattle.ngc_step_kernel.specs.Spots.{opposite}
use Rattle.ngc_step_kernel.specs.Walk.{RootedWalk, listed}

-- a number along v in the direction of the arc: it is negated for a clockwise one
abbrev pub turned : Turn → ℤ → ℤ
turned Counterclockwise v = v
turned Clockwise v = neg_ℤ v

abbrev pub turned_move : Turn → AxisMove → AxisMove
turned_move Counterclockwise m = m
turned_move Clockwise m = opposite m

-- the grid point at this point of the plane and the height h
abbrev pub in_space : Plane → Turn → Spot → ℤ → StepPos
in_space XY t s h = record { x = s.u; y = turned t s.v; z = h }
in_space ZX t s h = record { x = turned t s.v; y = h; z = s.u }
in_space YZ t s h = record { x = h; y = s.u; z = turned t s.v }

abbrev pub move_in_space : Plane → Turn → PlaneMove → AxisMove → Move
move_in_space XY t m h = record { x = m.u; y = turned_move t m.v; z = h }
move_in_space ZX t m h = record { x = turned_move t m.v; y = h; z = m.u }
move_in_space YZ t m h = record { x = h; y = m.u; z = turned_move t m.v }

-- the same point, in the plane's coordinates
abbrev pub grid_point_in_plane : Plane → Turn → StepPos → Spot
grid_point_in_plane XY t p = record { u = p.x; v = turned t p.y }
grid_point_in_plane ZX t p = record { u = p.z; v = turned t p.x }
grid_point_in_plane YZ t p = record { u = p.y; v = turned t p.z }

abbrev pub seen_height : Plane → StepPos → ℤ
seen_height XY p = p.z
seen_height ZX p = p.y
seen_height YZ p = p.x

-- the number of moves of the course after k of n moves
abbrev pub course_place : ℕ → Plan → ℕ → ℕ
course_place n p k = nearest_size (k * p.moves) n

abbrev pub round_point : Plane → Turn → Plan → ℕ → ℤ → ℤ → ℕ → StepPos
round_point plane turn p n low high k =
    in_space plane turn (course_at p (course_place n p k)) (line_place n k low high)

-- points 0 to n
abbrev pub round_points : Plane → Turn → Plan → ℕ → ℤ → ℤ → List StepPos
round_points plane turn p n low high = listed n (round_point plane turn p n low high)

abbrev pub round_walk : Plane → Turn → Plan → ℕ → Axis → ℕ → ℕ → RootedWalk
round_walk plane turn p n height k roots =
    record {
      points = round_points plane turn p n height.start height.end;
      place = k;
      roots = roots;
    }

-- the number of moves of the course after a move of the axis that distributes them
abbrev pub followed : AxisMove → ℕ → ℕ
followed Back k = k
followed Stay k = k
followed Forward k = k + 1

-- the state of a path that follows a course: after k of n moves, j moves of the plane are made
pub record IsSpread (p : Plan) (j n k : ℕ) (a b : Axis) : Type 0 where
  pub done : k ≤ n
  pub few : n ≤ 400000000
  pub gone : j ≡ course_place n p k
  pub begins : a.start ≡ pos 0
  pub stops : a.end ≡ pos p.moves
  pub progress : IsAxisAt n k a
  pub height : IsAxisAt n k b
