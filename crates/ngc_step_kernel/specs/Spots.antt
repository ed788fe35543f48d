-- Grid points of a plane, and moves between them.
use Rattle.std.specs.Prelude.{ℕ, ◌≤◌, min, max, ℤ, ◌+ℤ◌, int_lt, if◌then◌else◌, unsigned_abs}
use Rattle.ngc_fixed_length.specs.Grid.{distance}
use Rattle.ngc_circle_walk.specs.declared.spoke.Quadrant.{Quadrant}
use Rattle.ngc_circle_walk.specs.declared.spoke.Quadrant.TheVariants.{First, Second, Third, Fourth}
use Rattle.ngc_circle_walk.specs.declared.spoke.Roll.{Roll}
use Rattle.ngc_circle_walk.specs.declared.spoke.Roll.TheVariants.{Outward, Diagonal, Inward, Over}
use Rattle.ngc_step_kernel.specs.declared.moves.AxisMove.{AxisMove}
use Rattle.ngc_step_kernel.specs.declared.moves.AxisMove.TheVariants.{Back, Stay, Forward}
use Rattle.ngc_step_kernel.specs.declared.spot.PlaneMove.{PlaneMove}
use Rattle.ngc_step_kernel.specs.declared.spot.Spot.{Spot}
use Rattle.ngc_step_kernel.specs.Line.{toward}
use Rattle.ngc_step_kernel.specs.Move.{steps_of}

-- within the range of lengths
pub record IsSpot (p : Spot) : Type 0 where
  pub u : unsigned_abs p.u ≤ 200000000
  pub v : unsigned_abs p.v ≤ 200000000

abbrev pub opposite : AxisMove → AxisMove
opposite Back = Forward
opposite Stay = Stay
opposite Forward = Back

-- one step from a towards b, none if they are equal
abbrev pub axis_towards : ℤ → ℤ → AxisMove
axis_towards a b = if int_lt a b then Forward else (if int_lt b a then Back else Stay)

abbrev pub spot_towards : Spot → Spot → PlaneMove
spot_towards p q = record { u = axis_towards p.u q.u; v = axis_towards p.v q.v }

abbrev pub spot_moved : Spot → PlaneMove → Spot
spot_moved p m = record { u = p.u +ℤ steps_of m.u; v = p.v +ℤ steps_of m.v }

-- a wheel's move along the half axis on which its quadrant begins, and along the next one
abbrev pub along : Roll → AxisMove
along Outward = Stay
along Diagonal = Back
along Inward = Back
along Over = Back

abbrev pub across : Roll → AxisMove
across Outward = Forward
across Diagonal = Forward
across Inward = Stay
across Over = Stay

abbrev pub roll_move : Roll → Quadrant → PlaneMove
roll_move r First = record { u = along r; v = across r }
roll_move r Second = record { u = opposite (across r); v = along r }
roll_move r Third = record { u = opposite (along r); v = opposite (across r) }
roll_move r Fourth = record { u = across r; v = opposite (along r) }

-- the number of moves straight from p to q, and the point to which k of them lead: diagonal first,
-- then along one axis
abbrev pub straight_moves : Spot → Spot → ℕ
straight_moves p q = max (distance p.u q.u) (distance p.v q.v)

abbrev pub straight_place : ℤ → ℤ → ℕ → ℤ
straight_place a b k = toward a b (min k (distance a b))

abbrev pub straight_at : Spot → Spot → ℕ → Spot
straight_at p q k = record { u = straight_place p.u q.u k; v = straight_place p.v q.v k }
