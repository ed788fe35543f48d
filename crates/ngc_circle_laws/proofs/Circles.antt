-- A full walk, by evaluation: a circle of radius eight steps, clockwise, 44 moves.
use Rattle.std.proofs.Common.{◌≡◌, pos, negsuc, [], ◌∷◌, inl, inr, refl, arith}
use Rattle.ngc_fixed_length.specs.Roots.{whole_root, whole_root_above}
use Rattle.ngc_fixed_length.specs.declared.modes.Plane.TheVariants.{XY}
use Rattle.ngc_fixed_length.specs.declared.modes.Turn.TheVariants.{Clockwise}
use Rattle.ngc_circle_walk.specs.declared.spoke.Quadrant.TheVariants.{First}
use Rattle.ngc_circle_walk.specs.declared.spoke.Spoke.{Spoke}
use Rattle.ngc_arc_geometry.specs.Shape.{ArcShape}
use Rattle.ngc_arc_geometry.specs.Sector.{extremes}
use Rattle.ngc_circle_laws.specs.Placed.{placed}
use Rattle.ngc_circle_laws.specs.ArcWalk.{IsArcWalk}
use Rattle.ngc_circle_walk.specs.Rolling.{spoke_at, quadrant_at}
use Rattle.ngc_circle_walk.proofs.Wheeling.{wheel_rolls}

abbrev circle : ArcShape
circle = record {
  plane = XY;
  turn = Clockwise;
  start = record { x = pos 4000; y = pos 0; z = pos 0 };
  end = record { x = pos 4000; y = pos 0; z = pos 0 };
  centre = record { u = pos 0; v = pos 0 };
}

abbrev east : Spoke
east = record { quadrant = First; x = 4000; y = 0 }

all_round : IsArcWalk circle 500 4000 44 (spoke_at 500 17640000 east) (quadrant_at 500 17640000 east) east east 0 4
unfolding whole_root whole_root_above spoke_at quadrant_at
all_round = record {
  step = omega arith;
  large = omega arith;
  walk = record {
    start = refl;
    end = refl;
    start_out = omega arith;
    end_out = omega arith;
    some_step = omega arith;
    room = omega arith;
    rolling = wheel_rolls 500 17640000 east 44;
    some_place = omega arith;
    begins = refl;
    past_start = omega arith;
    to_end = refl;
    turn = omega arith;
    before_end = inl (omega arith);
  };
  below = record { all = omega arith; by_axis = λ h. absurd (omega (arith, h)) };
  above = record { all = omega arith; by_axis = λ h. absurd (omega (arith, h)) };
  inside = omega arith;
  outside = omega arith;
  soon = omega arith;
  beside = λ _. omega arith;
  ends = inr (refl, omega arith);
}

four : extremes circle ≡ placed circle (record { quadrant = First; x = 4000; y = 0 }) ∷ record { u = pos 0; v = negsuc 3999 }
    ∷ record { u = negsuc 3999; v = pos 0 } ∷ record { u = pos 0; v = pos 4000 } ∷ []
unfolding whole_root whole_root_above
four = refl
