-- The worked pieces of a half circle, computed.
use Rattle.std.proofs.Common.{◌≡◌, refl, true, false, pos, negsuc}
use Rattle.ngc_fixed_length.specs.Roots.{root_of_digits, whole_root, whole_root_above}
use Rattle.ngc_fixed_length.specs.declared.modes.Plane.TheVariants.{XY}
use Rattle.ngc_fixed_length.specs.declared.modes.Turn.TheVariants.{Clockwise}
use Rattle.ngc_fixed_length.specs.declared.points.Point2.{Point2}
use Rattle.ngc_arc_geometry.specs.Shape.{ArcShape, start_of, end_of}
use Rattle.ngc_arc_geometry.specs.CutArc.{cut_follows, cut_box}

abbrev half : ArcShape
half = record {
  plane = XY;
  turn = Clockwise;
  start = record { x = pos 10000000; y = pos 50000000; z = pos 0 };
  end = record { x = pos 20000000; y = pos 50000000; z = pos 0 };
  centre = record { u = pos 15000000; v = pos 50000000 };
}

abbrev circle : ArcShape
circle = record {
  plane = XY;
  turn = Clockwise;
  start = record { x = pos 10000000; y = pos 50000000; z = pos 0 };
  end = record { x = pos 10000000; y = pos 50000000; z = pos 0 };
  centre = record { u = pos 15000000; v = pos 50000000 };
}

abbrev at : Point2
at = record { u = pos 15000000; v = pos 55000000 }

follows_first : cut_follows (pos 10000) half false (start_of half) at ≡ true
unfolding root_of_digits whole_root whole_root_above
follows_first = refl

follows_last : cut_follows (pos 10000) half true at (end_of half) ≡ true
unfolding root_of_digits whole_root whole_root_above
follows_last = refl

first_box : cut_box (pos 10000) half (start_of half) at ≡ record {
  low = record { x = pos 998; y = pos 4998; z = pos 0 };
  high = record { x = pos 1502; y = pos 5502; z = pos 0 };
}
unfolding root_of_digits whole_root whole_root_above
first_box = refl

a_step_out : cut_follows (pos 10000) half false (start_of half) (record { u = pos 15000000; v = pos 55010000 }) ≡ true
unfolding root_of_digits whole_root whole_root_above
a_step_out = refl

axis_distance : cut_follows (pos 10000) half false (start_of half) (record { u = pos 15000000; v = pos 55010001 }) ≡ false
unfolding root_of_digits whole_root whole_root_above
axis_distance = refl

two_quadrants : cut_follows (pos 10000) half true (record { u = pos 12000000; v = pos 54000000 }) (end_of half) ≡ false
unfolding root_of_digits whole_root whole_root_above
two_quadrants = refl

no_turn : cut_follows (pos 10000) half false at at ≡ false
unfolding root_of_digits whole_root whole_root_above
no_turn = refl

long_way : cut_follows (pos 10000) circle true (record { u = pos 12000000; v = pos 54000000 }) (end_of circle) ≡ false
unfolding root_of_digits whole_root whole_root_above
long_way = refl

far_cut : cut_follows (pos 10000) half false (start_of half) (record { u = pos 4000000000; v = negsuc 3999999999 }) ≡ false
unfolding root_of_digits whole_root whole_root_above
far_cut = refl
