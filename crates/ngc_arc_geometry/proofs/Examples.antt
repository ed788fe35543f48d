-- Worked arcs, by evaluating the definitions.
use Rattle.std.proofs.Common.{◌≡◌, ℤ, pos, negsuc, Some, None, Ok, Err, true, refl}
use Rattle.ngc_fixed_length.specs.Roots.{whole_root, whole_root_above}
use Rattle.ngc_fixed_length.specs.declared.modes.Plane.{Plane}
use Rattle.ngc_fixed_length.specs.declared.modes.Plane.TheVariants.{XY, ZX}
use Rattle.ngc_fixed_length.specs.declared.modes.Turn.{Turn}
use Rattle.ngc_fixed_length.specs.declared.modes.Turn.TheVariants.{Clockwise}
use Rattle.ngc_fixed_length.specs.declared.units.Units.TheVariants.{Millimetres}
use Rattle.ngc_fixed_length.specs.declared.points.Point2.{Point2}
use Rattle.ngc_fixed_length.specs.declared.points.Point3.{Point3}
use Rattle.ngc_fixed_length.specs.declared.points.StepPos.{StepPos}
use Rattle.ngc_arc_geometry.specs.declared.given.Ends.{Ends}
use Rattle.ngc_arc_geometry.specs.declared.given.Offsets.{Offsets}
use Rattle.ngc_arc_geometry.specs.declared.fault.ArcFault.TheVariants.{RadiiDiffer, RadiusTooSmall, RadiusOutOfRange}
use Rattle.ngc_arc_geometry.specs.Centre.{centre_format, radius_format, arc_about}
use Rattle.ngc_arc_geometry.specs.Swept.{swept_low, swept_high}

abbrev point : ℤ → ℤ → ℤ → Point3
point x y z = record { x = x; y = y; z = z }

abbrev place : ℤ → ℤ → Point2
place u v = record { u = u; v = v }

abbrev corner : ℤ → ℤ → ℤ → StepPos
corner x y z = record { x = x; y = y; z = z }

abbrev ends : Plane → Turn → Point3 → Point3 → Ends
ends plane turn start end = record { plane = plane; turn = turn; start = start; end = end; has_axis_word = true }

abbrev offsets : ℤ → ℤ → Offsets
offsets u v = record { u = Some u; v = Some v }

abbrev half : ℤ → Ends
half x = ends XY Clockwise (point (pos 0) (pos 0) (pos 0)) (point x (pos 0) (pos 0))

-- a half circle of radius 5 mm, and its swept box at a step of 10 µm
half_circle : centre_format Millimetres (half (pos 10000000)) (offsets (pos 5000000) (pos 0))
    ≡ Ok (arc_about (half (pos 10000000)) (place (pos 5000000) (pos 0)))
half_circle = refl

half_low : swept_low (pos 10000) (arc_about (half (pos 10000000)) (place (pos 5000000) (pos 0))) ≡ corner (negsuc 1) (negsuc 1) (pos 0)
unfolding whole_root whole_root_above
half_low = refl

half_high : swept_high (pos 10000) (arc_about (half (pos 10000000)) (place (pos 5000000) (pos 0))) ≡ corner (pos 1002) (pos 502) (pos 0)
unfolding whole_root whole_root_above
half_high = refl

-- an end that is 2 µm farther from the centre is accepted, one that is 3 µm farther is not
two_farther : centre_format Millimetres (half (pos 10002000)) (offsets (pos 5000000) (pos 0))
    ≡ Ok (arc_about (half (pos 10002000)) (place (pos 5000000) (pos 0)))
two_farther = refl

-- the radii are 5 mm and 5.003 mm
three_farther : centre_format Millimetres (half (pos 10003000)) (offsets (pos 5000000) (pos 0)) ≡ Err (RadiiDiffer 5000000 5003000)
unfolding whole_root
three_farther = refl

abbrev quarter : Ends
quarter = ends XY Clockwise (point (pos 0) (pos 0) (pos 0)) (point (pos 10000000) (pos 10000000) (pos 0))

-- a radius above 0 selects the short arc, one below 0 the long arc
long_way : radius_format Millimetres quarter (negsuc 9999999) ≡ Ok (arc_about quarter (place (pos 0) (pos 10000000)))
unfolding whole_root
long_way = refl

short_way : radius_format Millimetres quarter (pos 10000000) ≡ Ok (arc_about quarter (place (pos 10000000) (pos 0)))
unfolding whole_root
short_way = refl

-- half the chord is above 7.071 mm
too_small : radius_format Millimetres quarter (pos 7000000) ≡ Err RadiusTooSmall
too_small = refl

-- a half circle whose radius is shorter than half the chord by at most 2 µm
just_reached : radius_format Millimetres (half (pos 10000000)) (pos 4998000) ≡ Ok (arc_about (half (pos 10000000)) (place (pos 5000000) (pos 0)))
just_reached = refl

not_reached : radius_format Millimetres (half (pos 10000000)) (pos 4997999) ≡ Err RadiusTooSmall
not_reached = refl

-- the greatest radius
abbrev wide : Ends
wide = ends XY Clockwise (point (negsuc 999999999) (pos 0) (pos 0)) (point (pos 1000000000) (pos 0) (pos 0))

widest : radius_format Millimetres wide (pos 2000000000) ≡ Ok (arc_about wide (place (pos 0) (negsuc 1732050806)))
unfolding whole_root
widest = refl

widest_long : radius_format Millimetres wide (negsuc 1999999999) ≡ Ok (arc_about wide (place (pos 0) (pos 1732050807)))
unfolding whole_root
widest_long = refl

too_wide : radius_format Millimetres wide (pos 2000001000) ≡ Err RadiusOutOfRange
too_wide = refl

-- in the plane ZX, seen from positive Y
abbrev sideways : Ends
sideways = ends ZX Clockwise (point (pos 0) (pos 0) (pos 0)) (point (pos 0) (pos 0) (negsuc 9999999))

sideways_centre : centre_format Millimetres sideways (record { u = Some (negsuc 4999999); v = None }) ≡ Ok (arc_about sideways (place (negsuc 4999999) (pos 0)))
sideways_centre = refl

sideways_low : swept_low (pos 10000) (arc_about sideways (place (negsuc 4999999) (pos 0))) ≡ corner (negsuc 501) (pos 0) (negsuc 1001)
unfolding whole_root whole_root_above
sideways_low = refl

sideways_high : swept_high (pos 10000) (arc_about sideways (place (negsuc 4999999) (pos 0))) ≡ corner (pos 2) (pos 0) (pos 2)
unfolding whole_root whole_root_above
sideways_high = refl

-- a full circle of radius 30 mm
abbrev circle : Ends
circle = ends XY Clockwise (point (pos 10000000) (pos 50000000) (pos 0)) (point (pos 10000000) (pos 50000000) (pos 0))

circle_low : swept_low (pos 10000) (arc_about circle (place (pos 40000000) (pos 50000000))) ≡ corner (pos 998) (pos 1998) (pos 0)
unfolding whole_root whole_root_above
circle_low = refl

circle_high : swept_high (pos 10000) (arc_about circle (place (pos 40000000) (pos 50000000))) ≡ corner (pos 7002) (pos 8002) (pos 0)
unfolding whole_root whole_root_above
circle_high = refl
