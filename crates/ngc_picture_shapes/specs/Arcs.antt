-- Where arcs are seen. Our own.
use Rattle.std.specs.Prelude.{List, [], ◌∷◌, ◌++◌, map}
use Rattle.ngc_fixed_length.specs.Places.{at_height, height}
use Rattle.ngc_fixed_length.specs.declared.points.Point2.{Point2}
use Rattle.ngc_fixed_length.specs.declared.points.Point3.{Point3}
use Rattle.ngc_arc_geometry.specs.Shape.{ArcShape}
use Rattle.ngc_arc_geometry.specs.Sector.{extremes}
use Rattle.ngc_picture_shapes.specs.declared.spot.Spot.{Spot}
use Rattle.ngc_picture_shapes.specs.declared.eye.Eye.{Eye}
use Rattle.ngc_picture_shapes.specs.Helices.{helix_points}
use Rattle.ngc_picture_shapes.specs.Views.{tip_spot}
use Rattle.ngc_picture_shapes.specs.declared.view.View.{View}
use Rattle.ngc_picture_shapes.specs.declared.view.View.TheVariants.{Iso}

-- the points of a circle where it crosses the axes through its centre, if the arc reaches them, at
-- the height of its start
abbrev pub extreme_point : ArcShape → Point2 → Point3
extreme_point arc p = at_height arc.plane p (height arc.plane arc.start)

-- those, and the arc's end, each where the tip of the tool is then
abbrev pub corner_spots : Eye → ArcShape → List Spot
corner_spots eye arc =
    map (λ p. tip_spot eye (extreme_point arc p)) (extremes arc) ++ tip_spot eye arc.end ∷ []

-- the spots by which the picture's size is found: those, and in the isometric view the points by
-- which the arc is drawn
abbrev pub spots_seen : View → Eye → ArcShape → List Spot
spots_seen Iso eye arc = map (tip_spot eye) (helix_points arc)
spots_seen _ eye arc = corner_spots eye arc
