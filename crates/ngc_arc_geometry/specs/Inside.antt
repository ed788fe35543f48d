-- The fields of an arc that contracts see.
use Rattle.ngc_arc_geometry.specs.declared.arc.Arc.TheInside.{Inside}
use Rattle.ngc_arc_geometry.specs.Shape.{ArcShape}

abbrev pub shape_of : Inside → ArcShape
shape_of a =
    record { plane = a.plane; turn = a.turn; start = a.start; end = a.end; centre = a.centre }
