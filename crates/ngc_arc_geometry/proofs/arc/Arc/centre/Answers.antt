use Rattle.ngc_arc_geometry.specs.Inside.{shape_of}
use Rattle.ngc_arc_geometry.proofs.ArcLemmas.{centre_u, centre_v}
use Rattle.ngc_arc_geometry.proofs.arc.Arc.centre.Goals as goal

pub returns-clause-u : goal.returns-clause-u
returns-clause-u c = centre_u (shape_of c.self.inside) c.self.invariant

pub returns-clause-v : goal.returns-clause-v
returns-clause-v c = centre_v (shape_of c.self.inside) c.self.invariant
