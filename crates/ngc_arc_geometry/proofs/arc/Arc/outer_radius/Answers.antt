use Rattle.ngc_arc_geometry.proofs.arc.Arc.outer_radius.Goals as goal

pub returns-clause-bound : goal.returns-clause-bound
returns-clause-bound c = c.root_ceil.ensures.least 2000020000 c.squared_radii.ensures.bound
