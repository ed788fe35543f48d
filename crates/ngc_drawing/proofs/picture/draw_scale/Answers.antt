use Rattle.ngc_drawing.proofs.picture.draw_scale.Goals as goal

pub returns-clause-drawn : goal.returns-clause-drawn
returns-clause-drawn g c = rw (c.scale_of-scale.ensures, c.unit_of-unit.ensures) at c.draw_all.ensures.drawn
