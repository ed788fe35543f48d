use Rattle.ngc_drawing.proofs.picture.draw_opening.Goals as goal

pub returns-clause-drawn : goal.returns-clause-drawn
returns-clause-drawn g c = rw (c.unit_of-unit.ensures, c.as_slice.ensures.value, c.opening-shapes.ensures) at c.draw_all.ensures.drawn
