use Rattle.std.proofs.lemmas.List.{append_assoc}
use Rattle.ngc_picture_shapes.specs.Spelling.{mark_text}
use Rattle.ngc_picture_shapes.proofs.spelling.add_mark.Goals as goal

pub returns-in-Axes-clause-text : goal.returns-in-Axes-clause-text
unfolding mark_text
returns-in-Axes-clause-text c =
    rw (c.in-Axes.is, c.add_text-in-Axes-3.ensures, c.add_text-in-Axes-2.ensures, c.axes.ensures.text, c.add_text-in-Axes.ensures, c.arrows.ensures.text) (simp append_assoc)

pub returns-in-Hole-clause-text : goal.returns-in-Hole-clause-text
unfolding mark_text
returns-in-Hole-clause-text c = rw (c.in-Hole.is, c.add_text.ensures)
