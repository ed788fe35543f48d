-- One text after the other.
use Rattle.std.proofs.lemmas.List.{append_assoc}
use Rattle.ngc_picture_shapes.proofs.spelling.add_home.Goals as goal

pub returns-clause-text : goal.returns-clause-text
returns-clause-text c = rw (c.add_text-2.ensures, c.add_lines.ensures.text, c.add_text.ensures) (simp append_assoc)
