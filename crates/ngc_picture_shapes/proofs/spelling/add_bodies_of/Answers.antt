use Rattle.std.proofs.lemmas.List.{append_assoc}
use Rattle.ngc_picture_shapes.proofs.spelling.add_bodies_of.Goals as goal

pub returns : goal.returns
returns c =
    rw (c.add_text-3.ensures, c.add_text-2.ensures, c.colour.ensures.text, c.add_text.ensures) (simp append_assoc)
