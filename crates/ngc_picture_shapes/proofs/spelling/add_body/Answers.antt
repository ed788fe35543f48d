use Rattle.std.proofs.lemmas.List.{append_assoc}
use Rattle.ngc_picture_shapes.proofs.spelling.add_body.Goals as goal

pub returns : goal.returns
returns c =
    rw (c.add_area.ensures.text, c.add_text.ensures) (simp append_assoc)
