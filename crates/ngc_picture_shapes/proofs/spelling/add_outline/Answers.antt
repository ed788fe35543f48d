use Rattle.std.proofs.lemmas.List.{append_assoc}
use Rattle.ngc_picture_shapes.proofs.spelling.add_outline.Goals as goal

pub returns : goal.returns
returns c =
    rw (c.add_text-2.ensures, c.add_area.ensures.text, c.add_text.ensures, c.beginning.ensures.text) (simp append_assoc)
