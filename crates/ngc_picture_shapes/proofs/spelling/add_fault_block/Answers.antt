use Rattle.std.proofs.lemmas.List.{append_assoc}
use Rattle.ngc_picture_shapes.specs.Spelling.{kind_text}
use Rattle.ngc_picture_shapes.proofs.spelling.add_fault_block.Goals as goal

pub returns : goal.returns
unfolding kind_text
returns c =
    rw (c.add_text-2.ensures, c.add_silhouette.ensures.text, c.add_text.ensures) (simp append_assoc)
