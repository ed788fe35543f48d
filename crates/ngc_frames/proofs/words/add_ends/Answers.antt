use Rattle.std.proofs.lemmas.List.{append_assoc}
use Rattle.ngc_frames.proofs.words.add_ends.Goals as goal

pub returns-clause-text : goal.returns-clause-text
returns-clause-text c = rw (c.add_place-2.ensures.text, c.add_text-2.ensures, c.add_place.ensures.text, c.add_text.ensures) (simp append_assoc)
