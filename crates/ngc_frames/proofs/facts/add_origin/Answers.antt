use Rattle.std.proofs.lemmas.List.{append_assoc}
use Rattle.ngc_frames.proofs.facts.add_origin.Goals as goal

pub returns-clause-text : goal.returns-clause-text
returns-clause-text c = rw (c.add_line.ensures.text, c.add_triple.ensures.text, c.as_place-origin.ensures, c.selected_origin.ensures, c.add_text.ensures) (simp append_assoc)
