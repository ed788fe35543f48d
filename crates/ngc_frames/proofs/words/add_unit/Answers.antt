use Rattle.std.proofs.lemmas.List.{append_assoc}
use Rattle.ngc_frames.proofs.words.add_unit.Goals as goal

pub returns-in-Inches-clause-text : goal.returns-in-Inches-clause-text
returns-in-Inches-clause-text c = rw (c.add_number.ensures.text, c.add_text-in-Inches.ensures, c.in-Inches.is) (simp append_assoc)
