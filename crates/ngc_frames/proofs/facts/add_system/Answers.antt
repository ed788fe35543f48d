use Rattle.std.proofs.lemmas.List.{append_assoc}
use Rattle.ngc_frames.proofs.facts.add_system.Goals as goal

pub returns-clause-text : goal.returns-clause-text
returns-clause-text c = rw (c.add_line.ensures.text, c.add_text-3.ensures, c.add_text-2.ensures, c.system_name.ensures.text, c.system.ensures, c.add_text.ensures) (simp append_assoc)
