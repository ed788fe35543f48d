use Rattle.ngc_dialect_note_texts.specs.Texts.{note_fact}
use Rattle.ngc_dialect_note_texts.proofs.saying.say_fact.Goals as goal

pub returns : goal.returns
unfolding note_fact
returns g c = rw (c.class_text-class.ensures, c.class.ensures, c.kind_text-kind.ensures, c.from.ensures, c.from-2.ensures) at c.say.ensures
