use Rattle.std.proofs.lemmas.List.{append_assoc}
use Rattle.ngc_lowest_tips.specs.Texts.{by_words}
use Rattle.ngc_lowest_tips.proofs.texts.add_by_words.Goals as goal

pub returns-in-Some-clause-text : goal.returns-in-Some-clause-text
unfolding by_words
returns-in-Some-clause-text c = rw (c.add_number.ensures.text, c.add_text.ensures, c.in-Some.is) (simp append_assoc)
