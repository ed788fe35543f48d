use Rattle.std.proofs.Common.{sym, ◌∙◌}
use Rattle.ngc_dialect_parameters.specs.Evaluation.{sums_of}
use Rattle.ngc_dialect_parameters.proofs.NumberWords.{word_pushed}
use Rattle.ngc_dialect_parameters.proofs.values.LineValues.say_word.Goals as goal

pub returns : goal.returns
returns c = c.say.ensures ∙ sym (word_pushed c.args.letter c.args.value c.args.point (sums_of c.args.self.now))
