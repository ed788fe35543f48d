use Rattle.ngc_sentences.proofs.Said.{then}
use Rattle.ngc_dialect_faults.proofs.fault_line.say_rule.Goals as goal

pub returns : goal.returns
returns g c = then (rw (c.rule_words.ensures, c.rule_end.ensures) at c.say.ensures) c.say_word.ensures
