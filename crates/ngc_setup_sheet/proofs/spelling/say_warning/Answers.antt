use Rattle.ngc_sentences.proofs.Said.{then}
use Rattle.ngc_setup_sheet.proofs.spelling.say_warning.Goals as goal

pub returns : goal.returns
returns g c = then (then c.say.ensures c.say_warning_text.ensures) c.say-2.ensures
