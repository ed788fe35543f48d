use Rattle.ngc_sentences.proofs.Said.{says_as, then}
use Rattle.ngc_program_report.proofs.report_frame.say_beginning.Goals as goal

pub returns : goal.returns
returns g c = then (says_as c.say.ensures c.opening.ensures.text) (then c.say_origins.ensures c.say_kept.ensures)
