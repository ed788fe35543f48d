use Rattle.ngc_sentences.proofs.Said.{then}
use Rattle.ngc_program_report.proofs.demanded.say_by.Goals as goal

pub returns : goal.returns
returns g c = rw (← c.missing_by-missing.ensures, ← c.is_any_way-any_way.ensures) (then c.say_missing_if.ensures c.say_any_way_if.ensures)
