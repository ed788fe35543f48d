use Rattle.ngc_sentences.proofs.Said.{whole}
use Rattle.ngc_refused_files.specs.Refusals.{refusal_text}
use Rattle.ngc_refused_files.proofs.refusal.write_refusal.Goals as goal

pub returns-clause-ok : goal.returns-clause-ok
unfolding refusal_text
returns-clause-ok g c =
    rw (← c.line_by-line.ensures, ← c.value_on-value.ensures) (whole c.new-page.ensures c.say_all.ensures c.finish.ensures).ok

pub returns-clause-fault : goal.returns-clause-fault
unfolding refusal_text
returns-clause-fault g c =
    rw (← c.line_by-line.ensures, ← c.value_on-value.ensures) (whole c.new-page.ensures c.say_all.ensures c.finish.ensures).fault
