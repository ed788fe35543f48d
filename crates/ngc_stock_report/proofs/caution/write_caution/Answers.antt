use Rattle.ngc_sentences.proofs.Said.{whole}
use Rattle.ngc_stock_report.proofs.caution.write_caution.Goals as goal

pub returns-clause-fault : goal.returns-clause-fault
returns-clause-fault g c = (whole c.new-page.ensures c.say_caution.ensures c.finish.ensures).fault
