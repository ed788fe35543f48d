use Rattle.ngc_sentences.proofs.Said.{whole}
use Rattle.ngc_stock_report.proofs.overlaps.write_overlaps.Goals as goal

pub returns-clause-fault : goal.returns-clause-fault
returns-clause-fault g c = (whole c.new-page.ensures c.say_overlaps.ensures c.finish.ensures).fault
