use Rattle.ngc_stock_report.proofs.written.write_walked.Goals as goal

pub returns-in-Some-clause-fault : goal.returns-in-Some-clause-fault
returns-in-Some-clause-fault g c = rw c.in-Some.is c.write_told.ensures.fault
