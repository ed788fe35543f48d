use Rattle.ngc_report.proofs.Fitting.{pieces_law, start_law}
use Rattle.ngc_report.proofs.laws.fit_extent_holds.Goals as goal

pub returns-clause-pieces : goal.returns-clause-pieces
returns-clause-pieces c = pieces_law

pub returns-clause-start : goal.returns-clause-start
returns-clause-start c = start_law
