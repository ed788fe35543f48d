use Rattle.ngc_margins.proofs.MarginLaws.{margin_law, travel_law}
use Rattle.ngc_margins.proofs.laws.margin_is_kept.Goals as goal

pub returns-clause-fixtures : goal.returns-clause-fixtures
returns-clause-fixtures c = margin_law

pub returns-clause-travel : goal.returns-clause-travel
returns-clause-travel c = travel_law
