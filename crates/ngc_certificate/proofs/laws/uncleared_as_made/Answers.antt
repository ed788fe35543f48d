use Rattle.ngc_certificate.proofs.UnclearedLaws.{first_refused, made_says, none_made}
use Rattle.ngc_certificate.proofs.laws.uncleared_as_made.Goals as goal

pub returns-clause-says : goal.returns-clause-says
returns-clause-says c = made_says

pub returns-clause-made : goal.returns-clause-made
returns-clause-made c = none_made

pub returns-clause-refused : goal.returns-clause-refused
returns-clause-refused c = first_refused
