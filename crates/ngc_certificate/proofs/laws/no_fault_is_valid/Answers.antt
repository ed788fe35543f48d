use Rattle.ngc_certificate.proofs.NoFault.{pieces_law, place_law}
use Rattle.ngc_certificate.proofs.laws.no_fault_is_valid.Goals as goal

pub returns-clause-pieces : goal.returns-clause-pieces
returns-clause-pieces c = pieces_law

pub returns-clause-place : goal.returns-clause-place
returns-clause-place c = place_law
