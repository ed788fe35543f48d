use Rattle.ngc_dialect_arcs.proofs.Taken.{centres_stay_near}
use Rattle.ngc_dialect_arcs.proofs.laws.centres_stay_near.Goals as goal

pub returns : goal.returns
returns c = centres_stay_near
