use Rattle.ngc_braking.proofs.AheadLaws.{brakes_later, passes_on, stops_before}
use Rattle.ngc_braking.proofs.laws.keeps_braking.Goals as goal

pub returns-clause-head : goal.returns-clause-head
returns-clause-head c = brakes_later

pub returns-clause-joint : goal.returns-clause-joint
returns-clause-joint c = passes_on

pub returns-clause-end : goal.returns-clause-end
returns-clause-end c = stops_before
