use Rattle.ngc_braking.proofs.OneChangeLaws.{same_with_one_change, brakes_where_free, same_work_ahead}
use Rattle.ngc_braking.proofs.laws.same_with_one_change.Goals as goal

pub returns-clause-same : goal.returns-clause-same
returns-clause-same c = same_with_one_change

pub returns-clause-free : goal.returns-clause-free
returns-clause-free c = brakes_where_free

pub returns-clause-work : goal.returns-clause-work
returns-clause-work c = same_work_ahead
