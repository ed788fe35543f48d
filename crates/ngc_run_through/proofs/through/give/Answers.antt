use Rattle.std.proofs.Common.{arith}
use Rattle.ngc_run_through.proofs.through.give.Goals as goal

pub returns-in-Ok-clause-given : goal.returns-in-Ok-clause-given
returns-in-Ok-clause-given g c = record {
  job = c.event-outcome.ensures.job;
  accepted = c.event-outcome.ensures.accepted;
  step = c.event-outcome.ensures.step;
  goes_on = c.event-outcome.ensures.goes_on;
  short = c.event-outcome.ensures.short;
  dwelt = omega (arith, c.dwelt-dwelt.ensures.value, c.dwelt-dwelt.ensures.few);
  records = c.in-Ok.ensures.records;
}

pub returns-in-Err-clause-fault : goal.returns-in-Err-clause-fault
returns-in-Err-clause-fault g c = record {
  outcome = c.event-outcome.result;
  reached = c.event-outcome.new.self.state;
  step = c.event-outcome.ensures.step;
  goes_on = c.event-outcome.ensures.goes_on;
  begun = c.in-Err.ensures.fault;
}
