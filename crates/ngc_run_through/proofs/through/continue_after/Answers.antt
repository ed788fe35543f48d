use Rattle.std.proofs.Common.{ap, ◌∙◌}
use Rattle.std.proofs.lemmas.Result.{on_ok_weaker}
use Rattle.ngc_run_through.specs.Stretches.{is_stop}
use Rattle.ngc_run_through.proofs.UntouchedEvents.{nothing_behind, started_behind}
use Rattle.ngc_run_through.proofs.through.continue_after.Goals as goal

pub start_again-requires-clause-stops : goal.start_again-requires-clause-stops
start_again-requires-clause-stops g c = c.requires.stops ∙ ap is_stop c.in-Stopped.is

pub returns-in-Stopped-clause-goes : goal.returns-in-Stopped-clause-goes
returns-in-Stopped-clause-goes g c = on_ok_weaker c.start_again.result (started_behind _ _ _ _ _ _ _ _ c.in-Stopped.is) c.start_again.ensures.goes

pub returns-in-Done-clause-goes : goal.returns-in-Done-clause-goes
returns-in-Done-clause-goes g c = nothing_behind _ _ _ _ c.requires.untouched

pub returns-in-Done-clause-runs : goal.returns-in-Done-clause-runs
returns-in-Done-clause-runs g c = c.requires.stops ∙ ap is_stop c.in-Done.is

pub returns-in-End-clause-goes : goal.returns-in-End-clause-goes
returns-in-End-clause-goes g c = nothing_behind _ _ _ _ c.requires.untouched

pub returns-in-End-clause-runs : goal.returns-in-End-clause-runs
returns-in-End-clause-runs g c = c.requires.stops ∙ ap is_stop c.in-End.is
