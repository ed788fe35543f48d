use Rattle.std.proofs.Common.{◌^◌, ap, length, arith, ◌∙◌}
use Rattle.std.proofs.lemmas.Result.{on_err_weaker}
use Rattle.ngc_machine_model.specs.State.{State}
use Rattle.ngc_run_through.proofs.RunResults.{AreNew, new_recorder, none_counted, if_ok_both}
use Rattle.ngc_run_through.proofs.UntouchedEvents.{few_behind}
use Rattle.ngc_run_through.proofs.WholeRun.{opening_untouched, through_traced, through_unwritten, through_broken}
use Rattle.ngc_run_through.proofs.through.run_to_end.Goals as goal

pub go_on-requires-clause-untouched : goal.go_on-requires-clause-untouched
go_on-requires-clause-untouched g c = opening_untouched _ _ c.requires.machine c.requires.opens

pub go_on-requires-clause-runs : goal.go_on-requires-clause-runs
go_on-requires-clause-runs g c = ap (λ (s : State). s.stopped) c.requires.opens

pub go_on-requires-clause-none_loaded : goal.go_on-requires-clause-none_loaded
go_on-requires-clause-none_loaded g c = ap (λ (s : State). length s.ring) c.requires.opens

pub go_on-requires-clause-none_done : goal.go_on-requires-clause-none_done
go_on-requires-clause-none_done g c = ap (λ (s : State). s.done) c.requires.opens

pub go_on-requires-clause-few : goal.go_on-requires-clause-few
go_on-requires-clause-few g c =
    let controller = c.args.controller.now in
    none_counted c.args.trace controller.job controller.state c.new-recorder.result 0
    (new_recorder c.args.trace controller.job controller.state c.new-recorder.result _ c.requires.opens c.position.ensures c.new-recorder.ensures.report
    (c.new-recorder.ensures.motors ∙ c.motors.ensures) c.new-recorder.ensures.trace c.requires.begins c.new-recorder.ensures.chunk)

pub returns-in-Err-clause-broken : goal.returns-in-Err-clause-broken
returns-in-Err-clause-broken g c =
    let controller = c.args.controller.now in
    let new : AreNew c.args.trace controller.job controller.state c.new-recorder.result =
    new_recorder c.args.trace controller.job controller.state c.new-recorder.result _ c.requires.opens c.position.ensures c.new-recorder.ensures.report
    (c.new-recorder.ensures.motors ∙ c.motors.ensures) c.new-recorder.ensures.trace c.requires.begins c.new-recorder.ensures.chunk in
    through_broken _ _ _ _ _ new c.requires.safe c.requires.in_time c.in-Err.ensures.fault

pub returns-clause-broken : goal.returns-clause-broken
returns-clause-broken g c =
    let controller = c.args.controller.now in
    let new : AreNew c.args.trace controller.job controller.state c.new-recorder.result =
    new_recorder c.args.trace controller.job controller.state c.new-recorder.result _ c.requires.opens c.position.ensures c.new-recorder.ensures.report
    (c.new-recorder.ensures.motors ∙ c.motors.ensures) c.new-recorder.ensures.trace c.requires.begins c.new-recorder.ensures.chunk in
    on_err_weaker c.finish.result (through_unwritten _ _ _ _ _ _ _ _ _ _ new c.requires.safe c.requires.in_time c.in-Ok.ensures.goes) c.finish.ensures.fault

pub returns-clause-traced : goal.returns-clause-traced
returns-clause-traced g c =
    let controller = c.args.controller.now in
    let new : AreNew c.args.trace controller.job controller.state c.new-recorder.result =
    new_recorder c.args.trace controller.job controller.state c.new-recorder.result _ c.requires.opens c.position.ensures c.new-recorder.ensures.report
    (c.new-recorder.ensures.motors ∙ c.motors.ensures) c.new-recorder.ensures.trace c.requires.begins c.new-recorder.ensures.chunk in
    if_ok_both _ _ c.finish.result c.finish.ensures.report c.finish.ensures.ok
    (λ report same wrote. through_traced _ _ _ _ _ _ _ _ _ _ report new c.requires.safe c.requires.in_time c.requires.has_end c.requires.count
    c.in-Ok.ensures.goes c.in-Ok.ensures.runs wrote same)

pub finish-requires : goal.finish-requires
finish-requires g c =
    let controller = c.args.controller.now in
    let new : AreNew c.args.trace controller.job controller.state c.new-recorder.result =
    new_recorder c.args.trace controller.job controller.state c.new-recorder.result _ c.requires.opens c.position.ensures c.new-recorder.ensures.report
    (c.new-recorder.ensures.motors ∙ c.motors.ensures) c.new-recorder.ensures.trace c.requires.begins c.new-recorder.ensures.chunk in
    few_behind _ _ _ 0 (2 ^ 126) _ _ _ _ _ _ c.in-Ok.ensures.goes.goes (none_counted c.args.trace controller.job controller.state c.new-recorder.result 0 new)
    (omega arith)
