use Rattle.std.proofs.Common.{◌≡◌, Option, subst}
use Rattle.std.specs.Prelude.{option_map}
use Rattle.std.proofs.lemmas.Option.{MatchOption-at_none, MatchOption-at_some}
use Rattle.ngc_job.specs.Job.{JobData}
use Rattle.ngc_shifted_program.specs.Executions.{executed_of}
use Rattle.ngc_shifted_program.specs.Shifted.{executed_at}
use Rattle.ngc_place_report.proofs.FoundLaws.{marked_along, refused_along, unexplained_along}
use Rattle.ngc_place_report.proofs.along.find_along.Goals as goal

pub returns-in-None : goal.returns-in-None
returns-in-None g c = λ does are.
    refused_along does c.args.job.now c.args.system c.args.axis c.args.cuts c.shift-step.result c.shift-step.ensures.value c.unmarked.result
    c.unmarked.ensures
    (subst (λ (o : Option JobData). option_map (λ (j : JobData). executed_of j) o ≡ executed_at does c.args.job.now c.args.system c.shift-step.result)
    c.in-None.is (c.in_ok-shifted.ensures does are))

pub returns-in-None-2 : goal.returns-in-None-2
returns-in-None-2 g c = λ does are.
    unexplained_along does c.args.job.now c.args.system c.args.axis c.args.cuts c.shift-step.result c.shift-step.ensures.value
    c.unmarked-in-None-2.result _ c.unmarked-in-None-2.ensures
    (subst (λ (o : Option JobData). option_map (λ (j : JobData). executed_of j) o ≡ executed_at does c.args.job.now c.args.system c.shift-step.result)
    c.in-Some.is (c.in_ok-shifted.ensures does are)) (MatchOption-at_none _ _ c.in-None-2.is c.in_ok-marks.ensures)

pub returns : goal.returns
returns g c = λ does are.
    let marks = c.in-Some-2.marks in
    marked_along does c.args.job.now c.args.system c.args.axis c.args.cuts c.shift-step.result c.shift-step.ensures.value _ _ _ _
    marks.off.items marks.on.items (record { at_off = c.commands.ensures; at_on = c.commands-2.ensures })
    (subst (λ (o : Option JobData). option_map (λ (j : JobData). executed_of j) o ≡ executed_at does c.args.job.now c.args.system c.shift-step.result)
    c.in-Some.is (c.in_ok-shifted.ensures does are)) c.as_slice.ensures.value c.as_slice-2.ensures.value
    (MatchOption-at_some _ _ marks c.in-Some-2.is c.in_ok-marks.ensures) (c.in_ok-finding.ensures does are) c.staying.ensures
