use Rattle.std.proofs.Common.{IfSome, true}
use Rattle.ngc_canonical.specs.Interpreter.{setup_of}
use Rattle.ngc_certificate.specs.Plans.{both_planned}
use Rattle.ngc_job.specs.Job.{commands_in}
use Rattle.ngc_line_reader.specs.ProgramView.{text_in}
use Rattle.ngc_inputs.specs.Jobs.{Certifies}
use Rattle.ngc_inputs.specs.declared.fault.AnswerFault.TheVariants as answers
use Rattle.ngc_report.proofs.Converted.{turned}
use Rattle.ngc_inputs.proofs.JobLaws.{if_known, nothing_certified, told_for_file, unmade_for_file}
use Rattle.ngc_simulator.proofs.CertifyLaws.{plans_written}
use Rattle.ngc_simulator.proofs.certifier.certify.Goals as goal

pub returns-in-Err-clause-certifies : goal.returns-in-Err-clause-certifies
returns-in-Err-clause-certifies g c =
    let setup = setup_of c.args.machine c.args.tools in
    let refusal = c.in-Err.refusal in
    if_known _ _ _ (λ bytes is_text. nothing_certified setup bytes c.args.cuts c.args.format _ c.refused.result
    (told_for_file setup bytes c.args.cuts (text_in c.in_ok-program.program) refusal.setting refusal.fault c.refused.result c.refused.ensures.value is_text
    c.in_ok-program.ensures.readings c.in-Err.ensures)) c.in_ok-program.ensures.text

pub returns-in_err-plans-clause-certifies : goal.returns-in_err-plans-clause-certifies
returns-in_err-plans-clause-certifies g c =
    let setup = setup_of c.args.machine c.args.tools in
    let fault = c.in_err-plans.field-0.0 in
    turned _ (answers.Make fault) (λ r. IfSome (g.R.Source.remaining c.args.source.now)
    (λ bytes. Certifies setup bytes c.args.cuts c.args.format (g.W.Sink.written c.args.output.now) (g.W.Sink.written c.args.output.now) r))
    c.from_residual-in_err-plans.ensures.1
    (if_known _ _ _ (λ bytes is_text. nothing_certified setup bytes c.args.cuts c.args.format _ (answers.Make fault)
    (unmade_for_file setup bytes c.args.cuts (text_in c.in_ok-program.program) c.in-Ok.job fault is_text c.in_ok-program.ensures.readings c.in-Ok.ensures
    c.in_err-plans.ensures.made)) c.in_ok-program.ensures.text)

pub returns-clause-certifies : goal.returns-clause-certifies
returns-clause-certifies g c =
    let setup = setup_of c.args.machine c.args.tools in
    let j = c.in-Ok.job in
    if_known _ _ _ (λ bytes is_text. plans_written setup bytes c.args.cuts c.args.format (text_in c.in_ok-program.program) j
    (both_planned j.machine.step j.off (commands_in true j) c.in_ok-plans.plans) _ _ c.write_plans.result is_text c.in_ok-program.ensures.readings
    c.in-Ok.ensures c.in_ok-plans.ensures.made c.write_plans.ensures.writes) c.in_ok-program.ensures.text
