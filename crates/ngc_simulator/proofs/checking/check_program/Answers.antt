use Rattle.std.proofs.Common.{IfSome}
use Rattle.ngc_canonical.specs.Interpreter.{setup_of}
use Rattle.ngc_line_reader.specs.ProgramView.{text_in}
use Rattle.ngc_inputs.specs.Jobs.{Checks}
use Rattle.ngc_inputs.specs.declared.fault.AnswerFault.TheVariants as answers
use Rattle.ngc_report.proofs.Converted.{turned}
use Rattle.ngc_inputs.proofs.JobLaws.{accepted, accepting_stopped, if_known}
use Rattle.ngc_inputs.proofs.JudgingLaws.{accepted_text_of, first_told, none_told, verdict_on}
use Rattle.ngc_simulator.proofs.checking.check_program.Goals as goal

pub returns-in_err-verdict-clause-checks : goal.returns-in_err-verdict-clause-checks
returns-in_err-verdict-clause-checks g c bytes is_text have =
    let setup = setup_of c.args.machine.now c.args.tools.now in
    let fault = c.in_err-verdict.field-0.0 in
    turned _ (answers.Certificate fault)
    (λ r. IfSome (g.S.Source.remaining c.args.certificate.now)
    (λ text. Checks setup bytes text (g.W.Sink.written c.args.output.now) (g.W.Sink.written c.args.output.now) r))
    c.from_residual.ensures.1
    (if_known _ _ _ (λ text none. none_told setup bytes text _ fault none) (c.in_err-verdict.ensures.judges have.readings have.are))

pub returns-in-Err-clause-checks : goal.returns-in-Err-clause-checks
returns-in-Err-clause-checks g c bytes is_text have =
    let setup = setup_of c.args.machine.now c.args.tools.now in
    if_known _ _ _ (λ text judges. first_told setup bytes text _ c.in_ok-verdict.verdict c.in-Err.fault
    (verdict_on setup bytes text (text_in c.args.program.now) c.in_ok-verdict.verdict is_text have judges) c.in-Err.is)
    (c.in_ok-verdict.ensures.judges have.readings have.are)

pub returns-in_err-write_all-clause-checks : goal.returns-in_err-write_all-clause-checks
returns-in_err-write_all-clause-checks g c bytes is_text have =
    let setup = setup_of c.args.machine.now c.args.tools.now in
    let fault = c.in_err-write_all.field-0.0 in
    turned _ (answers.Write fault)
    (λ r. IfSome (g.S.Source.remaining c.args.certificate.now)
    (λ text. Checks setup bytes text (g.W.Sink.written c.args.output.now) (g.W.Sink.written c.write_all.new.sink) r))
    c.from_residual-in_err-write_all.ensures.1
    (if_known _ _ _ (λ text judges. accepting_stopped setup bytes text _ _ fault
    (accepted_text_of setup bytes text c.in_ok-verdict.verdict _
    (verdict_on setup bytes text (text_in c.args.program.now) c.in_ok-verdict.verdict is_text have judges) c.in-Ok.is)
    c.in_err-write_all.ensures.fault) (c.in_ok-verdict.ensures.judges have.readings have.are))

pub returns-clause-checks : goal.returns-clause-checks
returns-clause-checks g c bytes is_text have =
    let setup = setup_of c.args.machine.now c.args.tools.now in
    if_known _ _ _ (λ text judges. accepted setup bytes text _ _
    (accepted_text_of setup bytes text c.in_ok-verdict.verdict _
    (verdict_on setup bytes text (text_in c.args.program.now) c.in_ok-verdict.verdict is_text have judges) c.in-Ok.is)
    c.in_ok-write_all.ensures.ok) (c.in_ok-verdict.ensures.judges have.readings have.are)
