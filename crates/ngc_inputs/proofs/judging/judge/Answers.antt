use Rattle.ngc_canonical.specs.Interpreter.{setup_of}
use Rattle.ngc_canonical.specs.Meaning.{parsed_program}
use Rattle.ngc_line_reader.specs.ProgramView.{text_in}
use Rattle.ngc_inputs.proofs.JobLaws.{if_known}
use Rattle.ngc_inputs.proofs.JudgingLaws.{accepts, refuses, says_none}
use Rattle.ngc_inputs.proofs.judging.judge.Goals as goal

pub returns-in-Ok-clause-judges : goal.returns-in-Ok-clause-judges
returns-in-Ok-clause-judges g c rs are =
    if_known _ _ _ (λ text says. accepts (parsed_program (text_in c.args.program.now) rs) (setup_of c.args.machine.now c.args.tools.now) text
    c.in-Ok.accepted says) (c.in-Ok.ensures.said rs are)

pub returns-in-Err-Check-clause-judges : goal.returns-in-Err-Check-clause-judges
returns-in-Err-Check-clause-judges g c rs are =
    let said = rw c.in-Err-Check.field-0-is at c.in-Err-Check.ensures.said in
    if_known _ _ _ (λ text says. refuses (parsed_program (text_in c.args.program.now) rs) (setup_of c.args.machine.now c.args.tools.now) text
    c.in-Err-Check.fault says) (said rs are)

pub returns-in-Err-Certificate-clause-judges : goal.returns-in-Err-Certificate-clause-judges
returns-in-Err-Certificate-clause-judges g c rs are =
    let said = rw c.in-Err-Certificate.field-0-is at c.in-Err-Certificate.ensures.said in
    if_known _ _ _ (λ text says. says_none (parsed_program (text_in c.args.program.now) rs) (setup_of c.args.machine.now c.args.tools.now) text
    c.in-Err-Certificate.fault says) (said rs are)
