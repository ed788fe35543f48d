use Rattle.ngc_canonical.specs.Interpreter.{setup_of}
use Rattle.ngc_line_reader.specs.ProgramView.{text_in}
use Rattle.ngc_inputs.proofs.JobLaws.{if_known}
use Rattle.ngc_simulator.proofs.PlaceLaws.{certifying, not_placed, placed}
use Rattle.ngc_simulator.proofs.placing.place_program.Goals as goal

pub returns-in-Err-clause-writes : goal.returns-in-Err-clause-writes
returns-in-Err-clause-writes g c =
    let setup = setup_of c.args.machine c.args.tools in
    let refusal = c.in-Err.refusal in
    if_known _ _ _ (λ bytes is_text. not_placed setup bytes c.args.request (text_in c.in_ok-program.program) refusal.setting refusal.fault c.refused.result _
    c.refused.ensures.value is_text c.in_ok-program.ensures.readings c.in-Err.ensures) c.in_ok-program.ensures.text

pub returns-clause-writes : goal.returns-clause-writes
returns-clause-writes g c =
    let setup = setup_of c.args.machine c.args.tools in
    if_known _ _ _ (λ bytes is_text. placed setup bytes c.args.request (text_in c.in_ok-program.program) c.in-Ok.job is_text c.in_ok-program.ensures.readings
    c.in-Ok.ensures _ _ c.place_job.result c.place_job.ensures.places) c.in_ok-program.ensures.text

pub returns-clause-faults : goal.returns-clause-faults
returns-clause-faults g c = certifying c.place_job.result c.place_job.ensures.faults
