use Rattle.std.proofs.Common.{ap, subst, sym}
use Rattle.ngc_line_reader.specs.ProgramView.{text_in}
use Rattle.ngc_canonical.specs.Interpreter.{setup_of}
use Rattle.ngc_canonical.specs.Meaning.{parsed_program}
use Rattle.ngc_job.specs.Job.{IsJobOf}
use Rattle.ngc_job.proofs.JobLaws.{alike, apart}
use Rattle.ngc_program_report.specs.Framed.{setup_in}
use Rattle.ngc_program_report.proofs.FramedLaws.{framed_alike, framed_apart}
use Rattle.ngc_program_report.proofs.framed.framed_job.Goals as goal

pub returns-then-not-has_deleted_lines-clause-job : goal.returns-then-not-has_deleted_lines-clause-job
returns-then-not-has_deleted_lines-clause-job g c = λ rs readings.
    let program = parsed_program (text_in c.args.program.now) rs in
    let setup = setup_of c.args.machine c.args.tools in
    subst (IsJobOf program setup) (sym c.from_commands-job.ensures)
    (alike program setup c.in-Ok.framed.commands.items c.has_deleted_lines.result (c.in-Ok.ensures.commands rs readings)
    (c.has_deleted_lines.ensures rs readings) c.if-not-has_deleted_lines.true)

pub returns-then-not-has_deleted_lines-clause-frames : goal.returns-then-not-has_deleted_lines-clause-frames
returns-then-not-has_deleted_lines-clause-frames g c =
    let setup = setup_of c.args.machine c.args.tools in
    framed_alike c.from_commands-job.result c.in-Ok.framed.frames (text_in c.args.program.now).lines setup c.has_deleted_lines.result
    (ap setup_in c.from_commands-job.ensures) c.in-Ok.ensures.start c.in-Ok.ensures.changes c.has_deleted_lines.ensures
    c.if-not-has_deleted_lines.true

pub returns-clause-job : goal.returns-clause-job
returns-clause-job g c = λ rs readings.
    let program = parsed_program (text_in c.args.program.now) rs in
    let setup = setup_of c.args.machine c.args.tools in
    subst (IsJobOf program setup) (sym c.from_commands-job-2.ensures)
    (apart program setup c.in-Ok.framed.commands.items c.in-Ok-interpret_with_frames.framed.commands.items c.has_deleted_lines.result
    (c.in-Ok.ensures.commands rs readings) (c.in-Ok-interpret_with_frames.ensures.commands rs readings)
    (c.has_deleted_lines.ensures rs readings) c.if-not-has_deleted_lines.false)

pub returns-clause-frames : goal.returns-clause-frames
returns-clause-frames g c =
    let setup = setup_of c.args.machine c.args.tools in
    framed_apart c.from_commands-job-2.result c.in-Ok.framed.frames c.in-Ok-interpret_with_frames.framed.frames (text_in c.args.program.now).lines
    setup (ap setup_in c.from_commands-job-2.ensures) c.in-Ok.ensures.start c.in-Ok.ensures.changes
    c.in-Ok-interpret_with_frames.ensures.start c.in-Ok-interpret_with_frames.ensures.changes
