use Rattle.ngc_line_reader.specs.ProgramView.{text_in}
use Rattle.ngc_canonical.specs.Interpreter.{setup_of}
use Rattle.ngc_canonical.specs.Meaning.{parsed_program}
use Rattle.ngc_job.proofs.JobLaws.{alike, apart}
use Rattle.ngc_job.proofs.job.Job.new.Goals.{then-has_deleted_lines+in-Ok-interpret, else-has_deleted_lines}
use Rattle.ngc_job.proofs.job.Job.new.Goals as goal

pub returns : goal.returns
returns g c = λ rs readings.
    let program = parsed_program (text_in c.args.program.now) rs in
    let setup = setup_of c.args.machine c.args.tools in
    let off = c.in-Ok.commands.items in
    let found = c.has_deleted_lines.result in
    elim c.if-has_deleted_lines.branch [
      | then-has_deleted_lines+in-Ok-interpret w ↦
          rw w.on-is (apart program setup off w.in-Ok-interpret.commands.items found (c.in-Ok.ensures.commands rs readings)
          (w.in-Ok-interpret.ensures.commands rs readings) (c.has_deleted_lines.ensures rs readings) w.if-has_deleted_lines.true)
      | else-has_deleted_lines w ↦
          rw w.on-is (alike program setup off found (c.in-Ok.ensures.commands rs readings) (c.has_deleted_lines.ensures rs readings)
          w.if-has_deleted_lines.false)
    ]
