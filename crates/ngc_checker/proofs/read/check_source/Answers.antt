use Rattle.ngc_line_reader.specs.ProgramView.{text_in}
use Rattle.ngc_canonical.specs.Interpreter.{setup_of}
use Rattle.ngc_canonical.specs.Meaning.{parsed_program}
use Rattle.ngc_checker.specs.CheckView.{accepted_in, outcome_in}
use Rattle.ngc_checker.proofs.SourceLaws.{of_program}
use Rattle.ngc_checker.proofs.read.check_source.Goals as goal

pub returns-in-Ok-clause-said : goal.returns-in-Ok-clause-said
returns-in-Ok-clause-said g c rs readings =
    of_program (parsed_program (text_in c.args.program.now) rs) (setup_of c.args.machine.now c.args.tools.now)
    (outcome_in c.in-Ok.reader) (accepted_in c.in-Ok.reader) (c.in-Ok.ensures.text rs readings) (c.in-Ok.ensures.keeps rs readings)
    _ c.check_pulled.result c.check_pulled.ensures.said
