use Rattle.std.proofs.Common.{ap, ◌∙◌}
use Rattle.ngc_line_reader.specs.ProgramView.{text_in}
use Rattle.ngc_canonical.specs.Interpreter.{setup_of}
use Rattle.ngc_canonical.specs.Meaning.{parsed_program}
use Rattle.ngc_certificate_text.specs.Ahead.{certificate_of, made_with}
use Rattle.ngc_certificate_text.specs.LinesView.{left_by}
use Rattle.ngc_certificate_text.specs.Parted.{firm_lines}
use Rattle.ngc_certificate_text.specs.ParsedPart.{lines_of}
use Rattle.ngc_checker.specs.Checked.{judged_by}
use Rattle.ngc_checker.specs.FirstRefusal.{first_refusal}
use Rattle.ngc_checker.proofs.LineJudging.{made_twice}
use Rattle.ngc_checker.proofs.check_reader.CheckReader.new.Goals as goal

pub returns-in-Ok-clause-text : goal.returns-in-Ok-clause-text
returns-in-Ok-clause-text g c rs readings bytes =
    let first = first_refusal (parsed_program (text_in c.args.program.now) rs) (setup_of c.args.machine.now c.args.tools.now) in
    ap (made_with first) (c.new.ensures.text bytes)
    ∙ made_twice first certificate_of (judged_by c.in-Ok.judge) (left_by lines_of c.new.result bytes) (c.in-Ok.ensures.verdict rs readings)

pub returns-in-Ok-clause-firm : goal.returns-in-Ok-clause-firm
returns-in-Ok-clause-firm g c rs readings bytes rest =
    let first = first_refusal (parsed_program (text_in c.args.program.now) rs) (setup_of c.args.machine.now c.args.tools.now) in
    ap (made_with first) (c.new.ensures.firm bytes rest)
    ∙ made_twice first certificate_of (judged_by c.in-Ok.judge) (left_by (firm_lines rest) c.new.result bytes) (c.in-Ok.ensures.verdict rs readings)
