use Rattle.ngc_report.proofs.LinesByNumber.{first_line, only_line}
use Rattle.ngc_report.proofs.source_lines.cut_line.Goals as goal

pub returns-in-Some-clause-parts : goal.returns-in-Some-clause-parts
returns-in-Some-clause-parts c = first_line c.args.bytes.now c.in-Some.end c.in-Some.ensures

pub returns-in-None-clause-parts : goal.returns-in-None-clause-parts
returns-in-None-clause-parts c = only_line c.args.bytes.now c.requires c.in-None.ensures
