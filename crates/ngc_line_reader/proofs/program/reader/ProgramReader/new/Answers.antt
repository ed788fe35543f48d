use Rattle.std.proofs.Common.{rules}
use Rattle.ngc_line_reader.proofs.program.reader.ProgramReader.new.Goals as goal

pub returns-clause-text : goal.returns-clause-text
returns-clause-text g c = search rules

pub returns-clause-firm : goal.returns-clause-firm
returns-clause-firm g c = search rules
