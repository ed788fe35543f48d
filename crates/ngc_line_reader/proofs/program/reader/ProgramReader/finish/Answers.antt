use Rattle.std.proofs.Common.{rules}
use Rattle.ngc_line_reader.proofs.program.reader.ProgramReader.finish.Goals as goal

pub returns-in-Ended-clause-text : goal.returns-in-Ended-clause-text
returns-in-Ended-clause-text g c = search rules
