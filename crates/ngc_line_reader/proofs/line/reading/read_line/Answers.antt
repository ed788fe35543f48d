use Rattle.std.proofs.Common.{rules}
use Rattle.ngc_line_reader.proofs.line.reading.read_line.Goals as goal

pub returns-in-Ok-clause-found : goal.returns-in-Ok-clause-found
returns-in-Ok-clause-found c = search rules

pub returns-in-Ok-clause-first : goal.returns-in-Ok-clause-first
returns-in-Ok-clause-first c = search rules
