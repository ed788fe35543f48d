use Rattle.std.proofs.Common.{rules}
use Rattle.ngc_line_reader.proofs.line.Line.view.Goals as goal

pub returns-clause-deleted : goal.returns-clause-deleted
returns-clause-deleted c = search rules
