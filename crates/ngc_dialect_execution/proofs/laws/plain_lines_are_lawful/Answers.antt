use Rattle.ngc_dialect_execution.proofs.Lawful.{are_lawful}
use Rattle.ngc_dialect_execution.proofs.laws.plain_lines_are_lawful.Goals as goal

pub returns : goal.returns
returns c = are_lawful
