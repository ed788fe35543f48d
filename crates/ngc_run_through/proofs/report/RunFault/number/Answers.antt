use Rattle.std.proofs.Common.{rules}
use Rattle.ngc_run_through.proofs.report.RunFault.number.Goals as goal

pub returns-in-Memory : goal.returns-in-Memory
returns-in-Memory c = search rules
