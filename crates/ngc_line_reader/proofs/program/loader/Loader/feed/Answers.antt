use Rattle.std.proofs.Common.{rules}
use Rattle.ngc_line_reader.proofs.program.loader.Loader.feed.Goals as goal

pub returns-in-Ok-clause-step : goal.returns-in-Ok-clause-step
returns-in-Ok-clause-step g c = search rules

pub returns-in-Ok-clause-progress : goal.returns-in-Ok-clause-progress
returns-in-Ok-clause-progress g c = search rules
