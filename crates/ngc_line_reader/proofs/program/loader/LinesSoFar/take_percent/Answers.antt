use Rattle.ngc_line_reader.proofs.TakenPieces.{marking_line, ending_line, not_start}
use Rattle.ngc_line_reader.proofs.program.loader.LinesSoFar.take_percent.Goals as goal

pub returns-in-Start-clause-step : goal.returns-in-Start-clause-step
returns-in-Start-clause-step g c ls bytes p = marking_line c.args.self.now bytes ls p c.in-Start.is

pub returns-in-Marked-clause-step : goal.returns-in-Marked-clause-step
returns-in-Marked-clause-step g c ls bytes p = ending_line c.args.self.now bytes ls p (not_start c.args.self.now.phase c.in-Marked.is)
