use Rattle.std.proofs.Common.{sym, ◌∙◌}
use Rattle.ngc_line_reader.proofs.TakenPieces.{took_line, refused_line}
use Rattle.ngc_line_reader.proofs.program.loader.LinesSoFar.take_line.Goals as goal

pub returns-in-Ok-clause-step : goal.returns-in-Ok-clause-step
returns-in-Ok-clause-step g c ls =
    took_line c.args.self.now c.read_line.new.self c.args.bytes.now ls (sym c.is_percent.ensures ∙ c.if-is_percent.false) c.in-Ok.ensures.taken

pub returns-in-Err-clause-step : goal.returns-in-Err-clause-step
returns-in-Err-clause-step g c ls =
    refused_line c.args.self.now c.args.bytes.now ls c.in-Err.fault (sym c.is_percent.ensures ∙ c.if-is_percent.false) c.in-Err.ensures.refused
