use Rattle.std.proofs.Common.{rules}
use Rattle.ngc_events.proofs.fault.EventsFault.number.Goals as goal

pub returns-in-BadLine : goal.returns-in-BadLine
returns-in-BadLine c = search rules

pub returns-in-TooManyLines : goal.returns-in-TooManyLines
returns-in-TooManyLines c = search rules
