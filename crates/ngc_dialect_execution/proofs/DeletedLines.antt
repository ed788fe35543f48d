-- Block delete does nothing in a text of which no line begins with `/`.
use Rattle.std.proofs.Common.{Bool, ap}
use Rattle.ngc_dialect_execution.specs.Laws.{SameAtBoth}
use Rattle.ngc_dialect_execution.specs.Program.{commands_in, traced_by}
use Rattle.ngc_dialect_execution.specs.Taken.{nothing_wanted}

pub same_at_both : SameAtBoth
same_at_both d setup text none = ap (λ (out : Bool). commands_in (traced_by nothing_wanted d setup out text)) none
