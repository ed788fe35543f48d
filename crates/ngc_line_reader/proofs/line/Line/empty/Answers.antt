use Rattle.std.proofs.Common.{refl}
use Rattle.ngc_line_reader.proofs.ReadLines.{holds_nothing}
use Rattle.ngc_line_reader.proofs.line.Line.empty.Goals as goal

pub returns : goal.returns
returns c = holds_nothing _ refl refl c.new.ensures c.new-2.ensures c.new-3.ensures
