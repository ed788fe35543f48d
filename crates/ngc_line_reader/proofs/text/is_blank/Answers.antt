use Rattle.std.proofs.Common.{rules}
use Rattle.ngc_line_reader.proofs.text.is_blank.Goals as goal

pub returns-then-byte-eq9 : goal.returns-then-byte-eq9
returns-then-byte-eq9 c = search rules
