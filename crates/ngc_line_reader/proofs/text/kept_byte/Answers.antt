use Rattle.std.proofs.Common.{rules}
use Rattle.ngc_line_reader.proofs.text.kept_byte.Goals as goal

pub returns-in-InComment : goal.returns-in-InComment
returns-in-InComment c = search rules
