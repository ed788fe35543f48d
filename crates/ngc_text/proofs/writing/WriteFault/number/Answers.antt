use Rattle.std.proofs.Common.{rules}
use Rattle.ngc_text.proofs.writing.WriteFault.number.Goals as goal

pub returns : goal.returns
returns c = search rules
