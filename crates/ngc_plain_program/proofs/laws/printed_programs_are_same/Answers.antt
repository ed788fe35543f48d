use Rattle.ngc_plain_program.proofs.Lines.{printed_same}
use Rattle.ngc_plain_program.proofs.laws.printed_programs_are_same.Goals as goal

pub returns : goal.returns
returns c = printed_same
