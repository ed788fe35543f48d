use Rattle.ngc_written_tools.proofs.ManyParts.{many_parts}
use Rattle.ngc_written_tools.proofs.holder.holder_in.Goals as goal

pub returns-in_default : goal.returns-in_default
returns-in_default c = many_parts c.args.tool c.args.values.now c.in_default.len_at_least
