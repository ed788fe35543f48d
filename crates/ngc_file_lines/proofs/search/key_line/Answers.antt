use Rattle.ngc_file_lines.proofs.Kept.{of_key}
use Rattle.ngc_file_lines.proofs.search.key_line.Goals as goal

pub returns-clause-begins : goal.returns-clause-begins
returns-clause-begins c = of_key c.args.header.now c.args.headers c.args.key.now c.args.bytes.now _ c.search.ensures
