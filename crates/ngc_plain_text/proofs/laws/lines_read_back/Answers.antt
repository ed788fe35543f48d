use Rattle.ngc_plain_text.proofs.LineTexts.{line_reads_back}
use Rattle.ngc_plain_text.proofs.laws.lines_read_back.Goals as goal

pub returns : goal.returns
returns c = line_reads_back
