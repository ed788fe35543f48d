use Rattle.ngc_plain_text.proofs.LineTexts.{word_reads_back}
use Rattle.ngc_plain_text.proofs.laws.words_read_back.Goals as goal

pub returns : goal.returns
returns c = word_reads_back
