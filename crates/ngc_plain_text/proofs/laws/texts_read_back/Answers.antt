use Rattle.ngc_plain_text.proofs.ProgramTexts.{texts_read_back}
use Rattle.ngc_plain_text.proofs.laws.texts_read_back.Goals as goal

pub returns : goal.returns
returns c = texts_read_back
