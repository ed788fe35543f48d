use Rattle.ngc_plain_laws.proofs.TextMeanings.{texts_lack_end}
use Rattle.ngc_plain_laws.proofs.laws.texts_lack_end.Goals as goal

pub returns : goal.returns
returns c = texts_lack_end
