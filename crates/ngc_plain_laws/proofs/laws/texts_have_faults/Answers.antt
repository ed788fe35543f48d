use Rattle.ngc_plain_laws.proofs.TextMeanings.{texts_have_faults}
use Rattle.ngc_plain_laws.proofs.laws.texts_have_faults.Goals as goal

pub returns : goal.returns
returns c = texts_have_faults
