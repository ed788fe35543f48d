use Rattle.ngc_certificate_text.proofs.SpelledTexts.{one_writing as law}
use Rattle.ngc_certificate_text.proofs.laws.one_writing.Goals as goal

pub returns : goal.returns
returns c = law
