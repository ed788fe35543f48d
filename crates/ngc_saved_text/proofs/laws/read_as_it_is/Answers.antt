use Rattle.ngc_saved_text.proofs.MarkLaws.{same_text}
use Rattle.ngc_saved_text.proofs.laws.read_as_it_is.Goals as goal

pub returns : goal.returns
returns c = same_text
