use Rattle.ngc_events.proofs.SpellingLaws.{one_writing as law}
use Rattle.ngc_events.proofs.laws.one_writing.Goals as goal

pub returns : goal.returns
returns c = law
