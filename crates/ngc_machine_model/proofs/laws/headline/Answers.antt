use Rattle.ngc_machine_model.proofs.Headline.{headline}
use Rattle.ngc_machine_model.proofs.laws.headline.Goals as goal

pub returns : goal.returns
returns c = headline
