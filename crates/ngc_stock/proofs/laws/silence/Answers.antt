use Rattle.ngc_stock.proofs.Silences.{silence}
use Rattle.ngc_stock.proofs.laws.silence.Goals as goal

pub returns : goal.returns
returns c = silence
