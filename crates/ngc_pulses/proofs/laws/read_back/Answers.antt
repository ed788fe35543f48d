use Rattle.ngc_pulses.proofs.ReadBack.{read_back as law}
use Rattle.ngc_pulses.proofs.laws.read_back.Goals as goal

pub returns : goal.returns
returns c = law
