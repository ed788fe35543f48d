use Rattle.ngc_machine_model.proofs.KeptPaths.{keep_paths}
use Rattle.ngc_machine_model.proofs.laws.keep_paths.Goals as goal

pub returns : goal.returns
returns c = keep_paths
