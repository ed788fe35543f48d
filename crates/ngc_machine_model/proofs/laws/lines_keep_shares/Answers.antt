use Rattle.ngc_machine_model.proofs.ShareLaws.{lines_keep_shares}
use Rattle.ngc_machine_model.proofs.laws.lines_keep_shares.Goals as goal

pub returns : goal.returns
returns c = lines_keep_shares
