use Rattle.ngc_dialect_parameters.proofs.Balance.{line_balances}
use Rattle.ngc_dialect_parameters.proofs.laws.lines_find_values.Goals as goal

pub returns : goal.returns
returns c = line_balances
