use Rattle.ngc_dialect_flow.proofs.CallLaws.{m99_returns_after}
use Rattle.ngc_dialect_flow.proofs.laws.m99_goes_on_after_m98.Goals as goal

pub returns : goal.returns
returns c = m99_returns_after
