use Rattle.ngc_dialect_flow.proofs.CallLaws.{returns_after}
use Rattle.ngc_dialect_flow.proofs.laws.returns_go_on_after_calls.Goals as goal

pub returns : goal.returns
returns c = returns_after
