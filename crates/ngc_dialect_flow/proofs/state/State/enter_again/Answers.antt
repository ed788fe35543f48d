use Rattle.std.proofs.Common.{◌≤◌, List, length, subst, arith}
use Rattle.ngc_dialect_flow.specs.declared.state.Call.{Call}
use Rattle.ngc_dialect_flow.proofs.Room.{room}
use Rattle.ngc_dialect_flow.proofs.state.State.enter_again.Goals as goal

pub push-requires : goal.push-requires
push-requires c = (
  omega arith,
  room c.args.self.now.calls.items c.pop.new.self.items 10 c.pop.ensures.rest
      (subst (λ (xs : List Call). length xs ≤ 10) c.as_slice-open.ensures.value c.as_slice-open.ensures.fits) (omega arith),
)
