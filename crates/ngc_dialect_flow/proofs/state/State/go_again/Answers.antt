use Rattle.std.proofs.Common.{◌≤◌, List, length, subst, arith}
use Rattle.ngc_dialect_flow.specs.declared.state.Loop.{Loop}
use Rattle.ngc_dialect_flow.proofs.Room.{room}
use Rattle.ngc_dialect_flow.proofs.state.State.go_again.Goals as goal

pub push-requires : goal.push-requires
push-requires c = (
  omega arith,
  room c.args.self.now.loops.items c.pop.new.self.items 32 c.pop.ensures.rest
      (subst (λ (xs : List Loop). length xs ≤ 32) c.as_slice-open.ensures.value c.as_slice-open.ensures.fits) (omega arith),
)
