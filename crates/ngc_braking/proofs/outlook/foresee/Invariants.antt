use Rattle.std.proofs.Common.{◌≡◌, ◌≤◌, ◌+◌, ◌-◌, min, drop, length, reverse, vec_capacity}
use Rattle.ngc_braking.specs.Outlook.{none, Foresees, change_at, exit_at}
use Rattle.ngc_braking.proofs.outlook.foresee.Given as goal

abbrev pub invariant-loop-index : goal.invariant-loop-index
invariant-loop-index g l = record {
  foresees : Foresees (change_at (l.index - 1) l.legs) (exit_at (l.index - 1) l.legs) (drop l.index l.legs) l.near (reverse l.later.items) none;
  least : min 2 (length l.legs) ≤ l.index;
  most : length l.later.items + l.index ≡ length l.legs;
  memory : vec_capacity l.later ≡ vec_capacity l.initial.later;
}

abbrev pub decreases-loop-index : goal.decreases-loop-index
decreases-loop-index g l = l.index
