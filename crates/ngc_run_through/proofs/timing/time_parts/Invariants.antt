use Rattle.std.proofs.Common.{◌≡◌, ◌+◌, ◌-◌, ◌*◌, ◌^◌, ◌≤◌, ◌<◌, length, false}
use Rattle.ngc_machine_model.specs.State.{loaded}
use Rattle.ngc_run_through.specs.Parts.{GoesParted}
use Rattle.ngc_run_through.proofs.timing.time_parts.Given as goal

abbrev pub invariant-loop-done : goal.invariant-loop-done
invariant-loop-done g l = record {
  goes : GoesParted (l.done * 2 ^ 103) (l.unloaded - l.left) l.done l.initial.controller l.controller l.initial.recorder l.recorder l.parts.items;
  fewer : l.left ≤ l.unloaded;
  within : l.done ≤ l.count;
  count : l.count ≡ length l.initial.controller.job.commands;
  room : length l.controller.state.ring ≤ l.initial.controller.job.machine.ring;
  full : 0 < l.left → length l.controller.state.ring ≡ l.initial.controller.job.machine.ring;
  rest : loaded l.controller.state + l.left ≡ length l.controller.job.commands;
  running : l.controller.state.stopped ≡ false;
}

abbrev pub decreases-loop-done : goal.decreases-loop-done
decreases-loop-done g l = l.count - l.done
