use Rattle.std.proofs.Common.{◌≡◌, ◌+◌}
use Rattle.ngc_run_through.proofs.trace.rest_for.Given as goal

abbrev pub invariant-loop-tick : goal.invariant-loop-tick
invariant-loop-tick l = l.dump ≡ record l.initial.dump { ticks = l.initial.dump.ticks + l._tick }
