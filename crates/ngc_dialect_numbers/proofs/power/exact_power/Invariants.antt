use Rattle.std.proofs.Common.{◌≡◌}
use Rattle.ngc_dialect_numbers.specs.Powers.{exact_power}
use Rattle.ngc_dialect_numbers.proofs.power.exact_power.Given as goal

-- the power so far
abbrev pub invariant-loop : goal.invariant-loop
invariant-loop l = l.power ≡ exact_power l.size l.counter
