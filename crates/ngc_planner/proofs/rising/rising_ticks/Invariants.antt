use Rattle.std.proofs.Common.{◌≡◌, ◌≤◌, ◌<◌, true}
use Rattle.ngc_planner.specs.Stretches.{may_rise}
use Rattle.ngc_planner.proofs.rising.rising_ticks.Given as goal

-- `may` ticks may speed up, and no more than `highest` are tried
abbrev pub invariant-loop : goal.invariant-loop
invariant-loop l =
    (l.may ≤ l.highest) × (l.highest ≤ l.fn.most) × (0 < l.may → may_rise l.may l.fn.rate l.fn.change l.fn.rest ≡ true)
