use Rattle.std.proofs.Common.{◌≡◌, ◌≤◌, unsigned_abs, drop, map, fold}
use Rattle.std.specs.Int.{int_min}
use Rattle.ngc_place.specs.Inside.{along}
use Rattle.ngc_place.proofs.round.PlaneAxis.least.Given as goal

abbrev pub invariant-loop-point : goal.invariant-loop-point
invariant-loop-point l =
    (fold int_min l.least (map (along l.self) (drop l.point-index l.points)) ≡ fold int_min l.initial.least (map (along l.self) l.points)) ×
    (unsigned_abs l.least ≤ 100000000000)
