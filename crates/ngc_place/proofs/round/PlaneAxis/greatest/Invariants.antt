use Rattle.std.proofs.Common.{◌≡◌, ◌≤◌, unsigned_abs, drop, map, fold}
use Rattle.std.specs.Int.{int_max}
use Rattle.ngc_place.specs.Inside.{along}
use Rattle.ngc_place.proofs.round.PlaneAxis.greatest.Given as goal

abbrev pub invariant-loop-point : goal.invariant-loop-point
invariant-loop-point l =
    (fold int_max l.greatest (map (along l.self) (drop l.point-index l.points)) ≡ fold int_max l.initial.greatest (map (along l.self) l.points)) ×
    (unsigned_abs l.greatest ≤ 100000000000)
