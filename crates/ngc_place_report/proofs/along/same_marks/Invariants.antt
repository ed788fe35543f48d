use Rattle.std.proofs.Common.{◌≡◌, take}
use Rattle.ngc_place_report.proofs.along.same_marks.Given as goal

abbrev pub invariant-loop-i : goal.invariant-loop-i
invariant-loop-i l = take l.i l.a ≡ take l.i l.b
