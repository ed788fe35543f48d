use Rattle.std.proofs.Common.{◌≡◌, to_z, of_z, arith, subst, sym}
use Rattle.std.specs.Int.{w32}
use Rattle.std.proofs.lemmas.Int.{ints}
use Rattle.ngc_place.specs.Shifts.{AreShifts}
use Rattle.ngc_place.proofs.GrowingIntervals.{shifts_fit}
use Rattle.ngc_place.proofs.interval.Interval.shifts.Goals as goal

pub returns-clause-limit : goal.returns-clause-limit
returns-clause-limit c =
    let from : to_z w32 (of_z w32 c.args.self.from) ≡ c.args.self.from = omega (arith, ints, c.requires.from) in
    let to : to_z w32 (of_z w32 c.args.self.to) ≡ c.args.self.to = omega (arith, ints, c.requires.to) in
    let same = rw (from, to) at c.shifts.ensures in
    subst AreShifts (sym same) (shifts_fit c.args.axis c.args.self c.requires)
