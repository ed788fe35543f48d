use Rattle.std.proofs.Common.{arith}
use Rattle.std.proofs.lemmas.Int.{ints}
use Rattle.ngc_fixed_length.specs.Limits.{IsLength}
use Rattle.ngc_dialect_cycles.proofs.Sound.{sound}
use Rattle.ngc_dialect_cycles.proofs.line.Series.levels.Goals as goal

pub length-retract-requires : goal.length-retract-requires
length-retract-requires c =
    let p : IsLength c.retract_height.result = rw c.retract_height.ensures.value (sound c.args.self.now c.args.line.now c.requires).retract in
    omega (arith, ints)

pub length-bottom-requires : goal.length-bottom-requires
length-bottom-requires c =
    let p : IsLength c.bottom_height.result = rw c.bottom_height.ensures.value (sound c.args.self.now c.args.line.now c.requires).bottom in
    omega (arith, ints)
