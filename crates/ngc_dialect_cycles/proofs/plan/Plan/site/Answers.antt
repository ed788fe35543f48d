use Rattle.std.proofs.Common.{arith}
use Rattle.std.proofs.lemmas.Int.{ints}
use Rattle.ngc_fixed_length.specs.Limits.{IsLength}
use Rattle.ngc_dialect_cycles.proofs.Sound.{sound, between}
use Rattle.ngc_dialect_cycles.proofs.plan.Plan.site.Goals as goal

pub length-requires : goal.length-requires
length-requires c =
    let line = c.args.self.now.line in
    let last = sound c.args.self.now.series line c.requires.plan.sound in
    let first = c.hole_coordinates-u.ensures.length_u in
    let p : IsLength c.hole_coordinates-u.result.0 = rw c.hole_coordinates-u.ensures.u (between line.first.u line.step.u c.args.hole line.repeats c.requires.hole first last.u) in
    omega (arith, ints)

pub length-requires-2 : goal.length-requires-2
length-requires-2 c =
    let line = c.args.self.now.line in
    let last = sound c.args.self.now.series line c.requires.plan.sound in
    let first = c.hole_coordinates-u.ensures.length_v in
    let p : IsLength c.hole_coordinates-u.result.1 = rw c.hole_coordinates-u.ensures.v (between line.first.v line.step.v c.args.hole line.repeats c.requires.hole first last.v) in
    omega (arith, ints)
