use Rattle.std.proofs.Common.{◌≤ℤ◌, arith}
use Rattle.std.proofs.lemmas.Int.{ints}
use Rattle.ngc_canned_cycles.proofs.Pecks.{below}
use Rattle.ngc_canned_cycles.proofs.cycle.Site.peck_depth.Goals as goal

pub length-requires : goal.length-requires
length-requires c =
    let b : c.height_of_peck-reached.result ≤ℤ c.args.self.now.retract = rw c.height_of_peck-reached.ensures.value (below _ _ _ c.requires) in
    omega (arith, ints)
