use Rattle.std.proofs.Common.{◌≤ℤ◌, arith}
use Rattle.std.proofs.lemmas.Int.{ints}
use Rattle.ngc_canned_cycles.proofs.Pecks.{below}
use Rattle.ngc_dialect_cycles.proofs.parts.peck_depth.Goals as goal

pub length-requires : goal.length-requires
length-requires c =
    let b : c.pecks_below-reached.result ≤ℤ c.args.site.now.retract = rw c.pecks_below-reached.ensures.value (below _ _ _ c.requires) in
    omega (arith, ints)
