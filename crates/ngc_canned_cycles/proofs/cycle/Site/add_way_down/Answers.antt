use Rattle.std.proofs.Common.{◌≡◌, ◌+ℤ◌, pos, true, arith}
use Rattle.std.specs.Prelude.{int_lt}
use Rattle.std.proofs.lemmas.Int.{ints}
use Rattle.ngc_canned_cycles.proofs.cycle.Site.add_way_down.Goals as goal

pub length-back-requires : goal.length-back-requires
length-back-requires g c =
    let under : int_lt (c.args.depth +ℤ pos 254000) c.args.self.now.retract ≡ true = cc in
    omega (arith, ints)
