use Rattle.std.proofs.Common.{sym}
use Rattle.std.proofs.lemmas.Bool.{lt-ltb, le-ltb}
use Rattle.ngc_braking.specs.Braking.{braking}
use Rattle.ngc_braking.proofs.BrakingLaws.{brakes_long, brakes_short}
use Rattle.ngc_braking.proofs.slowing.brakes_within.Goals as goal

pub returns-then-from-scaled : goal.returns-then-from-scaled
returns-then-from-scaled c =
    let short = rw (c.from.ensures, c.from-2.ensures, c.from-3.ensures) at c.if-from-scaled.true in
    sym (lt-ltb (braking c.args.rate c.args.change) c.args.way (brakes_short c.args.rate c.args.change c.args.way c.requires.change_least short))

pub returns-then-scaled-from : goal.returns-then-scaled-from
returns-then-scaled-from c =
    let long = rw (c.from.ensures, c.from-2.ensures, c.from-4.ensures) at c.if-scaled-from.true in
    sym (le-ltb (braking c.args.rate c.args.change) c.args.way (brakes_long c.args.rate c.args.change c.args.way c.requires.change_least long))
