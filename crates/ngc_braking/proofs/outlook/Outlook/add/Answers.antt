use Rattle.std.proofs.Common.{◌-◌, arith, length, reverse}
use Rattle.ngc_braking.proofs.OutlookLaws.{add_first, add_more}
use Rattle.ngc_braking.proofs.outlook.Outlook.add.Goals as goal

pub returns-else-legs-ge2-clause-is : goal.returns-else-legs-ge2-clause-is
returns-else-legs-ge2-clause-is g c =
    let o = c.args.self.now in
    add_first c.args.legs.now o.near (reverse o.later.items) o.far c.args.leg.now (omega (arith, c.if-legs-ge2.false)) c.requires.was

pub returns-in-Some-clause-is : goal.returns-in-Some-clause-is
returns-in-Some-clause-is g c =
    let o = c.args.self.now in
    let lookup = c.in-Some.ensures.lookup in
    rw (c.followed-self.ensures, c.with_leg-added.ensures)
    (add_more c.args.legs.now o.near (reverse o.later.items) o.far c.args.leg.now c.in-Some.before.now (length c.args.legs.now - 1)
    (omega (arith, c.if-legs-ge2.true)) (omega (arith, c.if-legs-ge2.true)) lookup.1 c.requires.was)
