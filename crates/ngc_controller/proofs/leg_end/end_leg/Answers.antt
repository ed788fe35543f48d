use Rattle.std.proofs.Common.{◌+◌, ◌*◌, ◌≤◌, arith}
use Rattle.ngc_controller.proofs.LegEnds.{GoesFurther, goes_further, ends_leg}
use Rattle.ngc_controller.proofs.leg_end.end_leg.Goals as goal

pub returns-then-travel : goal.returns-then-travel
returns-then-travel g c =
    let i = c.ticks.invariant in
    let t = c.tick-travel.result in
    ends_leg c.ticks.ticks c.args.ramp.now c.ticks.ramp c.tick-travel.new.self c.args.wish t.rate t.due t.ended c.requires.some i.goes i.same c.tick-travel.ensures c.if-travel.true

pub overflow_add-ticks-in-ticks : goal.overflow_add-ticks-in-ticks
overflow_add-ticks-in-ticks g c =
    let i = c.ticks.invariant in
    let t = c.tick-travel.result in
    let n = c.make_more-ticks in
    let far = goes_further c.ticks.ticks n.result c.args.ramp.now c.ticks.ramp c.tick-travel.new.self n.new.ramp c.args.wish t.rate t.due t.ended c.requires.wish
    c.rate-before.ensures.kept c.requires.some i.goes i.same c.tick-travel.ensures c.if-travel.false n.ensures.ticks n.ensures.same in
    omega (arith, far.fewer, i.fewer, c.requires.short)

pub ticks-smaller : goal.ticks-smaller
ticks-smaller g c =
    let i = c.ticks.invariant in
    let t = c.tick-travel.result in
    let n = c.make_more-ticks in
    let far = goes_further c.ticks.ticks n.result c.args.ramp.now c.ticks.ramp c.tick-travel.new.self n.new.ramp c.args.wish t.rate t.due t.ended c.requires.wish
    c.rate-before.ensures.kept c.requires.some i.goes i.same c.tick-travel.ensures c.if-travel.false n.ensures.ticks n.ensures.same in
    omega (arith, far.fewer)

pub ticks-preserved : goal.ticks-preserved
ticks-preserved g c =
    let i = c.ticks.invariant in
    let t = c.tick-travel.result in
    let n = c.make_more-ticks in
    let far = goes_further c.ticks.ticks n.result c.args.ramp.now c.ticks.ramp c.tick-travel.new.self n.new.ramp c.args.wish t.rate t.due t.ended c.requires.wish
    c.rate-before.ensures.kept c.requires.some i.goes i.same c.tick-travel.ensures c.if-travel.false n.ensures.ticks n.ensures.same in
    record { goes = far.goes; same = far.same; fewer = omega (arith, far.fewer, i.fewer) }
