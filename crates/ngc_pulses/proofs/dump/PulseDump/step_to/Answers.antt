use Rattle.ngc_pulses.specs.Dumping.{DumpState}
use Rattle.ngc_pulses.proofs.DumpSteps.{stepped, step_added}
use Rattle.ngc_pulses.proofs.dump.PulseDump.step_to.Goals as goal

pub returns-clause-state : goal.returns-clause-state
returns-clause-state c =
    let i = c.self.inside in
    let v : DumpState =
    record { ticks_per_second = i.stamps.ticks_per_second; ticks = i.ticks; position = i.position; directions = i.directions; stamped = i.stamps.last } in
    stepped c.args.self.now v c.args.position c.between-steps.result _ _ _ c.self.view_is c.between-steps.ensures c.tick.ensures.rate
    c.tick.ensures.adds.stamped c.directions-self-inside.ensures

pub returns-clause-text : goal.returns-clause-text
returns-clause-text c =
    let i = c.self.inside in
    let v : DumpState =
    record { ticks_per_second = i.stamps.ticks_per_second; ticks = i.ticks; position = i.position; directions = i.directions; stamped = i.stamps.last } in
    step_added c.args.self.now v c.args.position c.between-steps.result _ _ _ c.self.view_is c.between-steps.ensures c.tick.ensures.adds
