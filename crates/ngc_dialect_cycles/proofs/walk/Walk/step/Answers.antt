use Rattle.std.proofs.Common.{sym, ◌∙◌}
use Rattle.ngc_dialect_cycles.proofs.Joined.{taken}
use Rattle.ngc_dialect_cycles.proofs.walk.Walk.step.Goals as goal

pub returns-in-Some-clause-next : goal.returns-in-Some-clause-next
returns-in-Some-clause-next c =
    let w = c.loop-self.self in
    sym c.loop-self.invariant.left ∙ taken w.plan.series w.plan.line w.hole w.part w.index c.in-Some.found c.loop-self-test.true (sym c.in-Some.ensures.value)
