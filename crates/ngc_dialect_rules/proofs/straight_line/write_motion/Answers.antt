use Rattle.std.proofs.Common.{ap, sym, ◌∙◌}
use Rattle.ngc_dialect_rules.specs.declared.plan.InForce.{InForce}
use Rattle.ngc_dialect_rules.proofs.Straight.{motion_made, motion_refused}
use Rattle.ngc_dialect_rules.proofs.straight_line.write_motion.Goals as goal

pub returns-in-Ok : goal.returns-in-Ok
returns-in-Ok c frames place =
    rw (c.write_line.ensures, c.is_empty.ensures)
    (motion_made frames place c.args.known.now c.args.line.now c.args.words.now c.args.code c.args.f.now c.force_with-force.result.feed c.force_with-force.result _ c.requires.code
    c.requires.words c.requires.axes c.requires.once c.requires.feed c.force_with-force.ensures (ap (λ (i : InForce). i.feed) c.force_with-force.ensures) (sym c.straight.ensures ∙ c.in-Ok.is))

pub returns-in-Err : goal.returns-in-Err
returns-in-Err c frames place =
    motion_refused frames place c.args.known.now c.args.line.now c.args.words.now c.args.code c.args.f.now c.force_with-force.result _ c.requires.code c.requires.words
    c.requires.axes c.requires.once c.requires.feed c.force_with-force.ensures (sym c.straight.ensures ∙ c.in-Err.is)
