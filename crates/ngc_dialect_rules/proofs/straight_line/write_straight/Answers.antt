use Rattle.std.proofs.Common.{◌∙◌, refl}
use Rattle.ngc_dialect_rules.specs.Straight.{elsewhere}
use Rattle.ngc_dialect_rules.proofs.Straight.{straight_meaning}
use Rattle.ngc_dialect_rules.proofs.straight_line.write_straight.Goals as goal

pub returns-in-Err : goal.returns-in-Err
returns-in-Err c frames place =
    straight_meaning (elsewhere frames place c.args.known.now) c.args.line.now c.args.words.now c.args.code c.requires.code c.requires.words c.requires.axes c.requires.once
    ∙ rw (← c.amount.ensures, c.in-Err.is) refl
