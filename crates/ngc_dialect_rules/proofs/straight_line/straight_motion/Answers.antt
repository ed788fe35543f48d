use Rattle.ngc_dialect_rules.specs.Straight.{elsewhere}
use Rattle.ngc_dialect_rules.proofs.Straight.{line_made, no_codes}
use Rattle.ngc_dialect_rules.proofs.straight_line.straight_motion.Goals as goal

pub returns-in-Err-clause-refused : goal.returns-in-Err-clause-refused
returns-in-Err-clause-refused c =
    λ frames place. no_codes (elsewhere frames place c.args.known.now) c.args.words.now _ _ c.new-codes.ensures c.in-Err.ensures

pub returns-in-Ok-write_straight-clause-line : goal.returns-in-Ok-write_straight-clause-line
returns-in-Ok-write_straight-clause-line c =
    λ frames place. line_made (elsewhere frames place c.args.known.now) c.args.words.now _ _ _ _ c.new-codes.ensures c.in-Ok.ensures c.as_slice-line.ensures.value
    (c.in-Ok-write_straight.ensures frames place)

pub returns-in-Err-write_straight-clause-refused : goal.returns-in-Err-write_straight-clause-refused
returns-in-Err-write_straight-clause-refused c =
    λ frames place. line_made (elsewhere frames place c.args.known.now) c.args.words.now _ _ _ _ c.new-codes.ensures c.in-Ok.ensures c.as_slice-line.ensures.value
    (c.in-Err-write_straight.ensures frames place)
