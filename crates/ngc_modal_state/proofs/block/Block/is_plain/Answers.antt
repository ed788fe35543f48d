use Rattle.std.proofs.Common.{rules}
use Rattle.std.proofs.lemmas.Bool.{not-true}
use Rattle.ngc_modal_state.proofs.PlainLines.{plain_straight, plain_claims, no_centre, straight_idle, straight_missing, arc_idle, arc_missing}
use Rattle.ngc_modal_state.proofs.block.Block.is_plain.Goals as goal

pub returns-in-XY-clause-straight : goal.returns-in-XY-clause-straight
returns-in-XY-clause-straight c = λ _. plain_straight _ _ (search rules)

pub returns-in-XY-clause-one_use : goal.returns-in-XY-clause-one_use
returns-in-XY-clause-one_use c = λ _. plain_claims _ _ (search rules) (search rules)

pub returns-in-XY-clause-used : goal.returns-in-XY-clause-used
returns-in-XY-clause-used c = λ _. arc_idle _ _ (search rules) (search rules) (search rules)

pub returns-in-XY-clause-there : goal.returns-in-XY-clause-there
returns-in-XY-clause-there c = λ _. arc_missing _ _ (search rules) (search rules) (search rules)

pub returns-in-PerMinute-clause-straight : goal.returns-in-PerMinute-clause-straight
returns-in-PerMinute-clause-straight c = λ _. plain_straight _ _ (search rules)

pub returns-in-PerMinute-clause-one_use : goal.returns-in-PerMinute-clause-one_use
returns-in-PerMinute-clause-one_use c = λ stands.
    plain_claims _ _ (search rules) (no_centre c.args.self.now (let none = not-true _ stands in cc))

pub returns-in-PerMinute-clause-used : goal.returns-in-PerMinute-clause-used
returns-in-PerMinute-clause-used c = λ stands. straight_idle _ _ (search rules) (search rules) (let none = not-true _ stands in cc)

pub returns-in-PerMinute-clause-there : goal.returns-in-PerMinute-clause-there
returns-in-PerMinute-clause-there c = λ _. straight_missing _ _ (search rules) (search rules) (search rules)
