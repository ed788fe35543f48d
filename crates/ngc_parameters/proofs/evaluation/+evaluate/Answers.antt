use Rattle.std.proofs.Common.{◌≡◌, [], ◌∷◌, arith}
use Rattle.std.proofs.lemmas.Grind.{common_steps}
use Rattle.ngc_line_reader.specs.Tokens.{symbols}
use Rattle.ngc_line_reader.specs.declared.token.Symbol.TheVariants as mark
use Rattle.ngc_parameters.specs.EvaluateView.{held, before_of}
use Rattle.ngc_parameters.proofs.EvaluateSteps.{value_step, with_step, inner_err}
use Rattle.ngc_parameters.proofs.evaluation.+evaluate.Goals as goal

pub value_at-returns-in_default-clause-value : goal.value_at-returns-in_default-clause-value
value_at-returns-in_default-clause-value t c =
    let none : symbols c.args.s.now ≡ [] = grind (arith, common_steps) in
    rw none (value_step c.args.steps c.args.room (held c.args.parameters.now) [] (omega arith))

pub value_with-returns-in_default-clause-value : goal.value_with-returns-in_default-clause-value
value_with-returns-in_default-clause-value t c =
    let none : symbols c.args.s.now ≡ [] = grind (arith, common_steps) in
    rw none (with_step c.args.steps c.args.room (held c.args.parameters.now) (before_of c.args.before) c.args.term [] (omega arith))

pub value_at-returns-in-Err-clause-value : goal.value_at-returns-in-Err-clause-value
value_at-returns-in-Err-clause-value t c =
    let parts : symbols c.args.s.now ≡ mark.Parameter ∷ symbols c.in-Some.rest.now = grind (arith, common_steps) in
    rw parts (inner_err c.args.steps c.args.room (held c.args.parameters.now) (symbols c.in-Some.rest.now) c.in-Err.fault (omega arith)
    (omega arith) c.in-Err.ensures.value).0

pub value_at-returns-in-Err-value_at-clause-value : goal.value_at-returns-in-Err-value_at-clause-value
value_at-returns-in-Err-value_at-clause-value t c =
    let parts : symbols c.args.s.now ≡ mark.Open ∷ symbols c.in-Some.rest.now = grind (arith, common_steps) in
    rw parts (inner_err c.args.steps c.args.room (held c.args.parameters.now) (symbols c.in-Some.rest.now) c.in-Err-value_at.fault (omega arith)
    (omega arith) c.in-Err-value_at.ensures.value).1
