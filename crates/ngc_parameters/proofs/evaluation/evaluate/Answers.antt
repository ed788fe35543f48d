use Rattle.std.proofs.Common.{◌+◌, List, length, ap, ◌∙◌, arith}
use Rattle.ngc_line_reader.specs.declared.token.Symbol.{Symbol}
use Rattle.ngc_parameters.specs.Evaluate.{symbol_value}
use Rattle.ngc_parameters.specs.EvaluateView.{held}
use Rattle.ngc_line_reader.proofs.TokenLemmas.{length-symbols}
use Rattle.ngc_parameters.proofs.Evaluates.{evaluates}
use Rattle.ngc_parameters.proofs.evaluation.evaluate.Goals as goal

pub returns-clause-tree : goal.returns-clause-tree
returns-clause-tree c v rest limit e =
    let longer = ap length e in
    let law = evaluates v rest (length c.args.s.now + 1) 16 (held c.args.parameters.now) limit (omega (arith, longer, length-symbols c.args.s.now)) in
    let same = ap (λ (s : List Symbol). symbol_value (length c.args.s.now + 1) 16 (held c.args.parameters.now) s) e ∙ law in
    rw (← same) c.value_at.ensures.value
