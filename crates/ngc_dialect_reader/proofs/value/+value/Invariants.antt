-- Each call has less depth, or the same depth and fewer operators.
use Rattle.std.proofs.Common.{◌*◌, ◌+◌}
use Rattle.ngc_dialect_reader.proofs.value.+value.Given as goal

abbrev pub decreases-value_at : goal.decreases-value_at
decreases-value_at l = 200 * l.scope.depth

abbrev pub decreases-chain_at : goal.decreases-chain_at
decreases-chain_at l = 200 * l.scope.depth + l.more + 1

abbrev pub decreases-expression_at : goal.decreases-expression_at
decreases-expression_at l = 200 * l.scope.depth + 150

abbrev pub decreases-bracket_at : goal.decreases-bracket_at
decreases-bracket_at l = 200 * l.scope.depth + 151

abbrev pub decreases-parameter_at : goal.decreases-parameter_at
decreases-parameter_at l = 200 * l.scope.depth + 151

abbrev pub decreases-second_at : goal.decreases-second_at
decreases-second_at l = 200 * l.scope.depth + 152

abbrev pub decreases-atan_at : goal.decreases-atan_at
decreases-atan_at l = 200 * l.scope.depth + 153

abbrev pub decreases-named_at : goal.decreases-named_at
decreases-named_at l = 200 * l.scope.depth + 154

abbrev pub decreases-function_at : goal.decreases-function_at
decreases-function_at l = 200 * l.scope.depth + 155

abbrev pub decreases-sign_at : goal.decreases-sign_at
decreases-sign_at l = 200 * l.scope.depth + 151

abbrev pub decreases-other_at : goal.decreases-other_at
decreases-other_at l = 200 * l.scope.depth + 156

abbrev pub decreases-value_inside : goal.decreases-value_inside
decreases-value_inside l = 200 * l.scope.depth + 157
