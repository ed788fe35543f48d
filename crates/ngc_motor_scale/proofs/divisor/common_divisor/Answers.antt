use Rattle.std.proofs.Common.{sym, ◌∙◌, arith}
use Rattle.std.proofs.lemmas.Nat.Gcd.{IsGcd-from_zero, IsGcd-from_mod}
use Rattle.ngc_motor_scale.proofs.Euclid.{at_end, falls}
use Rattle.ngc_motor_scale.proofs.divisor.common_divisor.Goals as goal

pub loop-lesser-preserved : goal.loop-lesser-preserved
loop-lesser-preserved c = (
  sym (falls _ _ (omega arith)) ∙ c.loop-lesser.invariant.0,
  λ g h. c.loop-lesser.invariant.1 g (IsGcd-from_mod _ _ g h),
)

pub returns-clause-value : goal.returns-clause-value
returns-clause-value c = at_end _ _ _ (omega arith) c.loop-lesser.invariant.0

pub returns-clause-greatest : goal.returns-clause-greatest
returns-clause-greatest c = c.loop-lesser.invariant.1 _ (IsGcd-from_zero _ _ (omega arith))
