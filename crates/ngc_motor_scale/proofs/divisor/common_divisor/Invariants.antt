-- The greatest common divisor of the numbers so far is that of the first ones, and the lesser falls.
use Rattle.std.proofs.Common.{ℕ, ◌≡◌}
use Rattle.std.specs.Int.{IsGcd}
use Rattle.ngc_motor_scale.specs.Scales.{gcd}
use Rattle.ngc_motor_scale.proofs.divisor.common_divisor.Given as goal

abbrev pub invariant-loop-lesser : goal.invariant-loop-lesser
invariant-loop-lesser l =
    (gcd l.greater l.lesser ≡ gcd l.fn.a l.fn.b) × ((g : ℕ) → IsGcd l.greater l.lesser g → IsGcd l.fn.a l.fn.b g)

abbrev pub decreases-loop-lesser : goal.decreases-loop-lesser
decreases-loop-lesser l = l.lesser
