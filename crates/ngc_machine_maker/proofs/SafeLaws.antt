-- The steps in an amount are at most it. Fewer steps are at most the same amount, and steps are at
-- most a larger amount.
use Rattle.std.proofs.Common.{ℕ, ◌≤◌, ◌*◌, arith}
use Rattle.std.specs.Prelude.{◌/◌}
use Rattle.std.proofs.lemmas.Nat.{mul-le}
use Rattle.std.proofs.Math.Nat.{div-mul-le_self, min-le_left, min-le_right}
use Rattle.ngc_machine_maker.specs.declared.scale.Scale.{Scale}
use Rattle.ngc_machine_maker.specs.Formulas.{steps_in}
use Rattle.ngc_machine_maker.specs.Safe.{IsNoMore}

product_le : (a b k m : ℕ) → a ≤ b → b * k ≤ m → a * k ≤ m
product_le a b k m h n = let p : a * k ≤ b * k = mul-le a k b k h (omega arith) in omega arith

pub fewer : (scale : Scale) (few many amount divisor : ℕ) → few ≤ many → IsNoMore scale many amount divisor → IsNoMore scale few amount divisor
fewer scale few many amount divisor h n = record {
  by_file = product_le few many (divisor * scale.step) amount h n.by_file;
  by_motor = product_le few many (divisor * scale.per) (amount * scale.steps) h n.by_motor;
}

pub larger : (scale : Scale) (steps small large divisor : ℕ) → small ≤ large → IsNoMore scale steps small divisor → IsNoMore scale steps large divisor
larger scale steps small large divisor h n = record {
  by_file = omega (arith, n.by_file);
  by_motor =
      let p : small * scale.steps ≤ large * scale.steps = mul-le small scale.steps large scale.steps h (omega arith) in omega (arith, n.by_motor);
}

quotient_within : (q a b : ℕ) → q ≤ a / b → q * b ≤ a
quotient_within q a b h = product_le q (a / b) b a h (div-mul-le_self a b)

pub steps_within : (scale : Scale) (amount divisor : ℕ) → IsNoMore scale (steps_in scale amount divisor) amount divisor
steps_within scale amount divisor = record {
  by_file = quotient_within (steps_in scale amount divisor) amount (divisor * scale.step) (min-le_right _ _);
  by_motor = quotient_within (steps_in scale amount divisor) (amount * scale.steps) (divisor * scale.per) (min-le_left _ _);
}
