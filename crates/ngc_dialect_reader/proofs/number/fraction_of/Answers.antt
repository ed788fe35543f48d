use Rattle.std.proofs.Common.{ℕ, ◌≡◌, ◌≤◌, ◌*◌, ◌-◌, ◌^◌, length, ap, ◌∙◌, arith, rules}
use Rattle.ngc_dialect_reader.proofs.Rounded.{short_fraction, long_fraction}
use Rattle.ngc_dialect_reader.proofs.number.fraction_of.Goals as goal

pub overflow_mul-result : goal.overflow_mul-result
overflow_mul-result c =
    let m = short_fraction c.args.decimals.bytes.now c.args.decimals.units c.requires.digits (omega arith) c.requires.units in
    let times : c.args.decimals.units * c.last_place.result ≡ c.args.decimals.units * 10 ^ (12 - length c.args.decimals.bytes.now) =
    ap (λ (n : ℕ). c.args.decimals.units * n) c.last_place.ensures in
    let bound : c.args.decimals.units * c.last_place.result ≤ 1000000000000 = omega (arith, times, m.bound) in
    search rules

pub returns-then-decimals-gt12-clause-value : goal.returns-then-decimals-gt12-clause-value
returns-then-decimals-gt12-clause-value c =
    (long_fraction c.args.decimals.bytes.now c.count_digits.result.1 c.requires.digits (omega arith) c.count_digits.ensures.units).value

pub returns-then-decimals-gt12-clause-bound : goal.returns-then-decimals-gt12-clause-bound
returns-then-decimals-gt12-clause-bound c =
    (long_fraction c.args.decimals.bytes.now c.count_digits.result.1 c.requires.digits (omega arith) c.count_digits.ensures.units).bound

pub returns-else-decimals-gt12-clause-value : goal.returns-else-decimals-gt12-clause-value
returns-else-decimals-gt12-clause-value c =
    ap (λ (n : ℕ). c.args.decimals.units * n) c.last_place.ensures
    ∙ (short_fraction c.args.decimals.bytes.now c.args.decimals.units c.requires.digits (omega arith) c.requires.units).value

pub returns-else-decimals-gt12-clause-bound : goal.returns-else-decimals-gt12-clause-bound
returns-else-decimals-gt12-clause-bound c =
    let m = short_fraction c.args.decimals.bytes.now c.args.decimals.units c.requires.digits (omega arith) c.requires.units in
    let times : c.args.decimals.units * c.last_place.result ≡ c.args.decimals.units * 10 ^ (12 - length c.args.decimals.bytes.now) =
    ap (λ (n : ℕ). c.args.decimals.units * n) c.last_place.ensures in
    omega (arith, times, m.bound)
