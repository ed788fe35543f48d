use Rattle.std.proofs.Common.{◌≡◌, ◌*◌, ◌≤◌, ◌*ℤ◌, unsigned_abs, to_z, of_z, arith, lit<}
use Rattle.std.specs.Int.{w64, int_signum}
use Rattle.std.proofs.lemmas.Int.{ints, to_z-of_z, fits_signed_mul, unsigned_abs-mul}
use Rattle.std.proofs.lemmas.Nat.{mul-le}
use Rattle.ngc_arc_geometry.proofs.chord.signed_aside.Goals as goal

sign_is : (c : goal.After-signum) → c.signum.result ≡ int_signum c.args.part
sign_is c =
    let part : to_z w64 (of_z w64 c.args.part) ≡ c.args.part = to_z-of_z w64 c.args.part c.ranges.part in
    rw part at c.signum.ensures.value

pub returns-clause-value : goal.returns-clause-value
returns-clause-value c =
    let side : to_z w64 (of_z w64 c.args.side) ≡ c.args.side = to_z-of_z w64 c.args.side c.ranges.side in
    let sign : to_z w64 (of_z w64 c.signum.result) ≡ c.signum.result = to_z-of_z w64 c.signum.result (record { sfits = c.signum.type_inv }) in
    let aside : to_z w64 (of_z w64 c.args.aside) ≡ c.args.aside = to_z-of_z w64 c.args.aside c.ranges.aside in
    let one : unsigned_abs c.signum.result ≤ 1 = omega (arith, ints) in
    let sides = unsigned_abs-mul c.args.side c.signum.result in
    let sides_one : unsigned_abs c.args.side * unsigned_abs c.signum.result ≤ 1 * 1 =
    mul-le (unsigned_abs c.args.side) (unsigned_abs c.signum.result) 1 1 c.requires.side one in
    let first = to_z-of_z w64 (c.args.side *ℤ c.signum.result) (fits_signed_mul w64 c.args.side c.signum.result 1 1 c.requires.side one (lit< tt)) in
    let both = to_z-of_z w64 (c.args.side *ℤ c.signum.result *ℤ c.args.aside)
    (fits_signed_mul w64 (c.args.side *ℤ c.signum.result) c.args.aside 1 2000000000 (omega arith) c.requires.aside (lit< tt)) in
    rw (side, sign, aside, first, both, sign_is c)

pub returns-clause-bound : goal.returns-clause-bound
returns-clause-bound c =
    let same = returns-clause-value c in
    let one : unsigned_abs (int_signum c.args.part) ≤ 1 = rw (← sign_is c) (omega (arith, ints)) in
    let sides = mul-le (unsigned_abs c.args.side) (unsigned_abs (int_signum c.args.part)) 1 1 c.requires.side one in
    let whole = mul-le (unsigned_abs c.args.side * unsigned_abs (int_signum c.args.part)) (unsigned_abs c.args.aside) 1 (unsigned_abs c.args.aside) sides
    (omega arith) in
    rw (same, unsigned_abs-mul (c.args.side *ℤ int_signum c.args.part) c.args.aside, unsigned_abs-mul c.args.side (int_signum c.args.part))
    (omega (arith, whole))

pub overflow_mul-result-2 : goal.overflow_mul-result-2
overflow_mul-result-2 c =
    let side : to_z w64 (of_z w64 c.args.side) ≡ c.args.side = to_z-of_z w64 c.args.side c.ranges.side in
    let sign : to_z w64 (of_z w64 c.signum.result) ≡ c.signum.result = to_z-of_z w64 c.signum.result (record { sfits = c.signum.type_inv }) in
    let aside : to_z w64 (of_z w64 c.args.aside) ≡ c.args.aside = to_z-of_z w64 c.args.aside c.ranges.aside in
    let one : unsigned_abs c.signum.result ≤ 1 = omega (arith, ints) in
    let sides = unsigned_abs-mul c.args.side c.signum.result in
    let sides_one = mul-le (unsigned_abs c.args.side) (unsigned_abs c.signum.result) 1 1 c.requires.side one in
    let first = to_z-of_z w64 (c.args.side *ℤ c.signum.result) (fits_signed_mul w64 c.args.side c.signum.result 1 1 c.requires.side one (lit< tt)) in
    rw (side, sign, aside, first)
    (fits_signed_mul w64 (c.args.side *ℤ c.signum.result) c.args.aside 1 2000000000 (omega (arith, sides, sides_one)) c.requires.aside (lit< tt))

pub overflow_mul-result : goal.overflow_mul-result
overflow_mul-result c =
    let side = to_z-of_z w64 c.args.side c.ranges.side in
    let sign = to_z-of_z w64 c.signum.result (record { sfits = c.signum.type_inv }) in
    let one : unsigned_abs c.signum.result ≤ 1 = omega (arith, ints) in
    rw (side, sign) (fits_signed_mul w64 c.args.side c.signum.result 1 1 c.requires.side one (lit< tt))
