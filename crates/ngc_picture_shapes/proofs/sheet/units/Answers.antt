use Rattle.std.proofs.Common.{arith, pos, ◌≤◌, ◌*◌, ◌^◌, ◌*ℤ◌, ◌≡◌, unsigned_abs, to_z, of_z, lit<}
use Rattle.std.specs.Int.{w128}
use Rattle.std.proofs.lemmas.Int.{ints, to_z-of_z, fits_signed_mul, unsigned_abs-mul}
use Rattle.std.proofs.lemmas.Nat.{mul-le}
use Rattle.ngc_picture_shapes.proofs.sheet.units.Goals as goal

pub returns-clause-value : goal.returns-clause-value
returns-clause-value c =
    let count : to_z w128 (of_z w128 c.from.result) ≡ pos c.args.count = omega (arith, ints) in
    let unit : to_z w128 (of_z w128 c.from-2.result) ≡ c.args.unit.now.micrometres = omega (arith, ints) in
    rw (count, unit) (to_z-of_z w128 (pos c.args.count *ℤ c.args.unit.now.micrometres)
    (fits_signed_mul w128 (pos c.args.count) c.args.unit.now.micrometres (2 ^ 32) 300000000000000000 (omega arith) c.args.unit.now.small (lit< tt)))

pub returns-clause-bound : goal.returns-clause-bound
returns-clause-bound c =
    let same = returns-clause-value c in
    let size : c.args.count * unsigned_abs c.args.unit.now.micrometres ≤ 2 ^ 32 * 300000000000000000 =
    mul-le c.args.count (unsigned_abs c.args.unit.now.micrometres) (2 ^ 32) 300000000000000000 (omega arith) c.args.unit.now.small in
    rw (same, unsigned_abs-mul (pos c.args.count) c.args.unit.now.micrometres) (omega arith)

pub overflow_mul-result : goal.overflow_mul-result
overflow_mul-result c =
    let count : to_z w128 (of_z w128 c.from.result) ≡ pos c.args.count = omega (arith, ints) in
    let unit : to_z w128 (of_z w128 c.from-2.result) ≡ c.args.unit.now.micrometres = omega (arith, ints) in
    rw (count, unit) (fits_signed_mul w128 (pos c.args.count) c.args.unit.now.micrometres (2 ^ 32) 300000000000000000
    (omega arith) c.args.unit.now.small (lit< tt))
