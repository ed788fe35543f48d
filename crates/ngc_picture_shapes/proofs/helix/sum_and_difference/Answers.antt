use Rattle.std.proofs.Common.{◌≡◌, arith, to_z, of_z, ◌+ℤ◌, ◌-ℤ◌}
use Rattle.std.specs.Int.{w64}
use Rattle.std.proofs.lemmas.Int.{ints}
use Rattle.ngc_picture_shapes.proofs.helix.sum_and_difference.Goals as goal

pub returns-clause-value : goal.returns-clause-value
returns-clause-value c =
    let one : to_z w64 (of_z w64 c.args.one) ≡ c.args.one = omega (arith, ints) in
    let other : to_z w64 (of_z w64 c.args.other) ≡ c.args.other = omega (arith, ints) in
    let more : to_z w64 (of_z w64 c.args.more) ≡ c.args.more = omega (arith, ints) in
    let less : to_z w64 (of_z w64 c.args.less) ≡ c.args.less = omega (arith, ints) in
    let sum : to_z w64 (of_z w64 (c.args.one +ℤ c.args.other)) ≡ c.args.one +ℤ c.args.other = omega (arith, ints) in
    let difference : to_z w64 (of_z w64 (c.args.more -ℤ c.args.less)) ≡ c.args.more -ℤ c.args.less = omega (arith, ints) in
    let both : to_z w64 (of_z w64 ((c.args.one +ℤ c.args.other) +ℤ (c.args.more -ℤ c.args.less)))
    ≡ (c.args.one +ℤ c.args.other) +ℤ (c.args.more -ℤ c.args.less) = omega (arith, ints) in
    rw (one, other, more, less, sum, difference) both

pub returns-clause-bound : goal.returns-clause-bound
returns-clause-bound c = let same = returns-clause-value c in rw same (omega (arith, ints))
