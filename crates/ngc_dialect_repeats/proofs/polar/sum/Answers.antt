use Rattle.std.proofs.Common.{◌≡◌, ◌≤◌, ℤ, pos, ◌+ℤ◌, ◌*ℤ◌, to_z, of_z, unsigned_abs, arith, lit<, FitsSigned}
use Rattle.std.specs.Int.{w128}
use Rattle.std.proofs.lemmas.Int.{ints, to_z-of_z, fits_signed_mul, unsigned_abs-mul}
use Rattle.std.proofs.lemmas.Nat.{mul-le}
use Rattle.ngc_dialect_repeats.proofs.polar.sum.Goals as goal

-- the numbers are unchanged in 128 bits
start : (c : goal.After-trillionths-2) → to_z w128 (of_z w128 c.trillionths.result) ≡ c.args.start
start c = rw (to_z-of_z w128 c.trillionths.result (record { sfits = c.trillionths.type_inv })) c.trillionths.ensures.value

times : (c : goal.After-trillionths-2) → to_z w128 (of_z w128 c.from.result) ≡ pos c.args.times
times c = omega (arith, ints)

step : (c : goal.After-trillionths-2) → to_z w128 (of_z w128 c.trillionths-2.result) ≡ c.args.step
step c = rw (to_z-of_z w128 c.trillionths-2.result (record { sfits = c.trillionths-2.type_inv })) c.trillionths-2.ensures.value

-- the product fits in 128 bits, and so does the sum
step_bound : (c : goal.After-trillionths-2) → unsigned_abs c.args.step ≤ 1000000000000000000000
step_bound c = rw c.trillionths-2.ensures.value at c.trillionths-2.ensures.bound

start_bound : (c : goal.After-trillionths-2) → unsigned_abs c.args.start ≤ 1000000000000000000000
start_bound c = rw c.trillionths.ensures.value at c.trillionths.ensures.bound

fits : (c : goal.After-trillionths-2) → FitsSigned w128 (pos c.args.times *ℤ c.args.step)
fits c = fits_signed_mul w128 (pos c.args.times) c.args.step 4294967296 1000000000000000000000 c.requires (step_bound c) (lit< tt)

small : (c : goal.After-trillionths-2) → unsigned_abs (pos c.args.times *ℤ c.args.step) ≤ 4294967296000000000000000000000
small c =
    let most = mul-le c.args.times (unsigned_abs c.args.step) 4294967296 1000000000000000000000 c.requires (step_bound c) in
    rw (unsigned_abs-mul (pos c.args.times) c.args.step) (omega (arith, most))

sum_fits : (a b : ℤ) → unsigned_abs a ≤ 1000000000000000000000 → unsigned_abs b ≤ 4294967296000000000000000000000 → FitsSigned w128 (a +ℤ b)
sum_fits a b less more = omega (arith, ints)

pub overflow_mul-result : goal.overflow_mul-result
overflow_mul-result c = rw (times c, step c) (fits c)

pub overflow_add-result : goal.overflow_add-result
overflow_add-result c =
    let product = to_z-of_z w128 (pos c.args.times *ℤ c.args.step) (fits c) in
    rw (start c, times c, step c, product) (sum_fits c.args.start (pos c.args.times *ℤ c.args.step) (start_bound c) (small c))

pub returns : goal.returns
returns c =
    let product = to_z-of_z w128 (pos c.args.times *ℤ c.args.step) (fits c) in
    rw (start c, times c, step c, product)
    (to_z-of_z w128 (c.args.start +ℤ (pos c.args.times *ℤ c.args.step)) (sum_fits c.args.start (pos c.args.times *ℤ c.args.step) (start_bound c) (small c)))
