use Rattle.std.proofs.Common.{arith, ◌*ℤ◌, ◌≡◌, ◌≤◌, ◌∙◌, ℕ, ℤ, pos, to_z, of_z, lit<, FitsSigned, unsigned_abs}
use Rattle.std.specs.Int.{w64, w128}
use Rattle.std.proofs.lemmas.Int.{to_z-of_z, fits_signed_mul, unsigned_abs-mul}
use Rattle.ngc_step_kernel.proofs.view.scaled.Goals as goal

-- a coordinate that is widened to 128 bits
widened : (r x : ℤ) → FitsSigned w128 r → r ≡ to_z w64 (of_z w64 x) → FitsSigned w64 x → to_z w128 (of_z w128 r) ≡ x
widened r x wide same fits = to_z-of_z w128 r wide ∙ (same ∙ to_z-of_z w64 x fits)

scaled_fits : (x : ℤ) (r : ℕ) → unsigned_abs x ≤ 100000000000 → r ≤ 3000000000 → FitsSigned w128 (x *ℤ pos r)
scaled_fits x r small short = fits_signed_mul w128 x (pos r) 100000000000 3000000000 small short (lit< tt)

pub overflow_mul-result : goal.overflow_mul-result
overflow_mul-result c =
    let left = widened c.from.result c.args.x (record { sfits = c.from.type_inv }) c.from.ensures c.ranges.x in
    let right = to_z-of_z w128 c.from-2.result (record { sfits = c.from-2.type_inv }) ∙ c.from-2.ensures in
    rw (left, right) (scaled_fits c.args.x c.args.radius c.requires.x c.requires.radius)

pub returns-clause-value : goal.returns-clause-value
returns-clause-value c =
    let left = widened c.from.result c.args.x (record { sfits = c.from.type_inv }) c.from.ensures c.ranges.x in
    let right = to_z-of_z w128 c.from-2.result (record { sfits = c.from-2.type_inv }) ∙ c.from-2.ensures in
    rw (left, right) (to_z-of_z w128 (c.args.x *ℤ pos c.args.radius) (scaled_fits c.args.x c.args.radius c.requires.x c.requires.radius))

pub returns-clause-bound : goal.returns-clause-bound
returns-clause-bound c =
    let same = returns-clause-value c in
    rw (same, unsigned_abs-mul c.args.x (pos c.args.radius)) (omega arith)
