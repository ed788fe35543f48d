use Rattle.std.proofs.Common.{◌≡◌, ◌*◌, ◌^◌, ◌≤◌, pos, ◌+ℤ◌, ◌*ℤ◌, unsigned_abs, to_z, of_z, arith}
use Rattle.std.specs.Int.{w64, w128, int_div_euclid}
use Rattle.std.proofs.lemmas.Int.{ints, to_z-of_z}
use Rattle.ngc_dialect_arcs.specs.Centre.{shift_by}
use Rattle.ngc_dialect_arcs.proofs.Products.{dividend_kept, divisor_kept, dividend_within, quotient_within, quotient_kept}
use Rattle.ngc_dialect_arcs.proofs.centre.shift_by.Goals as goal

pub overflow_add-sum : goal.overflow_add-sum
overflow_add-sum c = omega (arith, ints)

pub overflow_mul-chord : goal.overflow_mul-chord
overflow_mul-chord c = omega (arith, ints)

pub returns : goal.returns
unfolding shift_by
returns c =
    let dividend = dividend_kept c.product.result c.args.chord c.product.ensures.bound c.requires.chord in
    let divisor = divisor_kept c.args.chord c.requires.chord in
    let part : to_z w64 (of_z w64 c.args.part) ≡ c.args.part = to_z-of_z w64 c.args.part c.ranges.part in
    let excess : to_z w128 (of_z w128 c.args.excess) ≡ c.args.excess = to_z-of_z w128 c.args.excess c.ranges.excess in
    let value : c.product.result ≡ c.args.part *ℤ c.args.excess = rw (part, excess) at c.product.ensures.value in
    let size : unsigned_abs ((c.args.part *ℤ c.args.excess) +ℤ pos c.args.chord) ≤ 9 * 10 ^ 33 =
    rw value at (dividend_within c.product.result c.args.chord c.product.ensures.bound c.requires.chord) in
    let quotient : c.div_euclid.result ≡ int_div_euclid ((c.args.part *ℤ c.args.excess) +ℤ pos c.args.chord) (pos (2 * c.args.chord)) =
    rw (dividend, divisor, value) at c.div_euclid.ensures in
    rw quotient (quotient_kept (int_div_euclid ((c.args.part *ℤ c.args.excess) +ℤ pos c.args.chord) (pos (2 * c.args.chord)))
    (quotient_within ((c.args.part *ℤ c.args.excess) +ℤ pos c.args.chord) (2 * c.args.chord) (9 * 10 ^ 33) (omega (arith, c.requires.some)) size))
