use Rattle.std.proofs.Common.{◌≡◌, ◌-◌, ◌*◌, ◌≤◌, unsigned_abs, to_z, Fits, ℕ, arith}
use Rattle.std.specs.Int.{w64, w128}
use Rattle.std.proofs.lemmas.Nat.{mul-le}
use Rattle.std.proofs.lemmas.Int.{ints}
use Rattle.ngc_arc_geometry.proofs.ChordLemmas.{aside_square, aside_bound}
use Rattle.ngc_arc_geometry.proofs.chord.aside.Goals as goal

square : (c : goal.After-root_floor) → 4 * c.args.chord_square * (c.root_floor.result * c.root_floor.result)
    ≤ unsigned_abs c.args.part * unsigned_abs c.args.part * (4 * c.args.square - c.args.chord_square)
square c =
    let size : c.from-size.result ≡ unsigned_abs c.args.part = omega (arith, ints) in
    let root = rw size at c.root_floor.ensures.square in
    aside_square (unsigned_abs c.args.part * unsigned_abs c.args.part) (4 * c.args.square - c.args.chord_square) c.args.chord_square c.root_floor.result root

pub returns-clause-bound : goal.returns-clause-bound
returns-clause-bound c =
    let small = aside_bound (unsigned_abs c.args.part * unsigned_abs c.args.part) c.args.square c.args.chord_square c.root_floor.result c.requires.chord
    c.requires.reached c.requires.limit c.requires.part (square c) in
    omega (arith, ints, small)

pub returns-clause-square : goal.returns-clause-square
returns-clause-square c =
    let small = aside_bound (unsigned_abs c.args.part * unsigned_abs c.args.part) c.args.square c.args.chord_square c.root_floor.result c.requires.chord
    c.requires.reached c.requires.limit c.requires.part (square c) in
    let kept : unsigned_abs (to_z w64 c.root_floor.result) ≡ c.root_floor.result = omega (arith, ints, small) in
    rw kept (square c)

-- the products are below 2^128
part_small : (k2 q d2 : ℕ) → k2 ≤ d2 → d2 ≤ 4 * q → q ≤ 4000000000000000000 → k2 ≤ 16000000000000000000
part_small k2 q d2 part reached limit = omega arith

product_fits : (k2 q d2 : ℕ) → k2 ≤ d2 → d2 ≤ 4 * q → q ≤ 4000000000000000000 → Fits w128 (k2 * (4 * q - d2))
product_fits k2 q d2 part reached limit =
    let p : k2 * (4 * q - d2) ≤ 16000000000000000000 * 16000000000000000000 =
    mul-le k2 (4 * q - d2) 16000000000000000000 16000000000000000000 (part_small k2 q d2 part reached limit) (omega arith) in
    omega (arith, ints, p)

size_square : (c : goal.After-from-size) → c.from-size.result * c.from-size.result ≤ c.args.chord_square
size_square c =
    let size : c.from-size.result ≡ unsigned_abs c.args.part = omega (arith, ints) in
    rw size c.requires.part

pub overflow_mul-size : goal.overflow_mul-size
overflow_mul-size c =
    let small = part_small (c.from-size.result * c.from-size.result) c.args.square c.args.chord_square (size_square c) c.requires.reached c.requires.limit in
    omega (arith, ints, small)

pub overflow_mul-size-2 : goal.overflow_mul-size-2
overflow_mul-size-2 c =
    product_fits (c.from-size.result * c.from-size.result) c.args.square c.args.chord_square (size_square c) c.requires.reached c.requires.limit

pub overflow_mul-square : goal.overflow_mul-square
overflow_mul-square c = omega (arith, c.requires.limit)

pub overflow_sub-square : goal.overflow_sub-square
overflow_sub-square c = c.requires.reached

pub overflow_mul-chord_square : goal.overflow_mul-chord_square
overflow_mul-chord_square c = omega (arith, c.requires.reached, c.requires.limit)

pub nonzero_div-size : goal.nonzero_div-size
nonzero_div-size c = omega (arith, c.requires.chord)

pub overflow_cast-result : goal.overflow_cast-result
overflow_cast-result c =
    let small = aside_bound (unsigned_abs c.args.part * unsigned_abs c.args.part) c.args.square c.args.chord_square c.root_floor.result c.requires.chord
    c.requires.reached c.requires.limit c.requires.part (square c) in
    omega (arith, ints, small)
