use Rattle.std.proofs.Common.{ℤ, ◌+ℤ◌, ◌-ℤ◌, arith, ◌∙◌, ap₂}
use Rattle.std.proofs.lemmas.Int.{ints}
use Rattle.ngc_cells.proofs.Kept.{kept64, less64, plus128}
use Rattle.ngc_cells.proofs.Vectors.{square_least}
use Rattle.ngc_cells.proofs.band.squared_length.Goals as goal

pub overflow_add-result : goal.overflow_add-result
overflow_add-result c = omega (arith, ints, c.squared.ensures.bound, c.squared-2.ensures.bound)

pub returns-clause-value : goal.returns-clause-value
returns-clause-value c =
    let s = c.args.stretch.now in
    let r = c.requires in
    let ax = kept64 s.start.x (omega (arith, r.start.x)) in
    let bx = kept64 s.end.x (omega (arith, r.end.x)) in
    let ay = kept64 s.start.y (omega (arith, r.start.y)) in
    let by = kept64 s.end.y (omega (arith, r.end.y)) in
    let dx = less64 s.end.x s.start.x (omega (arith, r.end.x)) (omega (arith, r.start.x)) in
    let dy = less64 s.end.y s.start.y (omega (arith, r.end.y)) (omega (arith, r.start.y)) in
    plus128 c.squared.result c.squared-2.result (omega (arith, c.squared.ensures.bound)) (omega (arith, c.squared-2.ensures.bound))
    ∙ ap₂ (λ (x y : ℤ). x +ℤ y) (rw dx at c.squared.ensures.value) (rw dy at c.squared-2.ensures.value)

pub returns-clause-least : goal.returns-clause-least
returns-clause-least c =
    let e = returns-clause-value c in
    let s = c.args.stretch.now in
    let a = square_least (s.end.x -ℤ s.start.x) in
    let b = square_least (s.end.y -ℤ s.start.y) in
    rw e (omega (arith, ints, a, b))

pub returns-clause-bound : goal.returns-clause-bound
returns-clause-bound c =
    let e = plus128 c.squared.result c.squared-2.result (omega (arith, c.squared.ensures.bound)) (omega (arith, c.squared-2.ensures.bound)) in
    rw e (omega (arith, ints, c.squared.ensures.bound, c.squared-2.ensures.bound))
