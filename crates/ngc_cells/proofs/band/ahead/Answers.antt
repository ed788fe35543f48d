use Rattle.std.proofs.Common.{ℤ, pos, ◌*ℤ◌, ◌-ℤ◌, arith, ◌∙◌, ap, ap₂}
use Rattle.std.proofs.lemmas.Int.{ints}
use Rattle.ngc_cells.proofs.Kept.{less64}
use Rattle.ngc_cells.proofs.band.ahead.Goals as goal

pub overflow_sub-result : goal.overflow_sub-result
overflow_sub-result c = omega (arith, ints, c.times.ensures.bound, c.times-2.ensures.bound)

pub returns-clause-value : goal.returns-clause-value
returns-clause-value c =
    let here = less64 c.args.here c.args.start (omega (arith, c.requires.here)) (omega (arith, c.requires.start)) in
    let end = less64 c.args.end c.args.start (omega (arith, c.requires.end)) (omega (arith, c.requires.start)) in
    let whole = less64 c.times.result c.times-2.result (omega (arith, c.times.ensures.bound)) (omega (arith, c.times-2.ensures.bound)) in
    whole ∙ ap₂ (λ (x y : ℤ). x -ℤ y) (c.times.ensures.value ∙ ap (λ (x : ℤ). pos c.args.parts *ℤ x) here) (c.times-2.ensures.value ∙ ap (λ (x : ℤ). pos c.args.part *ℤ x) end)
