use Rattle.std.proofs.Common.{ℤ, pos, ◌+ℤ◌, ◌*ℤ◌, arith, ◌∙◌, ap, ap₂}
use Rattle.ngc_cells.proofs.Kept.{kept64, less64, plus64}
use Rattle.ngc_cells.proofs.band.middle.Goals as goal

pub returns-clause-value : goal.returns-clause-value
returns-clause-value c =
    let start = kept64 c.args.start (omega (arith, c.requires.start)) in
    let end = less64 c.args.end c.args.start (omega (arith, c.requires.end)) (omega (arith, c.requires.start)) in
    let whole = plus64 c.times.result c.times-2.result (omega (arith, c.times.ensures.bound)) (omega (arith, c.times-2.ensures.bound)) in
    whole ∙ ap₂ (λ (x y : ℤ). x +ℤ y) (c.times.ensures.value ∙ ap (λ (x : ℤ). pos c.args.parts *ℤ x) start) (c.times-2.ensures.value ∙ ap (λ (x : ℤ). pos c.args.part *ℤ x) end)
