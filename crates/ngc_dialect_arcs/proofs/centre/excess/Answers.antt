use Rattle.std.proofs.Common.{◌≡◌, refl, arith}
use Rattle.std.proofs.lemmas.Int.{ints}
use Rattle.ngc_dialect_arcs.specs.Centre.{start_square}
use Rattle.ngc_dialect_arcs.proofs.Products.{difference_kept, difference_within}
use Rattle.ngc_dialect_arcs.proofs.centre.excess.Goals as goal

pub overflow_sub-result : goal.overflow_sub-result
overflow_sub-result c = omega (arith, ints)

pub returns-clause-value : goal.returns-clause-value
returns-clause-value c =
    let start : c.squared-2.result ≡ start_square c.args.centre.now = rw c.here.ensures at c.squared-2.ensures.value in
    rw (difference_kept c.squared.result c.squared-2.result c.squared.ensures.bound c.squared-2.ensures.bound, c.squared.ensures.value, start) refl

pub returns-clause-bound : goal.returns-clause-bound
returns-clause-bound c =
    rw (difference_kept c.squared.result c.squared-2.result c.squared.ensures.bound c.squared-2.ensures.bound)
    (difference_within c.squared.result c.squared-2.result c.squared.ensures.bound c.squared-2.ensures.bound)
