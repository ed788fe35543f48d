use Rattle.std.proofs.Common.{◌≡◌, to_z, of_z, arith, ◌∙◌}
use Rattle.std.specs.Int.{w64}
use Rattle.std.proofs.lemmas.Int.{ints}
use Rattle.ngc_place.specs.Inside.{margin_of}
use Rattle.ngc_place.proofs.round.margin.Goals as goal

pub margin-requires : goal.margin-requires
margin-requires c = c.requires

pub returns-clause-bound : goal.returns-clause-bound
returns-clause-bound c = omega (arith, ints, c.nanometres.ensures.bound)

pub returns-clause-value : goal.returns-clause-value
unfolding margin_of
returns-clause-value c =
    let kept : to_z w64 (of_z w64 c.nanometres.result) ≡ c.nanometres.result = omega (arith, ints, c.nanometres.ensures.bound) in
    kept ∙ c.nanometres.ensures.value ∙ c.margin.ensures.value
