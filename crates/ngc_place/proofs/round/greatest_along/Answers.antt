use Rattle.std.proofs.Common.{◌≡◌, to_z, of_z, arith, ap, ap₂, ◌∙◌, map, fold}
use Rattle.std.specs.Int.{w64, int_max}
use Rattle.std.proofs.lemmas.Int.{ints, clamps}
use Rattle.ngc_fixed_length.specs.Places.{in_plane}
use Rattle.ngc_place.specs.Inside.{along, greatest_of}
use Rattle.ngc_place.proofs.round.greatest_along.Goals as goal

pub greatest-requires : goal.greatest-requires
greatest-requires c = omega (arith, ints, clamps)

pub returns-clause-bound : goal.returns-clause-bound
returns-clause-bound c = omega (arith, ints)

pub returns-clause-value : goal.returns-clause-value
unfolding greatest_of
returns-clause-value c =
    let axis = c.args.axis in
    let kept : to_z w64 (of_z w64 c.greatest.result) ≡ c.greatest.result = omega (arith, ints) in
    let kept_first : to_z w64 (of_z w64 c.max.result) ≡ c.max.result = omega (arith, ints, clamps) in
    let kept_start : to_z w64 (of_z w64 c.along-start.result) ≡ c.along-start.result = omega (arith, ints) in
    let kept_end : to_z w64 (of_z w64 c.along-end.result) ≡ c.along-end.result = omega (arith, ints) in
    let start = c.along-start.ensures.value ∙ ap (along axis) (c.in_plane.ensures ∙ ap₂ in_plane c.plane.ensures c.start.ensures.value) in
    let end = c.along-end.ensures.value ∙ ap (along axis) (c.in_plane-2.ensures ∙ ap₂ in_plane c.plane-2.ensures c.end.ensures.value) in
    let first = c.max.ensures.value ∙ ap₂ int_max (kept_start ∙ start) (kept_end ∙ end) in
    kept ∙ c.greatest.ensures.value
    ∙ ap₂ (λ z ps. fold int_max z (map (along axis) ps)) (kept_first ∙ first) c.requires
