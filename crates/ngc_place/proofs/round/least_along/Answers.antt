use Rattle.std.proofs.Common.{◌≡◌, to_z, of_z, arith, ap, ap₂, ◌∙◌, map, fold}
use Rattle.std.specs.Int.{w64, int_min}
use Rattle.std.proofs.lemmas.Int.{ints, clamps}
use Rattle.ngc_fixed_length.specs.Places.{in_plane}
use Rattle.ngc_place.specs.Inside.{along, least_of}
use Rattle.ngc_place.proofs.round.least_along.Goals as goal

pub least-requires : goal.least-requires
least-requires c = omega (arith, ints, clamps)

pub returns-clause-bound : goal.returns-clause-bound
returns-clause-bound c = omega (arith, ints)

pub returns-clause-value : goal.returns-clause-value
unfolding least_of
returns-clause-value c =
    let axis = c.args.axis in
    let kept : to_z w64 (of_z w64 c.least.result) ≡ c.least.result = omega (arith, ints) in
    let kept_first : to_z w64 (of_z w64 c.min.result) ≡ c.min.result = omega (arith, ints, clamps) in
    let kept_start : to_z w64 (of_z w64 c.along-start.result) ≡ c.along-start.result = omega (arith, ints) in
    let kept_end : to_z w64 (of_z w64 c.along-end.result) ≡ c.along-end.result = omega (arith, ints) in
    let start = c.along-start.ensures.value ∙ ap (along axis) (c.in_plane.ensures ∙ ap₂ in_plane c.plane.ensures c.start.ensures.value) in
    let end = c.along-end.ensures.value ∙ ap (along axis) (c.in_plane-2.ensures ∙ ap₂ in_plane c.plane-2.ensures c.end.ensures.value) in
    let first = c.min.ensures.value ∙ ap₂ int_min (kept_start ∙ start) (kept_end ∙ end) in
    kept ∙ c.least.ensures.value
    ∙ ap₂ (λ z ps. fold int_min z (map (along axis) ps)) (kept_first ∙ first) c.requires
