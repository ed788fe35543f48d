use Rattle.std.proofs.Common.{◌≡◌, ◌≤◌, ◌^◌, ℤ, unsigned_abs, to_z, of_z, arith, sym, subst, ◌∙◌, lit<}
use Rattle.std.specs.Int.{w64}
use Rattle.std.proofs.lemmas.Int.{ints}
use Rattle.ngc_place.specs.declared.round.PlaneAxis.{PlaneAxis}
use Rattle.ngc_place.specs.declared.round.PlaneAxis.TheVariants.{U, V}
use Rattle.ngc_place.specs.declared.round.Reach.{Reach}
use Rattle.ngc_place.specs.Inside.{least_of, greatest_of, least_in, greatest_in}
use Rattle.ngc_place.proofs.round.Reach.of.Goals as goal

kept : (z : ℤ) → unsigned_abs z ≤ 10 ^ 11 → to_z w64 (of_z w64 z) ≡ z
kept z small = omega (arith, ints, small)

size : (z : ℤ) → unsigned_abs z ≤ 10 ^ 11 → unsigned_abs (to_z w64 (of_z w64 z)) ≤ 10 ^ 11
size z small = subst (λ y. unsigned_abs y ≤ 10 ^ 11) (sym (kept z small)) small

pub as_slice-points-requires : goal.as_slice-points-requires
as_slice-points-requires c = lit< tt

pub least_along-requires : goal.least_along-requires
least_along-requires c = c.as_slice-points.ensures.value ∙ c.extremes-extremes.ensures

pub greatest_along-requires : goal.greatest_along-requires
greatest_along-requires c = c.as_slice-points.ensures.value ∙ c.extremes-extremes.ensures

pub least_along-requires-2 : goal.least_along-requires-2
least_along-requires-2 c = c.as_slice-points.ensures.value ∙ c.extremes-extremes.ensures

pub greatest_along-requires-2 : goal.greatest_along-requires-2
greatest_along-requires-2 c = c.as_slice-points.ensures.value ∙ c.extremes-extremes.ensures

pub margin-requires : goal.margin-requires
margin-requires c = c.requires

in_each : (P : PlaneAxis → Type 0) → P U → P V → (axis : PlaneAxis) → P axis
in_each P u v U = u
in_each P u v V = v

pub returns : goal.returns
returns c =
    let arc = c.args.arc.now in
    let r : Reach = record {
      least_u = to_z w64 (of_z w64 c.least_along.result);
      greatest_u = to_z w64 (of_z w64 c.greatest_along.result);
      least_v = to_z w64 (of_z w64 c.least_along-2.result);
      greatest_v = to_z w64 (of_z w64 c.greatest_along-2.result);
      margin = to_z w64 (of_z w64 c.margin.result);
    } in
    record {
      least = in_each (λ axis. least_in axis r ≡ least_of axis arc) (kept c.least_along.result c.least_along.ensures.bound ∙ c.least_along.ensures.value)
          (kept c.least_along-2.result c.least_along-2.ensures.bound ∙ c.least_along-2.ensures.value);
      greatest = in_each (λ axis. greatest_in axis r ≡ greatest_of axis arc) (kept c.greatest_along.result c.greatest_along.ensures.bound ∙ c.greatest_along.ensures.value)
          (kept c.greatest_along-2.result c.greatest_along-2.ensures.bound ∙ c.greatest_along-2.ensures.value);
      margin = kept c.margin.result c.margin.ensures.bound ∙ c.margin.ensures.value;
      least_size = in_each (λ axis. unsigned_abs (least_in axis r) ≤ 10 ^ 11) (size c.least_along.result c.least_along.ensures.bound) (size c.least_along-2.result c.least_along-2.ensures.bound);
      greatest_size = in_each (λ axis. unsigned_abs (greatest_in axis r) ≤ 10 ^ 11) (size c.greatest_along.result c.greatest_along.ensures.bound)
          (size c.greatest_along-2.result c.greatest_along-2.ensures.bound);
      margin_size = size c.margin.result c.margin.ensures.bound;
    }
