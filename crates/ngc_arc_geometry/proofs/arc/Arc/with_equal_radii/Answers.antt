use Rattle.std.proofs.Common.{◌≡◌, ◌≤◌, true, arith}
use Rattle.ngc_arc_geometry.specs.Radii.{lo, hi, roots_within}
use Rattle.ngc_arc_geometry.specs.Centre.{arc_about}
use Rattle.ngc_arc_geometry.proofs.RadiiLemmas.{greater_bound, even_roots}
use Rattle.ngc_arc_geometry.proofs.arc.Arc.with_equal_radii.Goals as goal

pub invariant_of-result : goal.invariant_of-result
invariant_of-result c =
    let a = arc_about c.args.ends.now c.args.centre in
    let lesser : c.about-radii.result.lesser ≡ lo a = cc in
    let greater : c.about-radii.result.greater ≡ hi a = cc in
    let near : roots_within c.args.tolerance (lo a) (hi a) ≡ true = cc in
    let order : lo a ≤ hi a = omega arith in
    let radius = greater_bound c.args.tolerance (lo a) (hi a) c.requires.tolerance order c.requires.radii near in
    let even = even_roots c.args.tolerance (lo a) (hi a) order radius near in
    record {
      start = c.requires.ends.start;
      end = c.requires.ends.end;
      some_radius = omega (arith, lesser);
      radius = radius;
      even = omega (arith, even, c.requires.tolerance);
    }
