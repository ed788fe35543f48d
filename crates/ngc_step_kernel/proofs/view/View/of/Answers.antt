use Rattle.std.proofs.Common.{arith, ◌≡◌}
use Rattle.std.proofs.lemmas.Int.{ints}
use Rattle.ngc_arc_geometry.specs.Shape.{start_of, end_of}
use Rattle.ngc_step_kernel.specs.View.{way_between}
use Rattle.ngc_step_kernel.proofs.ViewLemmas.{start_radius, end_radius}
use Rattle.ngc_step_kernel.proofs.view.View.of.Goals as goal

pub returns-clause-range : goal.returns-clause-range
returns-clause-range c =
    let a = c.args.arc.now in
    let start : c.way_between.result ≡ way_between a.turn a.centre (start_of a) = cc in
    let end : c.way_between-2.result ≡ way_between a.turn a.centre (end_of a) = cc in
    let centre = c.centre-centre.ensures in
    record {
      centre_u = omega (arith, ints, c.nanometres.ensures.value, centre.u);
      centre_v = omega (arith, ints, c.turned.ensures.bound, c.nanometres-2.ensures.value, centre.v);
      start = rw start (start_radius a centre.arc);
      end = rw end (end_radius a centre.arc);
    }
