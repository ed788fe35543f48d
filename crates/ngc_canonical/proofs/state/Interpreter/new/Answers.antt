use Rattle.std.proofs.Common.{refl, arith}
use Rattle.std.proofs.Math.Path.{fun_ext}
use Rattle.std.proofs.lemmas.Int.{ints}
use Rattle.ngc_canonical.proofs.state.Interpreter.new.Goals as goal

pub returns : goal.returns
returns g c =
    rw (
      c.start.ensures,
      c.new-2.ensures,
      c.reach_of.ensures,
      fun_ext c.in-Ok.ensures.zero,
      c.zero.ensures,
      c.zero-2.ensures,
      c.zero-3.ensures,
      c.zero-4.ensures,
      c.new-3.ensures.items,
    ) refl

pub invariant_of-result-clause-place_in_range : goal.invariant_of-result-clause-place_in_range
invariant_of-result-clause-place_in_range g c =
    let t = c.args.machine.now.travel_in_range in record {
      x = omega (arith, ints, t.low_sized.x, t.high_sized.x, t.start_above.x, t.start_below.x);
      y = omega (arith, ints, t.low_sized.y, t.high_sized.y, t.start_above.y, t.start_below.y);
      z = omega (arith, ints, t.low_sized.z, t.high_sized.z, t.start_above.z, t.start_below.z);
    }
