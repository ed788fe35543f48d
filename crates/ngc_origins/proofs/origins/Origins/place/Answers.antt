use Rattle.std.proofs.Common.{List, subst, sym}
use Rattle.std.specs.List.{All}
use Rattle.ngc_fixed_length.specs.declared.points.Point3.{Point3}
use Rattle.ngc_machine_files.specs.Ranges.{IsSized, PLACE_LIMIT}
use Rattle.ngc_origins.proofs.ReplacedOrigins.{replaced_sized}
use Rattle.ngc_origins.proofs.origins.Origins.place.Goals as goal

pub invariant_of-machine : goal.invariant_of-machine
invariant_of-machine g c =
    let m = c.args.machine in
    record {
      step_in_range = m.step_in_range;
      motors_in_range = m.motors_in_range;
      ticks_in_range = m.ticks_in_range;
      max_rate_in_range = m.max_rate_in_range;
      axis_rates_in_range = m.axis_rates_in_range;
      change_in_range = m.change_in_range;
      corner_in_range = m.corner_in_range;
      jump_in_range = m.jump_in_range;
      turn_in_range = m.turn_in_range;
      own_in_range = m.own_in_range;
      ring_in_range = m.ring_in_range;
      travel_in_range = m.travel_in_range;
      home28_in_range = m.home28_in_range;
      home30_in_range = m.home30_in_range;
      origins_in_range = subst (λ (places : List Point3). All (IsSized PLACE_LIMIT) places) (sym c.replaced-machine.ensures)
          (replaced_sized c.self.inside.systems m.origins c.self.invariant.sized m.origins_in_range);
      fixtures_in_range = m.fixtures_in_range;
      margins_in_range = m.margins_in_range;
      stock_in_range = m.stock_in_range;
    }
