use Rattle.std.proofs.lemmas.List.Elements.{All-set}
use Rattle.ngc_machine_files.specs.Ranges.{IsSized, PLACE_LIMIT}
use Rattle.ngc_shifted_program.proofs.origin.with_shifted_origin.Goals as goal

pub invariant_of-shifted : goal.invariant_of-shifted
invariant_of-shifted g c =
    let m = c.in_ok-shifted.shifted in
    record {
      step_in_range = m.step_in_range;
      motors_in_range = m.motors_in_range;
      ticks_in_range = m.ticks_in_range;
      max_rate_in_range = m.max_rate_in_range;
      axis_rates_in_range = m.axis_rates_in_range;
      change_in_range = m.change_in_range;
      corner_in_range = m.corner_in_range;
      jump_in_range = m.jump_in_range;
      turn_in_range = m.turn_in_range;
      own_in_range = m.own_in_range;
      ring_in_range = m.ring_in_range;
      travel_in_range = m.travel_in_range;
      home28_in_range = m.home28_in_range;
      home30_in_range = m.home30_in_range;
      origins_in_range =
          All-set (IsSized PLACE_LIMIT) m.origins c.index_of-index.result c.in-Some.origin c.in-Some.ensures.range m.origins_in_range;
      fixtures_in_range = m.fixtures_in_range;
      margins_in_range = m.margins_in_range;
      stock_in_range = m.stock_in_range;
    }
