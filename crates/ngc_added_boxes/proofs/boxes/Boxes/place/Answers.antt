use Rattle.std.proofs.Common.{◌∙◌, List, ap, map, subst, sym}
use Rattle.std.specs.List.{All, list_all}
use Rattle.ngc_fixed_length.specs.declared.points.Point3.{Point3}
use Rattle.ngc_added_boxes.specs.Boxes.{IsAdded}
use Rattle.ngc_added_boxes.specs.Placing.{fits, in_machine}
use Rattle.ngc_added_boxes.specs.declared.boxes.AddedFixture.{AddedFixture}
use Rattle.ngc_added_boxes.proofs.MoreFixtures.{each_fixture}
use Rattle.ngc_added_boxes.proofs.boxes.Boxes.place.Goals as goal

pub extend-requires-clause-each : goal.extend-requires-clause-each
extend-requires-clause-each g c =
    let added = c.fixtures-added.result.now in
    each_fixture c.copied-origins.result added
    (subst (λ (fs : List AddedFixture). All IsAdded fs) (sym c.fixtures-added.ensures.list) c.fixtures-added.ensures.range)
    (ap (λ (o : List Point3). list_all fits (map (in_machine o) added)) c.copied-origins.ensures ∙ sym c.each_fits.ensures ∙ c.if-not-each_fits.false)

pub invariant_of-machine : goal.invariant_of-machine
invariant_of-machine g c =
    let m = c.args.machine in
    record {
      step_in_range = m.step_in_range;
      motors_in_range = m.motors_in_range;
      ticks_in_range = m.ticks_in_range;
      max_rate_in_range = m.max_rate_in_range;
      axis_rates_in_range = m.axis_rates_in_range;
      change_in_range = m.change_in_range;
      corner_in_range = m.corner_in_range;
      jump_in_range = m.jump_in_range;
      turn_in_range = m.turn_in_range;
      own_in_range = m.own_in_range;
      ring_in_range = m.ring_in_range;
      travel_in_range = m.travel_in_range;
      home28_in_range = m.home28_in_range;
      home30_in_range = m.home30_in_range;
      origins_in_range = m.origins_in_range;
      fixtures_in_range = c.extend.ensures.range;
      margins_in_range = m.margins_in_range;
      stock_in_range = m.stock_in_range;
    }

pub invariant_of-machine-2 : goal.invariant_of-machine-2
invariant_of-machine-2 g c =
    let m = c.args.machine in
    record {
      step_in_range = m.step_in_range;
      motors_in_range = m.motors_in_range;
      ticks_in_range = m.ticks_in_range;
      max_rate_in_range = m.max_rate_in_range;
      axis_rates_in_range = m.axis_rates_in_range;
      change_in_range = m.change_in_range;
      corner_in_range = m.corner_in_range;
      jump_in_range = m.jump_in_range;
      turn_in_range = m.turn_in_range;
      own_in_range = m.own_in_range;
      ring_in_range = m.ring_in_range;
      travel_in_range = m.travel_in_range;
      home28_in_range = m.home28_in_range;
      home30_in_range = m.home30_in_range;
      origins_in_range = m.origins_in_range;
      fixtures_in_range = c.extend.ensures.range;
      margins_in_range = m.margins_in_range;
      stock_in_range = c.stock_or-machine.ensures.range;
    }
