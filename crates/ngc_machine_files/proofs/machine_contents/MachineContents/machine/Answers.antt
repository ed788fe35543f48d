use Rattle.std.proofs.lemmas.Int.{ints}
use Rattle.std.proofs.Common.{ap, ◌∙◌, ◌≡◌, map, arith, refl, unsigned_abs}
use Rattle.ngc_machine_files.specs.MachineText.{fixture_of}
use Rattle.ngc_machine_files.proofs.Ranges.{origins_in_range, fixtures_in_range}
use Rattle.ngc_machine_files.proofs.machine_contents.MachineContents.machine.Goals as goal

pub invariant_of-result : goal.invariant_of-result
invariant_of-result c = record {
  step_in_range = rw c.step_length.ensures c.requires.step;
  motors_in_range = rw c.step_length.ensures c.requires.motors;
  ticks_in_range = c.rate.ensures.range;
  max_rate_in_range = c.rate-2.ensures.range;
  axis_rates_in_range = c.axis_rates.ensures.range;
  change_in_range = c.rate-3.ensures.range;
  corner_in_range = c.rate-4.ensures.range;
  jump_in_range = c.jump.ensures.range;
  turn_in_range = c.arc_bound.ensures.range;
  own_in_range = c.own.ensures.range;
  ring_in_range = c.ring.ensures.range;
  travel_in_range = rw (c.step_length.ensures, c.place.ensures, c.place-2.ensures, c.place-3.ensures) c.requires.travel;
  home28_in_range = rw c.place-4.ensures c.requires.home28;
  home30_in_range = rw c.place-5.ensures c.requires.home30;
  origins_in_range = origins_in_range _ _ c.origins.ensures c.requires.origins;
  fixtures_in_range =
      fixtures_in_range _ _ (c.in_ok-fixtures.ensures ∙ ap (map fixture_of) c.as_slice.ensures.value) c.requires.fixture_count c.requires.fixtures;
  margins_in_range = c.margins.ensures.range;
  stock_in_range = c.stock.ensures.range;
}

pub returns : goal.returns
returns c =
    let n = c.args.self.now.numbers in
    let ticks : c.rate.result ≡ unsigned_abs n.ticks_per_second = omega (arith, ints, c.rate.ensures.value) in
    let max_rate : c.rate-2.result ≡ unsigned_abs n.max_rate = omega (arith, ints, c.rate-2.ensures.value) in
    let change : c.rate-3.result ≡ unsigned_abs n.change = omega (arith, ints, c.rate-3.ensures.value) in
    let corner : c.rate-4.result ≡ unsigned_abs n.corner = omega (arith, ints, c.rate-4.ensures.value) in
    let jump : c.jump.result ≡ unsigned_abs n.optional.jump = omega (arith, ints, c.jump.ensures.value) in
    let turn : c.arc_bound.result ≡ unsigned_abs n.turn = omega (arith, ints, c.arc_bound.ensures.value) in
    let ring : c.ring.result ≡ unsigned_abs n.optional.ring = omega (arith, ints, c.ring.ensures.value) in
    let fixtures = c.in_ok-fixtures.ensures ∙ ap (map fixture_of) c.as_slice.ensures.value in
    rw (
      c.step_length.ensures,
      ticks,
      max_rate,
      c.axis_rates.ensures.value,
      change,
      corner,
      jump,
      turn,
      c.own.ensures.value,
      ring,
      c.arc_feed.ensures,
      c.has_changer.ensures,
      c.place.ensures,
      c.place-2.ensures,
      c.place-3.ensures,
      c.place-4.ensures,
      c.place-5.ensures,
      c.origins.ensures,
      fixtures,
      c.margins.ensures.value,
      c.stock.ensures.value,
    ) refl
