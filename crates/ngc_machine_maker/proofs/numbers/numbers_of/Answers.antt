use Rattle.ngc_machine_maker.proofs.PlaceLaws.{numbers_in_file, numbers_as_asked}
use Rattle.ngc_machine_maker.proofs.numbers.numbers_of.Goals as goal

pub returns-clause-range : goal.returns-clause-range
returns-clause-range c =
    rw (c.lows_of.ensures, c.highs_of.ensures, c.place_of.ensures, c.place_of-2.ensures, c.place_of-3.ensures)
    (numbers_in_file c.args.figures.now c.in_ok-scale.scale c.in_ok-rates.rates c.in_ok-steps.steps c.in_ok-ring.ring c.in_ok-scale.ensures.range c.in_ok-rates.ensures.range c.in_ok-steps.ensures.range
    c.in_ok-ring.ensures.range)

pub returns-clause-safe : goal.returns-clause-safe
returns-clause-safe c =
    rw (c.lows_of.ensures, c.highs_of.ensures, c.place_of.ensures, c.place_of-2.ensures, c.place_of-3.ensures)
    (numbers_as_asked c.args.figures.now c.in_ok-scale.scale c.in_ok-rates.rates c.in_ok-steps.steps c.in_ok-ring.ring c.in_ok-scale.ensures.same c.in_ok-rates.ensures.safe c.in_ok-steps.ensures.safe)
