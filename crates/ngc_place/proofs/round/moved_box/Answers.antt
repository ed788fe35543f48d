use Rattle.ngc_place.proofs.round.moved_box.Goals as goal

pub of-reach-requires : goal.of-reach-requires
of-reach-requires c = c.requires.step

pub low_moved-requires-clause-step : goal.low_moved-requires-clause-step
low_moved-requires-clause-step c = c.requires.step

pub low_moved-requires-clause-by : goal.low_moved-requires-clause-by
low_moved-requires-clause-by c = c.requires.shifts.low

pub low_moved-requires-clause-reach : goal.low_moved-requires-clause-reach
low_moved-requires-clause-reach c = c.of-reach.ensures

pub high_moved-requires-clause-step : goal.high_moved-requires-clause-step
high_moved-requires-clause-step c = c.requires.step

pub high_moved-requires-clause-by : goal.high_moved-requires-clause-by
high_moved-requires-clause-by c = c.requires.shifts.high

pub high_moved-requires-clause-reach : goal.high_moved-requires-clause-reach
high_moved-requires-clause-reach c = c.of-reach.ensures

pub returns-clause-low : goal.returns-clause-low
returns-clause-low c = c.low_moved.ensures

pub returns-clause-high : goal.returns-clause-high
returns-clause-high c = c.high_moved.ensures
