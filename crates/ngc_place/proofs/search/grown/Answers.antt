use Rattle.std.proofs.Common.{◌≡◌, to_z, of_z, arith}
use Rattle.std.specs.Int.{w32}
use Rattle.std.proofs.lemmas.Int.{ints}
use Rattle.ngc_machine_files.specs.Machine.{file_of}
use Rattle.ngc_place.specs.Longest.{IsInLimit}
use Rattle.ngc_place.proofs.GrowingIntervals.{few_steps, grown_is}
use Rattle.ngc_place.proofs.search.grown.Goals as goal

pub grown-interval-requires-clause-steps : goal.grown-interval-requires-clause-steps
grown-interval-requires-clause-steps g c =
    let kept : to_z w32 (of_z w32 c.args.around) ≡ c.args.around = omega (arith, ints, c.requires.around) in
    let one = rw kept at c.at-interval.ensures in
    let limit : IsInLimit c.at-interval.result = rw one (record { from = c.requires.around; to = c.requires.around }) in
    few_steps c.args.side c.in-Some.first c.at-interval.result limit c.in-Some.ensures.within

pub grown-requires-clause-steps : goal.grown-requires-clause-steps
grown-requires-clause-steps g c =
    few_steps c.opposite-side.result c.in-Some-growth.then c.grown-interval.result c.grown-interval.ensures.limit c.in-Some-growth.ensures.within

pub returns-in-Some-growth : goal.returns-in-Some-growth
returns-in-Some-growth g c =
    let kept : to_z w32 (of_z w32 c.args.around) ≡ c.args.around = omega (arith, ints, c.requires.around) in
    let one = rw kept at c.at-interval.ensures in
    grown_is (file_of c.args.machine.now) c.args.cuts c.args.axis c.args.programs.now c.args.side c.opposite-side.result c.args.around c.in-Some.first
    c.in-Some-growth.then c.at-interval.result c.grown-interval.result c.grown.result c.args.machine.now.step_in_range c.requires.cuts
    (omega (arith, c.ranges.cuts.fits)) one c.opposite-side.ensures c.grown-interval.ensures.value c.grown.ensures.value c.in-Some.ensures c.in-Some-growth.ensures
