use Rattle.std.proofs.Common.{rules}
use Rattle.toml.specs.View.{view}
use Rattle.ngc_machine_files.proofs.Contents.{values_read, values_none}
use Rattle.ngc_machine_files.proofs.machine_contents.MachineContents.read.Goals as goal

pub returns-in-Some-2-clause-contents : goal.returns-in-Some-2-clause-contents
returns-in-Some-2-clause-contents c =
    let options = c.in-Some-machine_options in
    let rates = c.in-Some-machine_axis_rates in
    let points = c.in-Some-machine_points in
    let origins = c.in-Some-machine_origins in
    rw c.grid_steps.ensures (
    values_read (view c.args.tree.now) c.in-Some.numbers options.options rates.axis_rates points.points origins.origins c.in-Some-2.fixtures.items c.in-Some.ensures
    (search rules) options.ensures rates.ensures points.ensures origins.ensures (search rules))

pub returns-in-None-clause-contents : goal.returns-in-None-clause-contents
returns-in-None-clause-contents c =
    let options = c.in-Some-machine_options in
    let rates = c.in-Some-machine_axis_rates in
    let points = c.in-Some-machine_points in
    let origins = c.in-Some-machine_origins in
    values_none (view c.args.tree.now) c.in-Some.numbers options.options rates.axis_rates points.points origins.origins c.in-Some.ensures
    (search rules) options.ensures rates.ensures points.ensures origins.ensures (search rules)
