use Rattle.ngc_machine_files.specs.Machine.{file_of}
use Rattle.ngc_place.proofs.GrowthTests.{clear_is}
use Rattle.ngc_place.proofs.growth.is_clear_after.Goals as goal

pub shifts-shifts-requires : goal.shifts-shifts-requires
shifts-shifts-requires g c = c.requires.steps

pub action_is_clear-requires-clause-shifts : goal.action_is_clear-requires-clause-shifts
action_is_clear-requires-clause-shifts g c = c.shifts-shifts.ensures.limit

pub action_is_clear-requires-clause-cuts : goal.action_is_clear-requires-clause-cuts
action_is_clear-requires-clause-cuts g c = c.requires.cuts

pub returns : goal.returns
returns g c =
    clear_is (file_of c.args.machine.now) c.args.cuts c.args.growing.now c.args.next.now.reached.now c.args.next.now.moving c.args.next.now.action.now c.args.steps
    c.shifts-shifts.result c.action_is_clear.result c.shifts-shifts.ensures.value c.action_is_clear.ensures
