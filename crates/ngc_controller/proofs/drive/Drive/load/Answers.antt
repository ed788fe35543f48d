use Rattle.std.proofs.Common.{arith, ap, ◌∙◌}
use Rattle.ngc_machine_files.specs.Machine.{file_of}
use Rattle.ngc_planner.specs.Trail.{JointsData}
use Rattle.ngc_planner.proofs.BoundLaws.{may_travel_least, ranges_of}
use Rattle.ngc_controller.proofs.drive.Drive.load.Goals as goal

pub leg_between-leg-requires-clause-entry : goal.leg_between-leg-requires-clause-entry
leg_between-leg-requires-clause-entry g c =
    let moves = c.path_steps-moves.ensures.moves (omega (arith, c.if-moves.true)) in
    let least = may_travel_least (file_of c.args.machine.now) c.args.loaded.now.queued.command.action c.args.commands.now c.args.index
    c.path_steps-moves.result 1 (ranges_of c.args.machine.now) moves in
    let entry = c.entry-entry.ensures ∙ ap (λ (j : JointsData). j.entry) c.requires.joints in
    omega (arith, least.some, least.entry, entry)
