use Rattle.std.proofs.Common.{ap, take, ◌∙◌}
use Rattle.ngc_commands.specs.Reached.{after_all}
use Rattle.ngc_commands.specs.declared.reached.Reached.{Reached}
use Rattle.ngc_machine_files.specs.Machine.{file_of}
use Rattle.ngc_program_report.proofs.MetLaws.{met_later}
use Rattle.ngc_program_report.proofs.met.met_at.Goals as goal

pub returns : goal.returns
returns g c =
    met_later (file_of c.args.machine.now) c.args.commands.now c.args.at c.min-at.result c.to_grid.result c.place_fault.result c.met_first.result
    c.after_all-reached.result
    c.to_grid.ensures.value c.place_fault.ensures c.in_default.is c.min-at.ensures (c.after_all-reached.ensures ∙ ap (λ (r : Reached). after_all r (take c.min-at.result c.args.commands.now)) c.at_start.ensures) c.met_first.ensures
