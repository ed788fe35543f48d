use Rattle.std.proofs.Common.{ap, take, ◌∙◌}
use Rattle.ngc_commands.specs.Reached.{after_all}
use Rattle.ngc_commands.specs.declared.reached.Reached.{Reached}
use Rattle.ngc_machine_files.specs.Machine.{file_of}
use Rattle.ngc_sentences.proofs.Said.{says_as}
use Rattle.ngc_program_report.proofs.DemandedLaws.{demanded_later}
use Rattle.ngc_program_report.proofs.demanded.say_at.Goals as goal

pub returns : goal.returns
returns g c =
    says_as c.say_first.ensures
    (demanded_later c.args.form (file_of c.args.machine.now) c.args.commands.now c.args.at c.min-at.result c.args.number c.after_all-reached.result
    c.min-at.ensures (c.after_all-reached.ensures ∙ ap (λ (r : Reached). after_all r (take c.min-at.result c.args.commands.now)) c.at_start.ensures))
