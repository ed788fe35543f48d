use Rattle.std.proofs.Common.{◌≡◌, ◌∙◌, Err, List, true, subst, sym, rules}
use Rattle.ngc_certificate.specs.Made.{IsMade, IsSettingMade}
use Rattle.ngc_certificate.specs.Uncleared.{AreUncleared}
use Rattle.ngc_certificate.specs.declared.fault.MakeFault.TheVariants.{NotCleared}
use Rattle.ngc_certificate_text.specs.declared.piece.Setting.{Setting}
use Rattle.ngc_certificate_text.specs.declared.piece.Setting.TheVariants.{Off}
use Rattle.ngc_commands.specs.declared.command.Command.{Command}
use Rattle.ngc_job.specs.Job.{commands_in}
use Rattle.ngc_machine_files.specs.Machine.{MachineFile, file_of}
use Rattle.ngc_program_report.specs.JobReports.{IsStartClear}
use Rattle.ngc_program_report.proofs.NotMadeLaws.{alike_refused, off_cleared, off_refused, start_clear}
use Rattle.ngc_program_report.proofs.job_report.off_uncleared.Goals.{in_default-via-in-On+else-has_deleted_lines, in_default-via-in_default}
use Rattle.ngc_program_report.proofs.job_report.off_uncleared.Goals as goal

pub returns-in-On-clause-are : goal.returns-in-On-clause-are
returns-in-On-clause-are g c =
    let j = c.args.job.now in
    let start = subst IsStartClear c.machine-machine.ensures.value
    (start_clear (file_of c.machine-machine.result.now) c.is_start_refused.result c.is_start_refused.ensures c.if-is_start_refused.false) in
    let made = subst (λ (s : Setting). IsMade j.machine c.args.cuts j.off (commands_in true j) (Err (NotCleared s c.args.command))) c.in-On.is
    c.requires.refused in
    subst (AreUncleared j.machine c.args.cuts j.off) (sym c.new.ensures.items)
    (off_cleared j.machine c.args.cuts j.off (commands_in true j) c.args.command start made)

pub uncleared_from-requires-clause-refused : goal.uncleared_from-requires-clause-refused
uncleared_from-requires-clause-refused g c =
    let j = c.args.job.now in
    let start = subst IsStartClear c.machine-machine.ensures.value
    (start_clear (file_of c.machine-machine.result.now) c.is_start_refused.result c.is_start_refused.ensures c.if-is_start_refused.false) in
    let made : IsSettingMade j.machine c.args.cuts j.off (Err c.args.command) =
    elim c.in_default.branch [
      | in_default-via-in-On+else-has_deleted_lines w ↦ (
          alike_refused j c.args.cuts c.args.command start (sym w.has_deleted_lines.ensures ∙ w.if-has_deleted_lines.false)
          (subst (λ (s : Setting). IsMade j.machine c.args.cuts j.off (commands_in true j) (Err (NotCleared s c.args.command))) w.in-On.is c.requires.refused))
      | in_default-via-in_default w ↦ (
          let off : c.args.setting ≡ Off = search rules in
          off_refused j.machine c.args.cuts j.off (commands_in true j) c.args.command start
          (subst (λ (s : Setting). IsMade j.machine c.args.cuts j.off (commands_in true j) (Err (NotCleared s c.args.command))) off c.requires.refused))
    ] in
    subst (λ (m : MachineFile). IsSettingMade m c.args.cuts c.commands-off.result.now (Err c.args.command)) (sym c.machine-machine.ensures.value)
    (subst (λ (cs : List Command). IsSettingMade j.machine c.args.cuts cs (Err c.args.command)) (sym c.commands-off.ensures) made)
