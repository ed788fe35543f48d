use Rattle.std.proofs.Common.{◌≡◌, None, Some, sym, ◌∙◌, refl}
use Rattle.std.specs.Prelude.{Ok, true}
use Rattle.ngc_certificate_text.specs.Contents.{certificate_data}
use Rattle.ngc_job.specs.Job.{commands_in}
use Rattle.ngc_checker.specs.FirstRefusal.{settings_fault}
use Rattle.ngc_checker.proofs.Acceptance.{accepted}
use Rattle.ngc_checker.proofs.NoRefusal.{refused_valid}
use Rattle.ngc_checker.proofs.JobLaws.{same_settings}
use Rattle.ngc_checker.proofs.checker.check_job.Goals as goal

pub new-requires : goal.new-requires
new-requires g c =
    let job = c.args.job in
    let on = commands_in true job in
    let good = c.machine.ensures.job in
    let said = certificate_data c.args.certificate.now in
    let none : settings_fault job.machine (Ok job.off) (Ok on) said ≡ None =
    same_settings _ _ _ _ _ _ _ _ said c.machine.ensures.value c.commands-off.ensures c.commands-on.ensures c.motions-off_motions.ensures
    c.motions-on_motions.ensures ∙ sym c.settings_fault.ensures ∙ c.in-None.is in
    accepted job.machine job.machine job.tools job.off on said refl good.machine none good.off_commands good.on_commands

pub returns-in-Some-clause-verdict : goal.returns-in-Some-clause-verdict
returns-in-Some-clause-verdict g c =
    same_settings _ _ _ _ _ _ _ _ (certificate_data c.args.certificate.now) c.machine.ensures.value c.commands-off.ensures c.commands-on.ensures
    c.motions-off_motions.ensures c.motions-on_motions.ensures ∙ sym c.settings_fault.ensures ∙ c.in-Some.is

pub returns-in-None-clause-verdict : goal.returns-in-None-clause-verdict
returns-in-None-clause-verdict g c = (
  same_settings _ _ _ _ _ _ _ _ (certificate_data c.args.certificate.now) c.machine.ensures.value c.commands-off.ensures c.commands-on.ensures
      c.motions-off_motions.ensures c.motions-on_motions.ensures ∙ sym c.settings_fault.ensures ∙ c.in-None.is,
  c.new.ensures,
)

pub returns-in-Some-clause-accepts : goal.returns-in-Some-clause-accepts
returns-in-Some-clause-accepts g c off_valid on_valid =
    let job = c.args.job in
    let on = commands_in true job in
    let said = certificate_data c.args.certificate.now in
    let some : settings_fault job.machine (Ok job.off) (Ok on) said ≡ Some c.in-Some.fault =
    same_settings _ _ _ _ _ _ _ _ said c.machine.ensures.value c.commands-off.ensures c.commands-on.ensures c.motions-off_motions.ensures
    c.motions-on_motions.ensures ∙ sym c.settings_fault.ensures ∙ c.in-Some.is in
    refused_valid job.machine job.off on said c.in-Some.fault off_valid on_valid some
