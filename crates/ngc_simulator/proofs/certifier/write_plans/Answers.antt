use Rattle.std.proofs.Common.{sym, subst, true, ◌∙◌}
use Rattle.ngc_certificate_text.specs.Certificate.{AreEntries}
use Rattle.ngc_job.specs.Job.{commands_in}
use Rattle.ngc_simulator.proofs.CertifyLaws.{joined_as, parted_stopped, parted_written, same_planned}
use Rattle.ngc_simulator.proofs.certifier.write_plans.Goals as goal

pub motions-off_motions-requires-clause-are : goal.motions-off_motions-requires-clause-are
motions-off_motions-requires-clause-are g c =
    subst AreEntries (sym (same_planned _ _ _ _ _ _ c.machine-machine.ensures.value c.commands-off.ensures c.plan.ensures)) c.requires.off_are

pub motions-on_motions-requires-clause-are : goal.motions-on_motions-requires-clause-are
motions-on_motions-requires-clause-are g c =
    subst AreEntries (sym (same_planned _ _ _ _ _ _ c.machine-machine.ensures.value c.commands-on.ensures c.plan-2.ensures)) c.requires.on_are

pub returns-in-Ok-clause-writes : goal.returns-in-Ok-clause-writes
returns-in-Ok-clause-writes g c =
    parted_written c.args.format c.args.job.now.off (commands_in true c.args.job.now) _ _ _ _ _ _ c.in-One.is
    (c.motions-off_motions.ensures ∙ same_planned _ _ _ _ _ _ c.machine-machine.ensures.value c.commands-off.ensures c.plan.ensures)
    (c.motions-on_motions.ensures ∙ same_planned _ _ _ _ _ _ c.machine-machine.ensures.value c.commands-on.ensures c.plan-2.ensures)
    c.in-Ok.ensures.ok

pub returns-in-Err-clause-writes : goal.returns-in-Err-clause-writes
returns-in-Err-clause-writes g c =
    parted_stopped c.args.format c.args.job.now.off (commands_in true c.args.job.now) _ _ _ _ _ _ c.in-Err.fault c.in-One.is
    (c.motions-off_motions.ensures ∙ same_planned _ _ _ _ _ _ c.machine-machine.ensures.value c.commands-off.ensures c.plan.ensures)
    (c.motions-on_motions.ensures ∙ same_planned _ _ _ _ _ _ c.machine-machine.ensures.value c.commands-on.ensures c.plan-2.ensures)
    c.in-Err.ensures.fault

pub returns-in-Two-clause-writes : goal.returns-in-Two-clause-writes
returns-in-Two-clause-writes g c =
    joined_as c.args.format _ _ c.args.job.now.off (commands_in true c.args.job.now) _ _ _ _ _ _ c.write_alike.result c.in-Two.is
    c.commands-off.ensures c.commands-on.ensures
    (c.motions-off_motions.ensures ∙ same_planned _ _ _ _ _ _ c.machine-machine.ensures.value c.commands-off.ensures c.plan.ensures)
    (c.motions-on_motions.ensures ∙ same_planned _ _ _ _ _ _ c.machine-machine.ensures.value c.commands-on.ensures c.plan-2.ensures)
    c.write_alike.ensures.writes
