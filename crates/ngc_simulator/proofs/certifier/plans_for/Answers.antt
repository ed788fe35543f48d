use Rattle.std.proofs.Common.{sym, ◌∙◌}
use Rattle.ngc_certificate.specs.Plans.{both_planned}
use Rattle.ngc_machine_files.specs.Machine.{file_of}
use Rattle.ngc_simulator.proofs.CertifyLaws.{made_alike}
use Rattle.ngc_simulator.proofs.certifier.plans_for.Goals as goal

pub returns-else-has_deleted_lines-clause-made : goal.returns-else-has_deleted_lines-clause-made
returns-else-has_deleted_lines-clause-made g c =
    made_alike both_planned c.args.job.now c.args.cuts c.commands-off.result.now (file_of c.machine-machine.result.now) c.make_plans_alike.result
    c.commands-off.ensures c.machine-machine.ensures.value (sym c.has_deleted_lines.ensures ∙ c.if-has_deleted_lines.false)
    c.make_plans_alike.ensures.made c.make_plans_alike.ensures.valid
