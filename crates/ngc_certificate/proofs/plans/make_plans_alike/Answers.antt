use Rattle.std.proofs.Common.{arith}
use Rattle.ngc_machine_files.specs.Machine.{file_of}
use Rattle.ngc_certificate_text.specs.Certificate.{CertificateData}
use Rattle.ngc_certificate.specs.Planned.{planned}
use Rattle.ngc_certificate.proofs.MadeLaws.{start_refused, off_refused, both_made, off_undivided, both_valid}
use Rattle.ngc_certificate.proofs.plans.make_plans_alike.Goals as goal

pub returns-then-not-is_clear_at-clause-made : goal.returns-then-not-is_clear_at-clause-made
returns-then-not-is_clear_at-clause-made g c =
    start_refused (file_of c.args.machine.now) c.args.cuts c.args.commands.now c.args.commands.now c.is_clear_at.result c.is_clear_at.ensures c.if-not-is_clear_at.true

pub returns-clause-made : goal.returns-clause-made
returns-clause-made g c =
    off_refused {X = CertificateData} (λ x. x) (file_of c.args.machine.now) c.args.cuts c.args.commands.now c.args.commands.now c.is_clear_at.result c.in-Err.refusal c.fault_at.result
    c.is_clear_at.ensures c.if-not-is_clear_at.false c.in-Err.ensures.made c.fault_at.ensures

pub returns-clause-undivided : goal.returns-clause-undivided
returns-clause-undivided g c = λ clears.
    off_undivided (file_of c.args.machine.now) c.args.cuts c.args.commands.now c.args.commands.now c.is_clear_at.result c.in-Err.refusal c.fault_at.result
    c.requires.cuts c.is_clear_at.ensures c.if-not-is_clear_at.false c.in-Err.ensures.made c.fault_at.ensures clears clears

pub returns-in-Ok-clause-made : goal.returns-in-Ok-clause-made
returns-in-Ok-clause-made g c =
    both_made (file_of c.args.machine.now) c.args.cuts c.args.commands.now c.args.commands.now c.is_clear_at.result (planned c.args.machine.now.step c.args.commands.now c.in-Ok.off) (planned c.args.machine.now.step c.args.commands.now c.in-Ok.off)
    c.is_clear_at.ensures c.if-not-is_clear_at.false c.in-Ok.ensures.made c.in-Ok.ensures.made

pub returns-in-Ok-clause-valid : goal.returns-in-Ok-clause-valid
returns-in-Ok-clause-valid g c =
    both_valid (file_of c.args.machine.now) c.args.cuts c.args.commands.now c.args.commands.now c.is_clear_at.result (planned c.args.machine.now.step c.args.commands.now c.in-Ok.off) (planned c.args.machine.now.step c.args.commands.now c.in-Ok.off)
    c.requires.cuts (omega (arith, c.ranges.cuts.fits)) c.is_clear_at.ensures c.if-not-is_clear_at.false c.in-Ok.ensures.made c.in-Ok.ensures.made
