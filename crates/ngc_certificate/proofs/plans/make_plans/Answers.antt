use Rattle.std.proofs.Common.{arith}
use Rattle.ngc_machine_files.specs.Machine.{file_of}
use Rattle.ngc_certificate_text.specs.Certificate.{CertificateData}
use Rattle.ngc_certificate.specs.Planned.{planned}
use Rattle.ngc_certificate.proofs.MadeLaws.{start_refused, off_refused, on_refused, both_made, off_undivided, on_undivided, both_valid}
use Rattle.ngc_certificate.proofs.plans.make_plans.Goals as goal

pub returns-then-not-is_clear_at-clause-made : goal.returns-then-not-is_clear_at-clause-made
returns-then-not-is_clear_at-clause-made g c =
    start_refused (file_of c.args.machine.now) c.args.cuts c.args.off.now c.args.on.now c.is_clear_at.result c.is_clear_at.ensures c.if-not-is_clear_at.true

pub returns-in-Err-clause-made : goal.returns-in-Err-clause-made
returns-in-Err-clause-made g c =
    off_refused {X = CertificateData} (λ x. x) (file_of c.args.machine.now) c.args.cuts c.args.off.now c.args.on.now c.is_clear_at.result c.in-Err.refusal c.fault_at.result
    c.is_clear_at.ensures c.if-not-is_clear_at.false c.in-Err.ensures.made c.fault_at.ensures

pub returns-in-Err-fill-clause-made : goal.returns-in-Err-fill-clause-made
returns-in-Err-fill-clause-made g c =
    on_refused {X = CertificateData} (λ x. x) (file_of c.args.machine.now) c.args.cuts c.args.off.now c.args.on.now c.is_clear_at.result (planned c.args.machine.now.step c.args.off.now c.in-Ok.plan)
    c.in-Err-fill.refusal c.fault_at-in-Err-fill.result
    c.is_clear_at.ensures c.if-not-is_clear_at.false c.in-Ok.ensures.made c.in-Err-fill.ensures.made
    c.fault_at-in-Err-fill.ensures

pub returns-clause-made : goal.returns-clause-made
returns-clause-made g c =
    both_made (file_of c.args.machine.now) c.args.cuts c.args.off.now c.args.on.now c.is_clear_at.result (planned c.args.machine.now.step c.args.off.now c.in-Ok.plan) (planned c.args.machine.now.step c.args.on.now c.in-Ok-fill.plan)
    c.is_clear_at.ensures c.if-not-is_clear_at.false c.in-Ok.ensures.made c.in-Ok-fill.ensures.made

pub returns-in-Err-clause-undivided : goal.returns-in-Err-clause-undivided
returns-in-Err-clause-undivided g c =
    off_undivided (file_of c.args.machine.now) c.args.cuts c.args.off.now c.args.on.now c.is_clear_at.result c.in-Err.refusal c.fault_at.result
    c.requires.cuts c.is_clear_at.ensures c.if-not-is_clear_at.false c.in-Err.ensures.made c.fault_at.ensures

pub returns-in-Err-fill-clause-undivided : goal.returns-in-Err-fill-clause-undivided
returns-in-Err-fill-clause-undivided g c =
    on_undivided (file_of c.args.machine.now) c.args.cuts c.args.off.now c.args.on.now c.is_clear_at.result (planned c.args.machine.now.step c.args.off.now c.in-Ok.plan)
    c.in-Err-fill.refusal c.fault_at-in-Err-fill.result
    c.requires.cuts c.is_clear_at.ensures c.if-not-is_clear_at.false c.in-Ok.ensures.made c.in-Err-fill.ensures.made c.fault_at-in-Err-fill.ensures

pub returns-clause-valid : goal.returns-clause-valid
returns-clause-valid g c =
    both_valid (file_of c.args.machine.now) c.args.cuts c.args.off.now c.args.on.now c.is_clear_at.result (planned c.args.machine.now.step c.args.off.now c.in-Ok.plan) (planned c.args.machine.now.step c.args.on.now c.in-Ok-fill.plan)
    c.requires.cuts (omega (arith, c.ranges.cuts.fits)) c.is_clear_at.ensures c.if-not-is_clear_at.false c.in-Ok.ensures.made c.in-Ok-fill.ensures.made
