use Rattle.std.proofs.Common.{Ok, subst, sym, arith}
use Rattle.ngc_machine_files.specs.Machine.{file_of}
use Rattle.ngc_certificate_text.specs.Certificate.{CertificateData}
use Rattle.ngc_certificate.specs.Made.{IsMade}
use Rattle.ngc_certificate.specs.Valid.{IsValid}
use Rattle.ngc_certificate.proofs.MadeLaws.{start_refused, off_refused, on_refused, both_made, off_undivided, on_undivided, both_valid}
use Rattle.ngc_certificate.proofs.maker.make.Goals as goal

pub returns-then-not-is_clear_at-clause-made : goal.returns-then-not-is_clear_at-clause-made
returns-then-not-is_clear_at-clause-made g c =
    start_refused (file_of c.args.machine.now) c.args.cuts c.args.off.now c.args.on.now c.is_clear_at.result c.is_clear_at.ensures c.if-not-is_clear_at.true

pub returns-in-Err-clause-made : goal.returns-in-Err-clause-made
returns-in-Err-clause-made g c =
    off_refused {X = CertificateData} (λ x. x) (file_of c.args.machine.now) c.args.cuts c.args.off.now c.args.on.now c.is_clear_at.result c.in-Err.refusal
    c.fault_at.result
    c.is_clear_at.ensures c.if-not-is_clear_at.false c.in-Err.ensures.made c.fault_at.ensures

pub returns-in-Err-fill-clause-made : goal.returns-in-Err-fill-clause-made
returns-in-Err-fill-clause-made g c =
    on_refused {X = CertificateData} (λ x. x) (file_of c.args.machine.now) c.args.cuts c.args.off.now c.args.on.now c.is_clear_at.result c.in-Ok.motions
    c.in-Err-fill.refusal c.fault_at-in-Err-fill.result
    c.is_clear_at.ensures c.if-not-is_clear_at.false c.in-Ok.ensures.made c.in-Err-fill.ensures.made c.fault_at-in-Err-fill.ensures

pub returns-clause-made : goal.returns-clause-made
returns-clause-made g c =
    subst (λ (d : CertificateData). IsMade (file_of c.args.machine.now) c.args.cuts c.args.off.now c.args.on.now (Ok d)) (sym c.parted.ensures.said)
    (both_made (file_of c.args.machine.now) c.args.cuts c.args.off.now c.args.on.now c.is_clear_at.result c.in-Ok.motions c.in-Ok-fill.motions
    c.is_clear_at.ensures c.if-not-is_clear_at.false c.in-Ok.ensures.made c.in-Ok-fill.ensures.made)

pub returns-in-Err-clause-undivided : goal.returns-in-Err-clause-undivided
returns-in-Err-clause-undivided g c =
    off_undivided (file_of c.args.machine.now) c.args.cuts c.args.off.now c.args.on.now c.is_clear_at.result c.in-Err.refusal c.fault_at.result
    c.requires.cuts c.is_clear_at.ensures c.if-not-is_clear_at.false c.in-Err.ensures.made c.fault_at.ensures

pub returns-in-Err-fill-clause-undivided : goal.returns-in-Err-fill-clause-undivided
returns-in-Err-fill-clause-undivided g c =
    on_undivided (file_of c.args.machine.now) c.args.cuts c.args.off.now c.args.on.now c.is_clear_at.result c.in-Ok.motions c.in-Err-fill.refusal
    c.fault_at-in-Err-fill.result
    c.requires.cuts c.is_clear_at.ensures c.if-not-is_clear_at.false c.in-Ok.ensures.made c.in-Err-fill.ensures.made c.fault_at-in-Err-fill.ensures

pub returns-clause-valid : goal.returns-clause-valid
returns-clause-valid g c =
    subst (λ (d : CertificateData). IsValid (file_of c.args.machine.now) c.args.off.now d.off × IsValid (file_of c.args.machine.now) c.args.on.now d.on)
    (sym c.parted.ensures.said)
    (both_valid (file_of c.args.machine.now) c.args.cuts c.args.off.now c.args.on.now c.is_clear_at.result c.in-Ok.motions c.in-Ok-fill.motions
    c.requires.cuts (omega (arith, c.ranges.cuts.fits)) c.is_clear_at.ensures c.if-not-is_clear_at.false c.in-Ok.ensures.made c.in-Ok-fill.ensures.made)
