use Rattle.std.proofs.Common.{Ok, subst, sym, arith}
use Rattle.ngc_machine_files.specs.Machine.{file_of}
use Rattle.ngc_certificate_text.specs.Certificate.{CertificateData}
use Rattle.ngc_certificate.specs.Made.{IsMade}
use Rattle.ngc_certificate.specs.Valid.{IsValid}
use Rattle.ngc_certificate.proofs.MadeLaws.{start_refused, off_refused, both_made, off_undivided, both_valid, copied_made}
use Rattle.ngc_certificate.proofs.maker.make_alike.Goals as goal

pub returns-then-not-is_clear_at-clause-made : goal.returns-then-not-is_clear_at-clause-made
returns-then-not-is_clear_at-clause-made g c =
    start_refused (file_of c.args.machine.now) c.args.cuts c.args.commands.now c.args.commands.now c.is_clear_at.result c.is_clear_at.ensures
    c.if-not-is_clear_at.true

pub returns-in-Err-clause-made : goal.returns-in-Err-clause-made
returns-in-Err-clause-made g c =
    off_refused {X = CertificateData} (λ x. x) (file_of c.args.machine.now) c.args.cuts c.args.commands.now c.args.commands.now c.is_clear_at.result
    c.in-Err.refusal c.fault_at.result
    c.is_clear_at.ensures c.if-not-is_clear_at.false c.in-Err.ensures.made c.fault_at.ensures

pub returns-in-Err-clause-undivided : goal.returns-in-Err-clause-undivided
returns-in-Err-clause-undivided g c = λ clears.
    off_undivided (file_of c.args.machine.now) c.args.cuts c.args.commands.now c.args.commands.now c.is_clear_at.result c.in-Err.refusal c.fault_at.result
    c.requires.cuts c.is_clear_at.ensures c.if-not-is_clear_at.false c.in-Err.ensures.made c.fault_at.ensures clears clears

pub returns-in-Ok-copy-clause-made : goal.returns-in-Ok-copy-clause-made
returns-in-Ok-copy-clause-made g c =
    subst (λ (d : CertificateData). IsMade (file_of c.args.machine.now) c.args.cuts c.args.commands.now c.args.commands.now (Ok d)) (sym c.parted.ensures.said)
    (both_made (file_of c.args.machine.now) c.args.cuts c.args.commands.now c.args.commands.now c.is_clear_at.result c.in-Ok.motions c.in-Ok-copy.on
    c.is_clear_at.ensures c.if-not-is_clear_at.false c.in-Ok.ensures.made
    (copied_made (file_of c.args.machine.now) c.args.cuts c.args.commands.now c.in-Ok.motions c.in-Ok-copy.on c.in-Ok-copy.ensures c.in-Ok.ensures.made))

pub returns-in-Ok-copy-clause-valid : goal.returns-in-Ok-copy-clause-valid
returns-in-Ok-copy-clause-valid g c =
    subst (λ (d : CertificateData). IsValid (file_of c.args.machine.now) c.args.commands.now d.off ×
    IsValid (file_of c.args.machine.now) c.args.commands.now d.on) (sym c.parted.ensures.said)
    (both_valid (file_of c.args.machine.now) c.args.cuts c.args.commands.now c.args.commands.now c.is_clear_at.result c.in-Ok.motions c.in-Ok-copy.on
    c.requires.cuts (omega (arith, c.ranges.cuts.fits)) c.is_clear_at.ensures c.if-not-is_clear_at.false c.in-Ok.ensures.made
    (copied_made (file_of c.args.machine.now) c.args.cuts c.args.commands.now c.in-Ok.motions c.in-Ok-copy.on c.in-Ok-copy.ensures c.in-Ok.ensures.made))
