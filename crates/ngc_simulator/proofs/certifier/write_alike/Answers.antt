use Rattle.std.proofs.Common.{List, ap, ◌∙◌}
use Rattle.ngc_certificate_text.specs.Order.{items_in}
use Rattle.ngc_certificate_text.specs.declared.certificate.EntryKind.{EntryKind}
use Rattle.ngc_inputs.proofs.JobLaws.{keeps_same}
use Rattle.ngc_simulator.proofs.CertifyLaws.{joined_stopped, joined_written}
use Rattle.ngc_simulator.proofs.certifier.write_alike.Goals as goal

pub returns-in-Err-clause-writes : goal.returns-in-Err-clause-writes
returns-in-Err-clause-writes g c = keeps_same _

pub returns-in-Ok-write_joined-clause-writes : goal.returns-in-Ok-write_joined-clause-writes
returns-in-Ok-write_joined-clause-writes g c =
    let off = g.M.MotionList.entries c.args.off_motions.now in
    let on = g.M.MotionList.entries c.args.on_motions.now in
    joined_written c.args.off.now c.args.on.now off on c.common_motions-both.result _ _ _ c.common_motions-both.ensures c.first_joined.ensures.entries
    (ap (λ (kinds : List EntryKind). items_in kinds off on) c.as_slice.ensures.value ∙ c.in-Ok.ensures.items) c.in-Ok-write_joined.ensures.ok

pub returns-clause-writes : goal.returns-clause-writes
returns-clause-writes g c =
    let off = g.M.MotionList.entries c.args.off_motions.now in
    let on = g.M.MotionList.entries c.args.on_motions.now in
    joined_stopped c.args.off.now c.args.on.now off on c.common_motions-both.result _ _ _ c.in-Err-write_joined.fault c.common_motions-both.ensures
    c.first_joined.ensures.entries (ap (λ (kinds : List EntryKind). items_in kinds off on) c.as_slice.ensures.value ∙ c.in-Ok.ensures.items)
    c.in-Err-write_joined.ensures.fault
