use Rattle.std.proofs.Common.{◌≡◌, ◌<◌, length}
use Rattle.ngc_certificate_text.specs.declared.expected.Expected.TheVariants as expect
use Rattle.ngc_certificate_text.proofs.LinesSoFar.{all_read, last_line, empty_items, some_items}
use Rattle.ngc_certificate_text.proofs.certificate_lines.CertificateLines.finish.Goals.{else-has_ended-via-then-has_ended+else-is_empty}
use Rattle.ngc_certificate_text.proofs.certificate_lines.CertificateLines.finish.Goals.{else-has_ended-via-else-has_ended}
use Rattle.ngc_certificate_text.proofs.certificate_lines.CertificateLines.finish.Goals as goal

pub returns-then-is_empty-clause-said : goal.returns-then-is_empty-clause-said
returns-then-is_empty-clause-said c =
    all_read c.args.self.now (c.has_ended.ensures.0 c.if-has_ended.true)
    (empty_items c.is_empty.result c.args.self.now.cut.items c.is_empty.ensures c.if-is_empty.true)

pub returns-else-has_ended-clause-said : goal.returns-else-has_ended-clause-said
returns-else-has_ended-clause-said c =
    let some : c.args.self.now.next.expected ≡ expect.Nothing → 0 < length c.args.self.now.cut.items =
    elim c.else-has_ended.branch [
      | else-has_ended-via-then-has_ended+else-is_empty w ↦ λ e. some_items w.is_empty.result c.args.self.now.cut.items w.is_empty.ensures w.if-is_empty.false
      | else-has_ended-via-else-has_ended w ↦ λ e. absurd (cc (c.has_ended.ensures.1 e, w.if-has_ended.false))
    ] in
    last_line c.args.self.now c.wrong_line.result c.requires some c.wrong_line.ensures
