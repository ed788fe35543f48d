use Rattle.std.proofs.lemmas.Bool.{not-true}
use Rattle.ngc_certificate_text.proofs.LinesSoFar.{has_trailing_bytes, some_items}
use Rattle.ngc_certificate_text.proofs.certificate_lines.CertificateLines.has_trailing_bytes.Goals as goal

pub returns-then-has_ended : goal.returns-then-has_ended
returns-then-has_ended c is reading rest =
    has_trailing_bytes c.args.self.now rest (c.has_ended.ensures.0 c.if-has_ended.true)
    (some_items c.is_empty.result c.args.self.now.cut.items c.is_empty.ensures (not-true c.is_empty.result is)) reading
