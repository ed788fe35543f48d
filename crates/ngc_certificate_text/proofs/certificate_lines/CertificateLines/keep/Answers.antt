use Rattle.std.proofs.Common.{◌+◌, length}
use Rattle.ngc_certificate_text.proofs.LinesSoFar.{long_cut, no_room}
use Rattle.ngc_certificate_text.proofs.certificate_lines.CertificateLines.keep.Goals as goal

pub returns-in-Err-clause-step : goal.returns-in-Err-clause-step
returns-in-Err-clause-step c lines parts rest =
    let long = no_room (length c.args.self.now.cut.items + length c.args.bytes.now) (λ fits. cc (c.in-Err.ensures.variant.1 fits)) in
    long_cut lines c.args.self.now c.args.bytes.now rest c.wrong_line.result parts c.requires.reading c.requires.feedless long c.wrong_line.ensures
