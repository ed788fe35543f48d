use Rattle.std.proofs.Common.{Some}
use Rattle.ngc_inputs.specs.Unread.{SourceFails}
use Rattle.ngc_inputs.proofs.UnreadLaws.{certificate_tried}
use Rattle.ngc_inputs.proofs.opening.read_certificate.Goals as goal

pub returns-in-Ok-clause-unread : goal.returns-in-Ok-clause-unread
returns-in-Ok-clause-unread g c =
    certificate_tried (SourceFails g.F.R.Source.remaining g.F.R.Source.failures) (g.F.Files.bytes c.args.files.now)
    (Some c.args.name.now) _ _ c.read.result c.in-Ok.ensures.counts
    (λ is. record { opened = c.in-Ok.source; left = c.read.new.source; gave = c.in-Ok.ensures.bytes; fails = c.read.ensures.device is })
