use Rattle.std.proofs.Common.{Some}
use Rattle.ngc_inputs.specs.Unread.{SourceFails}
use Rattle.ngc_inputs.proofs.UnreadLaws.{certificate_tried}
use Rattle.ngc_inputs.proofs.judging.judge_file.Goals as goal

pub returns-in-Ok-clause-unread : goal.returns-in-Ok-clause-unread
returns-in-Ok-clause-unread g c =
    certificate_tried (SourceFails g.F.R.Source.remaining g.F.R.Source.failures) (g.F.Files.bytes c.args.files.now)
    (Some c.args.name.now) _ _ c.judge.result c.in-Ok.ensures.counts
    (λ is. record { opened = c.in-Ok.source; left = c.judge.new.certificate; gave = c.in-Ok.ensures.bytes; fails = c.judge.ensures.device is })
