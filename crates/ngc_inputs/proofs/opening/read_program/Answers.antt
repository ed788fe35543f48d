use Rattle.std.specs.Prelude.{option_map}
use Rattle.ngc_inputs.specs.Unread.{SourceFails}
use Rattle.ngc_inputs.proofs.UnreadLaws.{program_tried}
use Rattle.ngc_inputs.proofs.opening.read_program.Goals as goal

pub returns-clause-unread : goal.returns-clause-unread
returns-clause-unread g c =
    program_tried (SourceFails g.F.R.Source.remaining g.F.R.Source.failures) (g.F.Files.bytes c.args.files.now)
    (option_map (λ n. n.now) c.args.name) _ _ c.read.result c.in_ok-source.ensures.counts
    (λ is. record { opened = c.in_ok-source.source; left = c.read.new.source; gave = c.in_ok-source.ensures.bytes; fails = c.read.ensures.device is })
