use Rattle.std.proofs.Common.{Some, ◌∷◌, []}
use Rattle.ngc_simulator.specs.Answers.{program_input}
use Rattle.ngc_inputs.specs.Unread.{SourceFails}
use Rattle.ngc_simulator.proofs.FaultsLaws.{all_read}
use Rattle.ngc_simulator.proofs.faults_files.report_named.Goals as goal

pub returns-clause-unread : goal.returns-clause-unread
returns-clause-unread g c =
    all_read (SourceFails g.F.R.Source.remaining g.F.R.Source.failures) (g.F.Files.bytes c.args.files.now) (program_input (Some c.args.name.now) ∷ []) _ _
    c.print_failure.result c.print_failure.ensures.read c.in-Ok.ensures.counts
