-- The refused commands so far, and what holds between two of them.
use Rattle.std.proofs.Common.{◌≡◌, ◌++◌, flat_map, take}
use Rattle.ngc_frames.specs.Walks.{WalksOver}
use Rattle.ngc_machine_files.specs.Machine.{file_of}
use Rattle.ngc_findings.specs.Scenes.{StandsAfter}
use Rattle.ngc_text.specs.Collected.{WritesPrefix}
use Rattle.ngc_program_report.specs.Coordinates.{history_of}
use Rattle.ngc_program_report.specs.Texts.{command_refusal}
use Rattle.ngc_program_report.proofs.refusal_writer.collect_refusals.Given as goal

abbrev pub invariant-loop-index : goal.invariant-loop-index
invariant-loop-index g l = record {
  front : WritesPrefix (g.W.Sink.written l.initial.output) (g.W.Sink.written l.output)
      (l.initial.chunk ++ flat_map (command_refusal l.subject.form l.subject.origins.now (file_of l.subject.machine.now) l.execution.commands.now (history_of l.execution.history.now.start l.execution.history.now.changes.items))
      (take l.index-index l.indices)) l.chunk;
  standing : StandsAfter (file_of l.subject.machine.now) l.execution.commands.now l.standing;
  walk : WalksOver l.execution.history.now.start l.execution.history.now.changes.items l.walk;
  failures : g.W.Sink.failures l.output ≡ g.W.Sink.failures l.initial.output;
}
