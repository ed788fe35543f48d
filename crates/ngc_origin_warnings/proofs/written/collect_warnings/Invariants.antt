-- What is collected so far, with the warnings of the other commands, is the whole.
use Rattle.std.proofs.Common.{◌≡◌, ◌++◌, drop}
use Rattle.ngc_frames.specs.Walks.{WalksOver}
use Rattle.ngc_machine_files.specs.Machine.{file_of}
use Rattle.ngc_text.specs.Collected.{WritesPrefix}
use Rattle.ngc_origin_warnings.specs.Warnings.{none_warned, warnings_from}
use Rattle.ngc_origin_warnings.proofs.written.collect_warnings.Given as goal

abbrev pub invariant-loop-index : goal.invariant-loop-index
invariant-loop-index g l = record {
  front : WritesPrefix (g.W.Sink.written l.initial.sink) (g.W.Sink.written l.sink)
      (l.initial.chunk ++ warnings_from l.form (file_of l.machine) l.fn.lowest l.history.start l.history.changes.items none_warned 0 l.commands)
      (l.chunk ++ warnings_from l.form (file_of l.machine) l.fn.lowest l.history.start l.history.changes.items l.warned.lines l.index
      (drop l.index l.commands));
  walk : WalksOver l.history.start l.history.changes.items l.walk;
  failures : g.W.Sink.failures l.sink ≡ g.W.Sink.failures l.initial.sink;
}
