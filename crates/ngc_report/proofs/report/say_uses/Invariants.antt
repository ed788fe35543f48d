use Rattle.std.proofs.Common.{◌≤◌, length, drop}
use Rattle.ngc_machine_files.specs.Machine.{file_of}
use Rattle.ngc_sentences.proofs.Said.{IsLeft}
use Rattle.ngc_report.specs.Forms.{report_text}
use Rattle.ngc_report.specs.Reports.{use_lines}
use Rattle.ngc_findings.specs.Uses.{tool_uses, uses_left}
use Rattle.ngc_report.proofs.report.say_uses.Given as goal

abbrev pub invariant-loop-one : goal.invariant-loop-one
invariant-loop-one g l = record {
  left : IsLeft (g.W.Sink.written l.initial.output) (g.W.Sink.written l.output) (g.W.Sink.failures l.initial.output) (g.W.Sink.failures l.output)
      l.initial.page l.page
      (report_text l.form (use_lines (file_of l.machine) (uses_left l.uses) (drop l.first (g.M.MotionList.entries l.motions))))
      (report_text l.form (use_lines (file_of l.machine) (tool_uses l.commands) (g.M.MotionList.entries l.motions)));
  inside : l.first ≤ length (g.M.MotionList.entries l.motions);
}

abbrev pub decreases-loop-one : goal.decreases-loop-one
decreases-loop-one g l = length (uses_left l.uses)
