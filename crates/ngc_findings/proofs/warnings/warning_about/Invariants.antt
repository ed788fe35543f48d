use Rattle.std.proofs.Common.{◌≡◌, ◌≤◌, drop, None}
use Rattle.std.specs.Prelude.{fold}
use Rattle.ngc_machine_files.specs.Machine.{file_of}
use Rattle.ngc_findings.specs.Warnings.{lines_of, counted, number_of}
use Rattle.ngc_findings.specs.ToolStates.{beginning}
use Rattle.ngc_findings.proofs.warnings.warning_about.Given as goal

abbrev pub invariant-loop-command : goal.invariant-loop-command
invariant-loop-command g l = record {
  same : fold (counted l.concern) l.found (lines_of (file_of l.machine) l.concern l.before (drop l.command-index l.commands))
      ≡ fold (counted l.concern) None (lines_of (file_of l.machine) l.concern (beginning (file_of l.machine) l.concern l.commands) l.commands);
  few : number_of l.found ≤ l.command-index;
}
