-- The value of the setting is the one in the lines from here on.
use Rattle.std.proofs.Common.{◌≡◌, ◌+◌, ◌≤◌, length}
use Rattle.ngc_grbl_lines.specs.Lines.{lines_of}
use Rattle.ngc_machine_maker.specs.Grbl.{setting_in}
use Rattle.ngc_machine_maker.proofs.grbl.setting.Given as goal

abbrev pub invariant-loop-rest : goal.invariant-loop-rest
invariant-loop-rest l = record {
  value : setting_in l.number l.places l.at (lines_of l.rest) ≡ setting_in l.number l.places 1 (lines_of l.fn.text);
  at : l.at + length l.rest ≤ length l.fn.text + 1;
}

abbrev pub decreases-loop-rest : goal.decreases-loop-rest
decreases-loop-rest l = length l.rest
