-- The mistakes found so far, with those of the remaining commands, are those of all.
use Rattle.std.proofs.Common.{◌≡◌, ◌≤◌, ◌+◌, length}
use Rattle.ngc_frames.specs.Walks.{WalksOver}
use Rattle.ngc_machine_files.specs.Machine.{file_of}
use Rattle.ngc_length_warnings.specs.Slips.{all_found, count_of, slips_of, with_later}
use Rattle.ngc_length_warnings.proofs.slips.slips_of.Given as goal

abbrev pub invariant-loop-command : goal.invariant-loop-command
invariant-loop-command g l = record {
  walks : WalksOver l.frames.start l.frames.changes.items l.walk;
  same : with_later l.found (all_found l.kind l.frames.start l.frames.changes.items l.index l.reached l.left)
      ≡ slips_of l.kind (file_of l.machine) l.frames.start l.frames.changes.items l.commands;
  few : count_of l.found + length l.left ≤ length l.commands;
  place : l.index + length l.left ≡ length l.commands;
}

abbrev pub decreases-loop-command : goal.decreases-loop-command
decreases-loop-command g l = length l.left
